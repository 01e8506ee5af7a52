-- Laws of one element, of one row, and of a walk over rows.
use mathlib.Core.Path.{◌≡◌, refl}
use mathlib.Core.Bool.{Bool, true, false}
use mathlib.Core.List.{List, [], ◌∷◌, ◌++◌, append_assoc}
use Prim.Native.Nat.{ℕ, ◌+◌, ◌-◌, ◌≤◌, ◌<◌}
use native.Mathlib.Omega.{arith}
use lib.IntN.{ℤ, pos}
use lib.ListN.{length, get_or, length-append}
use Rattle.model.specs.Bitmap.{Bits, valid_at}
use Rattle.model.specs.Basics.{pick, tab}
use Rattle.model.specs.Column.{Elem, nul, val, Row, null_row, list_row, elem_at}
use Rattle.model.specs.Form.{is_val, under_null, value_of, is_row, elems_of, flat}
use Rattle.model.proofs.TabLaws.{tab-step, tab-none}
use Rattle.column.specs.Rows.{row_from, len_from}

-- ---- one element

val_of : (b : Bool) (v : ℤ) → is_val (pick b (val v) nul) ≡ b
unfolding is_val
val_of true v = refl
val_of false v = refl

pub is_val_elem : (vs : List ℤ) (eb : Bits) (i : ℕ) → is_val (elem_at vs eb i) ≡ valid_at eb i
unfolding elem_at
is_val_elem vs eb i = val_of (valid_at eb i) (get_or vs i (pos 0))

value_of_lem : (b : Bool) (v : ℤ) → value_of (pick b (val v) nul) ≡ pick b v under_null
unfolding value_of
value_of_lem true v = refl
value_of_lem false v = refl

pub value_elem : (vs : List ℤ) (eb : Bits) (i : ℕ) → value_of (elem_at vs eb i) ≡ pick (valid_at eb i) (get_or vs i (pos 0)) under_null
unfolding elem_at
value_elem vs eb i = value_of_lem (valid_at eb i) (get_or vs i (pos 0))

pub elem_valid : (vs : List ℤ) (eb : Bits) (i : ℕ) → valid_at eb i ≡ true → elem_at vs eb i ≡ val (get_or vs i (pos 0))
unfolding elem_at
elem_valid vs eb i h = rw h

pub elem_null : (vs : List ℤ) (eb : Bits) (i : ℕ) → valid_at eb i ≡ false → elem_at vs eb i ≡ nul
unfolding elem_at
elem_null vs eb i h = rw h

-- a bitmap of length 0
pub elem_plain : (vs : List ℤ) (eb : Bits) (i : ℕ) → length eb.bytes ≡ 0 → elem_at vs eb i ≡ val (get_or vs i (pos 0))
unfolding valid_at
elem_plain vs eb i z = elem_valid vs eb i (rw z)

-- ---- one row

row_of_lem : (b : Bool) (es : List Elem) → is_row (pick b (list_row es) null_row) ≡ b
unfolding is_row
row_of_lem true es = refl
row_of_lem false es = refl

elems_of_lem : (b : Bool) (f : ℕ → Elem) (a n : ℕ) → elems_of (pick b (list_row (tab f a n)) null_row) ≡ tab f a (pick b n 0)
unfolding elems_of tab
elems_of_lem true f a n = refl
elems_of_lem false f a n = refl

len_le : (b : Bool) (x y : ℕ) → x ≤ y → x + pick b (y - x) 0 ≤ y
len_le true x y h = omega arith
len_le false x y h = omega arith

module _ (rb : Bits) (r a b : ℕ) where
  pub len_from_le : a ≤ b → a + len_from rb r a b ≤ b
  unfolding len_from
  len_from_le h = len_le (valid_at rb r) a b h

  pub len_valid : valid_at rb r ≡ true → len_from rb r a b ≡ b - a
  unfolding len_from
  len_valid h = rw h

  pub len_null : valid_at rb r ≡ false → len_from rb r a b ≡ 0
  unfolding len_from
  len_null h = rw h

  pub elems_from : (E : ℕ → Elem) → elems_of (row_from rb E r a b) ≡ tab E a (len_from rb r a b)
  unfolding row_from len_from
  elems_from E = elems_of_lem (valid_at rb r) E a (b - a)

  pub is_row-from : (E : ℕ → Elem) → is_row (row_from rb E r a b) ≡ valid_at rb r
  unfolding row_from
  is_row-from E = row_of_lem (valid_at rb r) _

-- ---- a walk over rows

pub flat_append : (vs ws : List Row) → flat (vs ++ ws) ≡ flat vs ++ flat ws
unfolding flat
flat_append [] ws = refl
flat_append (v ∷ vs) ws = rw (flat_append vs ws, append_assoc)

module _ (W : ℕ → Row) (r n : ℕ) where
  pub length-step : 0 < n → length (flat (tab W r n)) ≡ length (elems_of (W r)) + length (flat (tab W (r + 1) (n - 1)))
  unfolding flat
  length-step h = rw (tab-step W r n h, length-append)

  pub length_none : n ≤ 0 → length (flat (tab W r n)) ≡ 0
  unfolding flat
  length_none h = rw (tab-none W r n h)
