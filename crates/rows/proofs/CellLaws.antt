-- Laws of an argument compared with an element.
use mathlib.Core.Bool.{Bool, true, false, not}
use mathlib.Core.Path.{◌≡◌, refl}
use mathlib.Core.List.{List}
use Prim.Native.Nat.{ℕ, ◌+◌, ◌-◌, ◌<◌}
use native.Mathlib.Omega.{arith}
use borrow.Author.Tests.{ltb-true, ltb-false}
use lib.Dec.{ltb}
use lib.IntN.{ℤ, pos}
use lib.ListN.{length, get_or}
use Rattle.column.proofs.RowLaws.{elem_plain}
use Rattle.model.specs.Basics.{pick}
use Rattle.model.specs.Bitmap.{Bits, valid_at}
use Rattle.model.specs.Column.{Elem, nul, val, elem_at}
use Rattle.model.specs.Elements.{eq_z, same_elem}
use Rattle.model.specs.Form.{is_val}
use Rattle.rows.specs.Found.{Before}

-- a null is matched by nulls
pub same_null : (e : Elem) → not (is_val e) ≡ same_elem e nul
unfolding is_val same_elem
same_null nul = refl
same_null (val v) = refl

-- a value is matched by no null, and by values as they are equal
pub null_same : (v : ℤ) → false ≡ same_elem nul (val v)
unfolding same_elem
null_same v = refl

pub value_same : (a b : ℤ) → eq_z a b ≡ same_elem (val a) (val b)
unfolding same_elem
value_same a b = refl

-- where the bitmap is empty, no element is null
module _ (vs : List ℤ) (eb : Bits) (z : length eb.bytes ≡ 0) (i : ℕ) where
  pub plain_null : same_elem (elem_at vs eb i) nul ≡ false
  unfolding same_elem
  plain_null = rw (elem_plain vs eb i z)

  pub plain_value : (v : ℤ) → eq_z (get_or vs i (pos 0)) v ≡ same_elem (elem_at vs eb i) (val v)
  plain_value v = rw (elem_plain vs eb i z) (value_same (get_or vs i (pos 0)) v)

-- an element under which another value stands is no match, null or not
module _ (vs : List ℤ) (eb : Bits) (v : ℤ) where
  unequal : (i : ℕ) → eq_z (get_or vs i (pos 0)) v ≡ false → same_elem (elem_at vs eb i) (val v) ≡ false
  unfolding elem_at same_elem
  unequal i h = cases (valid_at eb i)
    where
      cases : (t : Bool) → same_elem (pick t (val (get_or vs i (pos 0))) nul) (val v) ≡ false
      cases true = h
      cases false = refl

  -- r elements are no match, nor are the k after them that come before the value
  pub none_more : (a r n k : ℕ) → ((i : ℕ) → i < r → same_elem (elem_at vs eb (a + i)) (val v) ≡ false) → Before (λ i. eq_z (get_or vs (a + r + i) (pos 0)) v) n k → (i : ℕ) → i < r + k → same_elem (elem_at vs eb (a + i)) (val v) ≡ false
  none_more a r n k f b i h = cases (ltb i r) refl
    where
      cases : (t : Bool) → ltb i r ≡ t → same_elem (elem_at vs eb (a + i)) (val v) ≡ false
      cases true e = f i (ltb-true i r e)
      cases false e =
          let l = ltb-false i r e in
          let q : a + r + (i - r) ≡ a + i = omega arith in
          unequal (a + i) (rw q at (b.none (i - r) (omega arith)))
