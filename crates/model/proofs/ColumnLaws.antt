-- What a column shows, by its rows and places.
-- "Two columns show equal rows when they have equally many rows, the same rows are null, and every other row has one length in
-- both and at each place a null in both or the same value": then the rows that they show are one list. So for equal arguments.
use Prim.Native.Nat.{ℕ, ◌+◌, ◌-◌, ◌<◌}
use mathlib.Core.Path.{◌≡◌, refl, ap, ◌∙◌}
use mathlib.Core.Bool.{Bool, true, false}
use mathlib.Core.List.{List, [], ◌∷◌}
use native.Mathlib.Nat.{zero-add}
use native.Mathlib.Omega.{arith}
use lib.ListN.{length}
use lib.IntN.{ℤ}
use Rattle.model.specs.Basics.{pick, tab}
use Rattle.model.specs.Bitmap.{Bits, valid_at}
use Rattle.model.specs.Column.{Elem, nul, val, Row, null_row, list_row, Column, column, Arguments, arguments, row_count, offset_at, length_at, elem_at, row_at, rows_of, shown_by, bad_offsets, refusal1, EqualRows, EqualArguments}
use Rattle.model.specs.Rows.{row_of, argument_of}
use Rattle.model.proofs.TabLaws.{tab_ext, length-tab, get_or-tab}

-- two choices are equal where the tests are, and what they choose where those hold
pub pick_same : {A : Type 0} (p q : Bool) (x y z : A) → p ≡ q → (p ≡ true → x ≡ y) → pick p x z ≡ pick q y z
pick_same true q x y z e h = rw (← e) (h refl)
pick_same false q x y z e h = rw (← e)

module _ {c d : Column} (e : EqualRows c d) where
  pub same_row : (r : ℕ) → r < row_count c.offsets → row_at c r ≡ row_at d r
  unfolding row_at
  same_row r l =
      pick_same (valid_at c.rows r) (valid_at d.rows r) _ _ null_row (e.nulls r l)
      (λ v. rw (← (e.lengths r l v)) (ap list_row (tab_ext _ _ _ _ (length_at c r) (λ i h. e.places r i l v h))))

  pub same_rows : rows_of c ≡ rows_of d
  unfolding rows_of
  same_rows = rw (← e.many) (tab_ext (row_at c) (row_at d) 0 0 _ (λ r l. simp zero-add (same_row r l)))

pub same_arguments : {a b : Arguments} → EqualArguments a b → shown_by a ≡ shown_by b
unfolding shown_by elem_at
same_arguments {a} {b} e =
    rw (← e.many)
    (tab_ext (elem_at a.values a.bits) (elem_at b.values b.bits) 0 0 (length a.values)
    (λ i l. simp zero-add (pick_same (valid_at a.bits i) (valid_at b.bits i) _ _ nul (e.nulls i l) (λ v. ap val (e.values i l v)))))

-- a column shows the same rows as itself
pub equal-rows : (c : Column) → EqualRows c c
equal-rows c = record { many = refl; nulls = λ r l. refl; lengths = λ r l v. refl; places = λ r i l v h. refl }

-- a column with no offsets at all "shows the same rows as a zero-row column with one offset"
pub no_units : (c d : Column) → length c.offsets ≡ 0 → length d.offsets ≡ 1 → EqualRows c d
no_units c d g h =
    record {
      many = omega arith;
      nulls = λ r l. absurd (none r l);
      lengths = λ r l v. absurd (none r l);
      places = λ r i l v k. absurd (none r l);
    }
  where
    none : (r : ℕ) → r < row_count c.offsets → ⊥
    none r l = omega arith

-- and it is not refused by 1, whatever values lie beside it
pub no_units_good : (c : Column) → length c.offsets ≡ 0 → refusal1 c ≡ false
unfolding bad_offsets
no_units_good c h = none c.offsets h
  where
    none : (o : List ℤ) → length o ≡ 0 → bad_offsets o (length c.values) ≡ false
    none [] e = refl
    none (x ∷ o) e = let z : ⊥ = omega arith in absurd z

-- ---- other starting bits

-- "Columns with equal rows but other starting bits answer alike in two runs.": columns whose bitmaps differ, in starting bits and in bytes,
-- show equal rows where each row, and each place of a valid row, is null in both or in neither
pub other_bits : (o v : List ℤ) (rb rb' eb eb' : Bits) → ((r : ℕ) → r < row_count o → valid_at rb r ≡ valid_at rb' r)
    → ((r i : ℕ) → r < row_count o → valid_at rb r ≡ true → i < offset_at o (r + 1) - offset_at o r → valid_at eb (offset_at o r + i) ≡ valid_at eb' (offset_at o r + i)) → EqualRows (column o rb v eb) (column o rb' v eb')
unfolding elem_at
other_bits o v rb rb' eb eb' h g = record { many = refl; nulls = h; lengths = λ r l w. refl; places = λ r i l w k. rw (g r i l w k) }

pub other_bitsᵃ : (v : List ℤ) (b b' : Bits) → ((i : ℕ) → i < length v → valid_at b i ≡ valid_at b' i) → EqualArguments (arguments v b) (arguments v b')
other_bitsᵃ v b b' h = record { many = refl; nulls = h; values = λ i l w. refl }

-- ---- what is shown at a place

pub length-rows : (c : Column) → length (rows_of c) ≡ row_count c.offsets
unfolding rows_of
length-rows c = length-tab (row_at c) 0 (row_count c.offsets)

pub row_at_lem : (c : Column) (r : ℕ) → r < row_count c.offsets → row_of (rows_of c) r ≡ row_at c r
unfolding rows_of
row_at_lem c r h = get_or-tab (row_at c) 0 (row_count c.offsets) r null_row h ∙ ap (row_at c) (zero-add r)

pub length-shown : (a : Arguments) → length (shown_by a) ≡ length a.values
unfolding shown_by
length-shown a = length-tab (elem_at a.values a.bits) 0 (length a.values)

pub argument_at : (a : Arguments) (r : ℕ) → r < length a.values → argument_of (shown_by a) r ≡ elem_at a.values a.bits r
unfolding shown_by
argument_at a r h = get_or-tab (elem_at a.values a.bits) 0 (length a.values) r nul h ∙ ap (elem_at a.values a.bits) (zero-add r)

-- a function of row r and of its argument, from what is shown and from the columns
pub by_row : {A : Type 0} (f : Row → Elem → A) (c : Column) (a : Arguments) → length a.values ≡ row_count c.offsets
    → tab (λ r. f (row_of (rows_of c) r) (argument_of (shown_by a) r)) 0 (length (rows_of c)) ≡ tab (λ r. f (row_at c r) (elem_at a.values a.bits r)) 0 (row_count c.offsets)
by_row f c a e = rw (length-rows c) (tab_ext _ _ 0 0 (row_count c.offsets) (λ r h. rw (zero-add r, row_at_lem c r h, argument_at a r (rw e h))))
