-- Laws of the arguments that are taken, and of refusals 2 and 3 of their columns.
use Rattle.std.specs.Prelude.{None, Some}
use Prim.Native.Nat.{ℕ, ◌<◌}
use mathlib.Core.Path.{◌≡◌, refl, sym, ◌∙◌, subst}
use mathlib.Core.Bool.{Bool, true, false, not, ◌&&◌, ◌||◌}
use mathlib.Core.List.{List}
use native.Mathlib.Omega.{arith}
use borrow.Author.Tests.{eqb-true, ltb-false}
use lib.Dec.{T, ltb, eqb}
use lib.IntN.{ℤ, pos}
use lib.ListN.{length, get_or}
use Rattle.model.specs.Basics.{pick}
use Rattle.model.specs.Bitmap.{Bits, valid_at}
use Rattle.model.specs.Column.{Elem, nul, val, Column, Arguments, elem_at, row_at, shown_by, rows_of, row_count, refusal2ᵃ}
use Rattle.model.specs.Rows.{at_row, argument_of, limit_of, on_lent}
use Rattle.model.proofs.ColumnLaws.{argument_at, row_at_lem, length-shown}
use Rattle.column.proofs.RowLaws.{elem_valid, elem_null}
use Rattle.rows.specs.Cells.{elem_of}
use Rattle.ops.specs.Ops.{call_of, takes_of, second_limit, third_limit, table}
use Rattle.ops.specs.declared.Arity.{Arity}
use Rattle.ops.specs.declared.ListOp.{ListOp}
use Rattle.ops.specs.declared.ListOp.TheVariants as L
use Rattle.arguments.specs.Taken.{cell_of, place_in, taken_at, Serves, Served, over_if, start_over, short_if, wrong_if, arguments_refusal}
use Rattle.model.proofs.BoolLaws.{same_number}

-- ---- a cell

pub elem_of_cell : (e : Elem) → elem_of (cell_of e) ≡ e
unfolding elem_of cell_of
elem_of_cell nul = refl
elem_of_cell (val v) = refl

module _ (vs : List ℤ) (b : Bits) (i : ℕ) where
  pub cell_valid : valid_at b i ≡ true → Some (get_or vs i (pos 0)) ≡ cell_of (elem_at vs b i)
  unfolding cell_of
  cell_valid h = rw (elem_valid vs b i h)

  pub cell_null : valid_at b i ≡ false → None ≡ cell_of (elem_at vs b i)
  unfolding cell_of
  cell_null h = rw (elem_null vs b i h)

-- ---- what is taken is what the definition takes

module _ (n r : ℕ) (h : r < n) (a : Arguments) where
  pub taken_own : Serves false n a → elem_of (taken_at true false a r) ≡ argument_of (shown_by a) r
  unfolding taken_at place_in
  taken_own s = elem_of_cell _ ∙ sym (argument_at a r (s.there r h))

  limit_cases : (t : Bool) → pick t 0 r < length a.values → pick t (argument_of (shown_by a) 0) (argument_of (shown_by a) r) ≡ elem_at a.values a.bits (pick t 0 r)
  limit_cases true l = argument_at a 0 l
  limit_cases false l = argument_at a r l

  pub taken_limit : Serves true n a → elem_of (taken_at true true a r) ≡ limit_of (shown_by a) r
  unfolding taken_at place_in limit_of
  taken_limit s = elem_of_cell _ ∙ sym (rw (length-shown a) (limit_cases (eqb (length a.values) 1) (s.there r h)))

-- what an operation takes for row r
pub at_row_lem : (op : ListOp) (c : Column) (x y z : Arguments) (r : ℕ) → r < row_count c.offsets → Served op (row_count c.offsets) x y z
    → call_of op (row_at c r) (elem_of (taken_at (ltb 0 (takes_of op)) false x r)) (elem_of (taken_at (ltb 1 (takes_of op)) (second_limit op) y r)) (elem_of (taken_at (ltb 2 (takes_of op)) (third_limit op) z r)) ≡ at_row (call_of op (rows_of c) (shown_by x) (shown_by y) (shown_by z)) r
unfolding call_of at_row on_lent table
at_row_lem (L.Plain u) c x y z r h s = rw (row_at_lem c r h)
at_row_lem L.Slice c x y z r h s = rw (row_at_lem c r h, taken_own _ r h x (s.first refl), taken_own _ r h y (s.second refl))
at_row_lem L.SliceBy c x y z r h s = rw (row_at_lem c r h, taken_own _ r h x (s.first refl), taken_own _ r h y (s.second refl), taken_own _ r h z (s.third refl))
at_row_lem L.Resize c x y z r h s = rw (row_at_lem c r h, taken_own _ r h x (s.first refl))
at_row_lem L.ResizeWith c x y z r h s = rw (row_at_lem c r h, taken_own _ r h x (s.first refl), taken_own _ r h y (s.second refl))
at_row_lem L.Replace c x y z r h s = rw (row_at_lem c r h, taken_own _ r h x (s.first refl), taken_own _ r h y (s.second refl), taken_limit _ r h z (s.third refl))
at_row_lem L.Remove c x y z r h s = rw (row_at_lem c r h, taken_own _ r h x (s.first refl), taken_limit _ r h y (s.second refl))

-- ---- 13, 2 and 3

none_of : (x y z : Bool) → x || y || z ≡ false → (x ≡ false) × (y ≡ false) × (z ≡ false)
none_of false false false e = (refl, refl, refl)
none_of false false true e = absurd (subst T e tt)
none_of false true z e = absurd (subst T e tt)
none_of true y z e = absurd (subst T e tt)

-- the columns that are taken, by how many they are
pub over_is : (op : ListOp) (k x y z : ℕ) → takes_of op ≡ k → start_over op x y z ≡ (over_if (ltb 0 k) x || over_if (ltb 1 k) y || over_if (ltb 2 k) z)
unfolding start_over
over_is op k x y z e = rw e

-- no column that is taken has a starting bit over 7
pub none_over : (op : ListOp) (k x y z : ℕ) → takes_of op ≡ k → start_over op x y z ≡ false → (over_if (ltb 0 k) x ≡ false) × (over_if (ltb 1 k) y ≡ false) × (over_if (ltb 2 k) z ≡ false)
unfolding start_over
none_over op k x y z e h = rw (← e) (none_of (over_if (ltb 0 (takes_of op)) x) (over_if (ltb 1 (takes_of op)) y) (over_if (ltb 2 (takes_of op)) z) h)

-- 2 of the columns that are taken, else 3, by what the operation takes
pub refusal_is : (op : ListOp) (t : Arity) (n : ℕ) (x y z : Arguments) → t ≡ table op
    → arguments_refusal op n x y z ≡ pick (short_if (ltb 0 t.columns) x || short_if (ltb 1 t.columns) y || short_if (ltb 2 t.columns) z) 2 (pick (wrong_if (ltb 0 t.columns) false n (length x.values) || wrong_if (ltb 1 t.columns) (t.limited && eqb t.columns 2) n (length y.values) || wrong_if (ltb 2 t.columns) (t.limited && eqb t.columns 3) n (length z.values)) 3 0)
unfolding arguments_refusal
refusal_is op t n x y z e = rw e

none_left : (p q : Bool) → ◌≡◌ {A = ℕ} (pick p 2 (pick q 3 0)) 0 → (p ≡ false) × (q ≡ false)
none_left true q e = let z : ⊥ = omega arith in absurd z
none_left false true e = let z : ⊥ = omega arith in absurd z
none_left false false e = (refl, refl)

there_cases : (limit t : Bool) (n len : ℕ) → eqb len 1 ≡ t → not (limit && t) && not (eqb len n) ≡ false → (r : ℕ) → r < n → pick (limit && t) 0 r < len
there_cases true true n len e h r l = let k = eqb-true len 1 e in omega arith
there_cases true false n len e h r l = let k = same_number len n h in omega arith
there_cases false t n len e h r l = let k = same_number len n h in omega arith

served_if : (on limit : Bool) (n : ℕ) (a : Arguments) → over_if on a.bits.start ≡ false → short_if on a ≡ false → wrong_if on limit n (length a.values) ≡ false → on ≡ true → Serves limit n a
unfolding over_if short_if wrong_if refusal2ᵃ place_in
served_if true limit n a s h w o = record { bits = record { small = omega (arith, ltb-false 7 a.bits.start s); long = h }; there = there_cases limit (eqb (length a.values) 1) n (length a.values) refl w }
served_if false limit n a s h w o = absurd (subst T (sym o) tt)

module _ (op : ListOp) (n : ℕ) (x y z : Arguments) where
  pub served : start_over op x.bits.start y.bits.start z.bits.start ≡ false → arguments_refusal op n x y z ≡ 0 → Served op n x y z
  unfolding arguments_refusal
  served b e =
      let v = none_over op (takes_of op) x.bits.start y.bits.start z.bits.start refl b in
      let p = none_left _ _ e in
      let s = none_of _ _ _ p.0 in
      let w = none_of _ _ _ p.1 in
      record {
        first = served_if (ltb 0 (takes_of op)) false n x v.0 s.0 w.0;
        second = served_if (ltb 1 (takes_of op)) (second_limit op) n y v.1 s.1 w.1;
        third = served_if (ltb 2 (takes_of op)) (third_limit op) n z v.2 s.2 w.2;
      }
