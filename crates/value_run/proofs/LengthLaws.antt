-- The lengths that any-value and element need: one value for each row, unless a number refuses the call.
use Prim.Native.Nat.{ℕ}
use mathlib.Core.Path.{◌≡◌, refl, ap, ◌∙◌}
use mathlib.Core.Bool.{Bool, true, false}
use mathlib.Core.List.{List, [], ◌∷◌}
use native.Mathlib.Omega.{arith}
use borrow.Author.Tests.{le-leb}
use lib.Dec.{eqb}
use lib.ListN.{length}
use Rattle.model.specs.Basics.{pick}
use Rattle.model.specs.Bitmap.{bytes_for}
use Rattle.model.specs.Column.{Elem, Column, rows_of, shown_by, row_count}
use Rattle.model.specs.Form.{ValueRoom}
use Rattle.model.specs.Lengths.{value_room_for, room_of_values, any_value_lengths_shown, any_value_lengths, element_lengths_shown, element_lengths}
use Rattle.model.specs.Limits.{Limits}
use Rattle.model.specs.Outcome.{Outcome, refused, made, gate, columns_refusal, fitted_values, elements_made, element_shown, element_outcome}
use Rattle.model.specs.Rows.{any_value_of}
use Rattle.model.proofs.ColumnLaws.{length-rows}
use Rattle.model.proofs.TabLaws.{length-map, length-tab}
use Rattle.column.specs.Columns.{values_in}
use Rattle.column.specs.declared.elements.ValueColumn.{ValueColumn}
use Rattle.value_places.proofs.ValueLaws.{length-made}
use Rattle.value_places.specs.Values.{values_made, ElementChecked}
use Rattle.value_places.specs.declared.ValueOp.TheVariants as V'

pub any-lengths : (c : Column) → any_value_lengths c ≡ gate (columns_refusal (c ∷ []) []) (made (value_room_for (row_count c.offsets)))
unfolding any_value_lengths any_value_lengths_shown
any-lengths c = rw (length-map any_value_of (rows_of c), length-rows c)

-- what a call comes to, its values' lengths alone
rooms : Outcome (List Elem) → Outcome ValueRoom
rooms (refused k) = refused k
rooms (made es) = made (room_of_values es)

rooms_gate : (k : ℕ) (o : Outcome (List Elem)) → rooms (gate k o) ≡ gate k (rooms o)
unfolding gate rooms
rooms_gate k o = cases (eqb k 0)
  where
    cases : (t : Bool) → rooms (pick t o (refused k)) ≡ pick t (rooms o) (refused k)
    cases true = refl
    cases false = refl

-- so many values fit their own room
fits : (es : List Elem) (n : ℕ) → length es ≡ n → rooms (fitted_values es (value_room_for n)) ≡ made (value_room_for n)
unfolding fitted_values rooms
fits es n e = rw (e, le-leb n n (omega arith), le-leb (bytes_for n) (bytes_for n) (omega arith), e)

-- a call in a room that is exact tells the lengths
module _ (L : Limits) (c : Column) (is : ValueColumn) where
  abbrev n : ℕ
  n = row_count c.offsets

  length-elements : length (elements_made (rows_of c) (shown_by (values_in is))) ≡ n
  unfolding elements_made
  length-elements = length-tab _ 0 (length (rows_of c)) ∙ length-rows c

  asked : element_lengths L c (values_in is) ≡ rooms (element_outcome L c (values_in is) (value_room_for n))
  unfolding element_lengths element_lengths_shown element_outcome element_shown
  asked = rw (rooms_gate, rooms_gate, rooms_gate, fits (elements_made (rows_of c) (shown_by (values_in is))) n length-elements, length-elements)

  pub element-lengths : (k : ℕ) → ElementChecked L c is k → element_lengths L c (values_in is) ≡ gate k (made (value_room_for n))
  element-lengths k h =
      asked ∙ ap rooms (h.outcome (value_room_for n)) ∙ rooms_gate k (fitted_values (values_made (V'.Element is) c) (value_room_for n))
      ∙ ap (gate k) (fits (values_made (V'.Element is) c) n (length-made (V'.Element is) c))
