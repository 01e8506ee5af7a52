-- Laws of the operations that give one value a row: the whole call.
use mathlib.Core.Path.{◌≡◌, refl, sym, ap, ◌∙◌}
use mathlib.Core.Bool.{true, false}
use mathlib.Core.List.{[], ◌∷◌}
use Prim.Native.Nat.{ℕ, ◌+◌}
use native.Mathlib.Omega.{arith}
use borrow.Author.Tests.{eq-eqb, ne_eqb, ltb-false}
use lib.ListN.{length}
use Rattle.model.specs.Basics.{tab}
use Rattle.model.specs.Bitmap.{short_bits}
use Rattle.model.specs.Column.{Column, over_seven, row_at, rows_of, shown_by, row_count}
use Rattle.model.specs.Form.{ValueRoom}
use Rattle.model.specs.Limits.{Limits}
use Rattle.model.specs.Refusals.{first_of, element_refusal}
use Rattle.model.specs.Rows.{any_value_of, element_of}
use Rattle.model.specs.Outcome.{refused, gate, columns_refusal, fitted_values, any_value_shown, any_value_outcome, elements_made, elements_refusal, element_shown, element_outcome}
use Rattle.model.proofs.TabLaws.{tab_ext, map-tab}
use Rattle.model.proofs.OutcomeLaws.{gate_open, gate_shut, beside_starts, beside_early, beside_two, beside_open}
use Rattle.bitmap.specs.Reads.{bits_in}
use Rattle.column.proofs.WalkLaws.{readable}
use Rattle.column.specs.Columns.{values_in}
use Rattle.column.specs.declared.elements.ValueColumn.{ValueColumn}
use Rattle.value_places.specs.Values.{value_made, values_made, ElementChecked}
use Rattle.value_places.specs.declared.ValueOp.TheVariants as V'
use Rattle.value_places.proofs.FoundLaws.{four_at_lem}
use Rattle.value_places.specs.Found.{four_at}
use Rattle.model.proofs.ColumnLaws.{length-rows, length-shown, by_row}

-- ---- the calls

pub any-outcome : (c : Column) (l : ValueRoom) → any_value_outcome c l ≡ gate (columns_refusal (c ∷ []) []) (fitted_values (values_made V'.AnyValue c) l)
unfolding any_value_outcome any_value_shown rows_of values_made value_made
any-outcome c l = rw (map-tab any_value_of (row_at c) 0 (row_count c.offsets))

module _ (L : Limits) (c : Column) (is : ValueColumn) (l : ValueRoom) where
  pub element_starts : over_seven (bits_in is.bits) ≡ true → element_outcome L c (values_in is) l ≡ refused 13
  unfolding element_outcome
  element_starts h = beside_starts c (values_in is) _ h

  module _ (s : over_seven (bits_in is.bits) ≡ false) (k : ℕ) (e : k ≡ columns_refusal (c ∷ []) []) where
    pub element_early : (k ≡ 0 → ⊥) → element_outcome L c (values_in is) l ≡ refused k
    unfolding element_outcome
    element_early h = beside_early c (values_in is) _ s k e h

    pub element-two : k ≡ 0 → short_bits (bits_in is.bits) (length is.values.now) ≡ true → element_outcome L c (values_in is) l ≡ refused 2
    unfolding element_outcome
    element-two h t = beside_two c (values_in is) _ s k e h t

    pub element-shown : k ≡ 0 → short_bits (bits_in is.bits) (length is.values.now) ≡ false → element_outcome L c (values_in is) l ≡ element_shown L (rows_of c) (shown_by (values_in is)) l
    unfolding element_outcome
    element-shown h t = beside_open c (values_in is) _ s k e h t

  pub element_three : (length is.values.now ≡ row_count c.offsets → ⊥) → element_shown L (rows_of c) (shown_by (values_in is)) l ≡ refused 3
  unfolding element_shown gate
  element_three h = rw (length-rows c, length-shown (values_in is), ne_eqb (length is.values.now) (row_count c.offsets) h)

  module _ (e : length is.values.now ≡ row_count c.offsets) where
    fours : elements_refusal L (rows_of c) (shown_by (values_in is)) ≡ first_of (tab (four_at L c.rows (values_in is)) 0 (row_count c.offsets))
    unfolding elements_refusal
    fours = ap first_of (by_row (element_refusal L) c (values_in is) e ∙ tab_ext _ _ 0 0 (row_count c.offsets) (λ r h. four_at_lem L c (values_in is) (0 + r)))

    made-elements : elements_made (rows_of c) (shown_by (values_in is)) ≡ values_made (V'.Element is) c
    unfolding elements_made values_made value_made
    made-elements = by_row element_of c (values_in is) e

    pub element_goes : element_shown L (rows_of c) (shown_by (values_in is)) l ≡ gate (first_of (tab (four_at L c.rows (values_in is)) 0 (row_count c.offsets))) (fitted_values (values_made (V'.Element is) c) l)
    unfolding element_shown
    element_goes = rw (length-rows c, length-shown (values_in is), eq-eqb (length is.values.now) (row_count c.offsets) e, fours, made-elements) (gate_open 0 _ refl)

-- a number refuses element where it refuses the call in any room
pub refuses : (L : Limits) (c : Column) (is : ValueColumn) (k : ℕ) → (k ≡ 0 → ⊥) → ((l : ValueRoom) → element_outcome L c (values_in is) l ≡ refused k) → ElementChecked L c is k
refuses L c is k h o = record {
  outcome = λ l. o l ∙ sym (gate_shut k _ h);
  list = λ z. absurd (h z);
  indexes = λ z. absurd (h z);
}

-- once 13, 1, 2 and 3 are passed, what refuses element is the first row's refusal
pub passes : (L : Limits) (c : Column) (is : ValueColumn) (k : ℕ) → over_seven (bits_in is.bits) ≡ false → 0 ≡ columns_refusal (c ∷ []) [] → short_bits (bits_in is.bits) (length is.values.now) ≡ false
    → length is.values.now ≡ row_count c.offsets → k ≡ first_of (tab (four_at L c.rows (values_in is)) 0 (length is.values.now)) → ElementChecked L c is k
passes L c is k s e b m q = record {
  outcome = λ l. element-shown L c is l s 0 e refl b ∙ rw (q, m) (element_goes L c is l m);
  list = λ z. readable c (sym e);
  indexes = λ z. record { many = m; bits = rw (← m) (record { small = omega (arith, ltb-false _ _ s); long = b }) };
}
