-- Laws of the values that are made, one a row.
use mathlib.Core.Path.{◌≡◌, sym, ap, ◌∙◌}
use Prim.Native.Nat.{ℕ, ◌+◌, ◌≤◌, ◌<◌}
use native.Mathlib.Omega.{arith}
use lib.ListN.{length}
use Rattle.model.specs.Bitmap.{Bits}
use Rattle.model.specs.Basics.{tab}
use Rattle.model.specs.Column.{Elem, Column, row_count}
use Rattle.model.specs.Elements.{first_valid}
use Rattle.model.specs.Limits.{Limits}
use Rattle.model.proofs.TabLaws.{length-tab}
use Rattle.column.specs.Columns.{elem_in}
use Rattle.column.specs.Rows.{row_from, len_from}
use Rattle.value_places.specs.Found.{found_at, element_place}
use Rattle.value_places.proofs.FoundLaws.{any-from, element-from}
use Rattle.value_places.specs.Values.{value_made, value_at, values_made, Indexed, IndexedAt, PlaceOf}
use Rattle.value_places.specs.declared.ValueOp.{ValueOp}
use Rattle.value_places.specs.declared.ValueOp.TheVariants as V'

-- what stands at the place is the value that is made of the row between a and b
pub value_from : (L : Limits) (op : ValueOp) (rb : Bits) (E : ℕ → Elem) (r a b k i : ℕ) → len_from rb r a b ≤ L.offset → k ≡ len_from rb r a b
    → PlaceOf L op E r a k i → found_at E i (a + k) ≡ value_made op (row_from rb E r a b) r
unfolding value_made PlaceOf
value_from L V'.AnyValue rb E r a b k i s q p = p.found ∙ ap (λ (m : ℕ). first_valid (tab E a m)) q ∙ sym (any-from rb E r a b)
value_from L (V'.Element is) rb E r a b k i s q p =
    ap (λ (j : ℕ). found_at E j (a + k)) p ∙ ap (λ (m : ℕ). found_at E (element_place L (elem_in is r) a m) (a + m)) q ∙ element-from L rb E r a b (elem_in is r) s

pub length-made : (op : ValueOp) (c : Column) → length (values_made op c) ≡ row_count c.offsets
unfolding values_made
length-made op c = length-tab (value_at op c) 0 (row_count c.offsets)

-- what the operation takes for n rows is there for each of them
pub indexed_at : (op : ValueOp) (n r : ℕ) → Indexed op n → r < n → IndexedAt op r
unfolding Indexed IndexedAt
indexed_at V'.AnyValue n r i h = tt
indexed_at (V'.Element is) n r i h = record { there = omega (arith, i.many); bits = rw (← i.many) at i.bits }
