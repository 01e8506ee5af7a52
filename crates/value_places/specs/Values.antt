-- The operations that make one value a row, by the column's rows.
use Rattle.std.specs.Prelude.{ℕ, ◌<◌, ◌≡◌, List, length}
use Rattle.model.specs.Basics.{tab}
use Rattle.model.specs.Column.{Elem, Row, Column, Arguments, row_at, row_count}
use Rattle.model.specs.Rows.{any_value_of, element_of}
use Rattle.model.specs.Form.{ValueRoom}
use Rattle.model.specs.Limits.{Limits}
use Rattle.model.specs.Outcome.{gate, fitted_values, element_outcome}
use Rattle.bitmap.specs.Push.{Covers}
use Rattle.column.specs.Columns.{elem_in, values_in}
use Rattle.column.specs.Put.{Readable}
use Rattle.column.specs.declared.elements.ValueColumn.{ValueColumn}
use Rattle.value_places.specs.Found.{FirstAt, element_place}
use Rattle.value_places.specs.declared.ValueOp.{ValueOp}
use Rattle.value_places.specs.declared.ValueOp.TheVariants as V'

-- the value that is made of row r, which is w
unfoldable pub value_made : ValueOp → Row → ℕ → Elem
value_made V'.AnyValue w r = any_value_of w
value_made (V'.Element is) w r = element_of w (elem_in is r)

abbrev pub value_at : ValueOp → Column → ℕ → Elem
value_at op c r = value_made op (row_at c r) r

unfoldable pub values_made : ValueOp → Column → List Elem
values_made op c = tab (value_at op c) 0 (row_count c.offsets)

-- an index for each of n rows
pub record Indexes (n : ℕ) (a : Arguments) : Type 0 where
  pub many : length a.values ≡ n
  pub bits : Covers a.bits n

-- the operation has what it takes: any-value takes no indexes
unfoldable pub Indexed : ValueOp → ℕ → Type 0
Indexed V'.AnyValue n = Unit
Indexed (V'.Element is) n = Indexes n (values_in is)

-- an index for row r
pub record IndexAt (a : Arguments) (r : ℕ) : Type 0 where
  pub there : r < length a.values
  pub bits : Covers a.bits (length a.values)

-- the operation has what it takes for row r
unfoldable pub IndexedAt : ValueOp → ℕ → Type 0
IndexedAt V'.AnyValue r = Unit
IndexedAt (V'.Element is) r = IndexAt (values_in is) r

-- i is where the value stands that is made of the k elements of row r from a on, or the end
unfoldable pub PlaceOf : Limits → ValueOp → (ℕ → Elem) → ℕ → ℕ → ℕ → ℕ → Type 0
PlaceOf L V'.AnyValue E r a k i = FirstAt E a k i
PlaceOf L (V'.Element is) E r a k i = i ≡ element_place L (elem_in is r) a k

-- k is the number that refuses element before 9; where it is 0, the list and the indexes can be read
pub record ElementChecked (L : Limits) (c : Column) (is : ValueColumn) (k : ℕ) : Type 0 where
  pub outcome : (l : ValueRoom) → element_outcome L c (values_in is) l ≡ gate k (fitted_values (values_made (V'.Element is) c) l)
  pub list : k ≡ 0 → Readable c
  pub indexes : k ≡ 0 → Indexes (row_count c.offsets) (values_in is)
