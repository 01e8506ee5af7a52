-- What union and intersect make of two columns, by the columns' rows.
use Rattle.std.specs.Prelude.{ℕ, ◌+◌, ◌≡◌, List}
use Rattle.model.specs.Basics.{tab}
use Rattle.model.specs.Column.{Row, Column, row_at, row_count}
use Rattle.model.specs.Elements.{set_elems}
use Rattle.model.specs.Rows.{on_rows}
use Rattle.model.specs.declared.SetOp.{SetOp}
use Rattle.model.specs.declared.SetOp.TheVariants.{Union, Intersect}
use Rattle.column.specs.Put.{Readable}

abbrev pub pair_at : SetOp → Column → Column → ℕ → Row
pair_at op c d r = on_rows (set_elems op) (row_at c r) (row_at d r)

unfoldable pub pair_rows : SetOp → Column → Column → List Row
pair_rows op c d = tab (pair_at op c d) 0 (row_count c.offsets)

-- how many elements may be made of a and b elements
unfoldable pub bound_of : SetOp → ℕ → ℕ → ℕ
bound_of Union a b = a + b
bound_of Intersect a b = a

-- refusals 13, 1, 2 and 3 have passed: both lists can be read, row beside row
pub record Begun (c d : Column) : Type 0 where
  pub left : Readable c
  pub right : Readable d
  pub equal : row_count d.offsets ≡ row_count c.offsets
