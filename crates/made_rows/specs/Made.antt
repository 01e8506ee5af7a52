-- What an operation makes of a list and its argument columns, by the list's rows.
use Rattle.std.specs.Prelude.{ℕ, List, length}
use Rattle.model.specs.Basics.{pick, tab}
use Rattle.model.specs.Bitmap.{Bits}
use Rattle.model.specs.Column.{Elem, Row, Column, Arguments, elem_at, offset_at, length_at, row_count}
use Rattle.model.specs.Form.{flat}
use Rattle.model.specs.Limits.{Limits}
use Rattle.model.specs.Outcome.{Outcome, made, gate}
use Rattle.model.specs.Refusals.{refusal_of, first_of}
use Rattle.model.specs.Rows.{Made, row_made}
use Rattle.ops.specs.Ops.{is_resize, op_made}
use Rattle.ops.specs.declared.ListOp.{ListOp}
use Rattle.ops.specs.RowOp.{RowOp}
use Rattle.ops.specs.RowOp as R
use Rattle.arguments.specs.Taken.{Served, op_at}
use Rattle.column.specs.Put.{Readable}
use Rattle.sums.specs.Sums.{resize_measure}

-- the row that lies from a to b, and what is made of it
unfoldable pub made_from : Limits → ListOp → Bits → Arguments → Arguments → Arguments → (ℕ → Elem) → ℕ → ℕ → ℕ → Made
made_from N op rb x y z E r a len = op_made (op_at N op rb x y z r len) (tab E a len)

unfoldable pub made_at : Limits → ListOp → Column → Arguments → Arguments → Arguments → ℕ → Made
made_at N op c x y z r = made_from N op c.rows x y z (elem_at c.values c.elements) r (offset_at c.offsets r) (length_at c r)

abbrev pub row_made_at : Limits → ListOp → Column → Arguments → Arguments → Arguments → ℕ → Row
row_made_at N op c x y z r = row_made (made_at N op c x y z r)

abbrev pub refusal_at : Limits → ListOp → Column → Arguments → Arguments → Arguments → ℕ → ℕ
refusal_at N op c x y z r = refusal_of (made_at N op c x y z r)

unfoldable pub call_rows : Limits → ListOp → Column → Arguments → Arguments → Arguments → List Row
call_rows N op c x y z = tab (row_made_at N op c x y z) 0 (row_count c.offsets)

-- a row's refusal; 0 is none
unfoldable pub op_refusal : RowOp → ℕ
op_refusal R.Null = 0
op_refusal (R.Refused k) = k
op_refusal (R.Plain u) = 0
op_refusal R.Empty = 0
op_refusal (R.Steps a s n) = 0
op_refusal (R.Resized k f) = 0
op_refusal (R.Replaced f t k) = 0
op_refusal (R.Removed f k) = 0

-- by the first row that refuses
unfoldable pub rows_measure : Limits → ListOp → Column → Arguments → Arguments → Arguments → Outcome ℕ
rows_measure N op c x y z = gate (first_of (tab (refusal_at N op c x y z) 0 (row_count c.offsets))) (made (length (flat (call_rows N op c x y z))))

unfoldable pub call_measure : Limits → ListOp → Column → Arguments → Arguments → Arguments → Outcome ℕ
call_measure N op c x y z = pick (is_resize op) (resize_measure N c.rows x (row_count c.offsets)) (rows_measure N op c x y z)

-- refusals 13, 1, 2 and 3 have passed: the list can be read, and so can the argument columns that are taken
pub record Begun (op : ListOp) (c : Column) (x y z : Arguments) : Type 0 where
  pub column : Readable c
  pub arguments : Served op (row_count c.offsets) x y z
