-- What resize takes for a row.
use Rattle.std.specs.Prelude.{Option, None, Some, ℕ, true, false, ltb}
use Rattle.std.specs.Option.{option_map}
use Rattle.rows.specs.Cells.{Cell, Fill}
use Rattle.model.specs.Basics.{pick}
use Rattle.model.specs.Bitmap.{Bits, valid_at}
use Rattle.model.specs.Column.{Arguments}
use Rattle.column.specs.Columns.{values_in}
use Rattle.column.specs.declared.elements.ValueColumn.{ValueColumn}
use Rattle.ops.specs.Ops.{takes_of}
use Rattle.ops.specs.declared.ListOp.{ListOp}
use Rattle.arguments.specs.Taken.{taken_at}

-- how a clause names a column of fills: a `requires` says `fills_in f`, an `ensures` says `fills_in f.entry`
abbrev pub fills_in : Option ValueColumn → Option Arguments
fills_in f = option_map values_in f

-- the column of fills that an operation takes, of the one that a call lends it
unfoldable pub fills_of : ListOp → Arguments → Option Arguments
fills_of op y = pick (ltb 1 (takes_of op)) (Some y) None

-- the count of row r; a null where the row is null
unfoldable pub count_for : Bits → Arguments → ℕ → Cell
count_for rb x r = pick (valid_at rb r) (taken_at true false x r) None

-- what row r is filled up with, where a column of fills is taken
unfoldable pub fill_for : Option Arguments → ℕ → Fill
fill_for None r = None
fill_for (Some y) r = Some (taken_at true false y r)
