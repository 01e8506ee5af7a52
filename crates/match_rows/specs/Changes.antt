-- What replace and remove change of a row, where they do not make it null.
use Rattle.std.specs.Prelude.{Option, None, Some}
use Rattle.matches.specs.declared.remove.Removal.{Removal}
use Rattle.matches.specs.declared.replace.Replacement.{Replacement}
use Rattle.ops.specs.RowOp.{RowOp}
use Rattle.ops.specs.RowOp as R

unfoldable pub replacing : Option Replacement → RowOp
replacing None = R.Null
replacing (Some b) = R.Replaced b.from b.to b.limit

unfoldable pub removing : Option Removal → RowOp
removing None = R.Null
removing (Some b) = R.Removed b.element b.limit
