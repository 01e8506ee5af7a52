-- What a plain operation makes of a list's rows: no argument plays a part.
use Rattle.std.specs.Prelude.{Bool, List, []}
use Rattle.model.specs.Basics.{pick}
use Rattle.model.specs.Bitmap.{from}
use Rattle.model.specs.Column.{Elem, Row, null_row, list_row, Column, Arguments, arguments}
use Rattle.model.specs.Elements.{unary_elems}
use Rattle.model.specs.Limits.{Limits}
use Rattle.model.specs.declared.Unary.{Unary}
use Rattle.ops.specs.declared.ListOp.TheVariants as L
use Rattle.made_rows.specs.Made.{call_rows}

-- a row that is valid or not, whose elements are es
unfoldable pub plain_row : Bool → Unary → List Elem → Row
plain_row valid u es = pick valid (list_row (unary_elems u es)) null_row

-- an argument column without rows
abbrev pub none : Arguments
none = arguments [] (from 0 [])

unfoldable pub plain_rows : Limits → Unary → Column → List Row
plain_rows N u c = call_rows N (L.Plain u) c none none none
