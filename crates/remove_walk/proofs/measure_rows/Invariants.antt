use Rattle.std.proofs.Common.{◌≡◌, ◌-◌}
use Rattle.column.proofs.WalkLaws.{Summing}
use Rattle.column.specs.Columns.{column_in, values_in}
use Rattle.made_rows.specs.Made.{row_made_at}
use Rattle.match_rows.specs.Limits.{none}
use Rattle.model.specs.Column.{offset_at}
use Rattle.ops.specs.declared.ListOp.TheVariants as L
use Rattle.remove_walk.proofs.measure_rows.Given as goal

-- what was found of the rows before r, and where row r begins
abbrev pub invariant-loop-r : goal.invariant-loop-r
invariant-loop-r g l =
    let C = column_in g.O.Offset.numbers l.list in
    let N = g.O.Offset.LIMITS in
    record {
      rows : Summing (row_made_at N L.Remove C (values_in l.xs) (values_in l.ys) none) l.n l.a N.offset l.found l.r (l.n - l.r);
      place : l.a ≡ offset_at C.offsets l.r;
    }
