use Rattle.std.proofs.Common.{◌≡◌, ◌-◌}
use Rattle.column.specs.Columns.{column_in}
use Rattle.column.proofs.WalkLaws.{Summing}
use Rattle.model.specs.Column.{offset_at}
use Rattle.plain_walk.proofs.PlainLaws.{plain_at}
use Rattle.plain_walk.proofs.measure_rows.Given as goal

-- what was found of the rows before r, and where row r begins
abbrev pub invariant-loop-r : goal.invariant-loop-r
invariant-loop-r g l =
    let N = g.O.Offset.LIMITS in
    let C = column_in g.O.Offset.numbers l.list in
    record {
      rows : Summing (plain_at N l.op C) l.n l.a N.offset l.found l.r (l.n - l.r);
      place : l.a ≡ offset_at C.offsets l.r;
    }
