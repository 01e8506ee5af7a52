use Rattle.std.proofs.Common.{◌-◌}
use Rattle.column.proofs.WalkLaws.{Summing}
use Rattle.column.specs.Columns.{column_in}
use Rattle.model.specs.Column.{offset_at, row_at}
use Rattle.copy_rows.proofs.measure_rows.Given as goal

abbrev pub invariant-loop-r : goal.invariant-loop-r
invariant-loop-r g l =
    let C = column_in g.O.Offset.numbers l.list in
    Summing (row_at C) l.n (offset_at C.offsets l.r) g.O.Offset.LIMITS.offset l.found l.r (l.n - l.r)
