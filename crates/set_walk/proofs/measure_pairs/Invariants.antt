-- So many elements are made of the rows so far, no more than the offsets there allow.
use Rattle.std.proofs.Common.{◌-◌}
use Rattle.model.specs.Column.{offset_at}
use Rattle.column.specs.Columns.{column_in}
use Rattle.column.proofs.WalkLaws.{Summing}
use Rattle.set_walk.specs.Pairs.{bound_of, pair_at}
use Rattle.set_walk.proofs.measure_pairs.Given as goal

abbrev pub invariant-loop-r : goal.invariant-loop-r
invariant-loop-r g l =
    let C = column_in g.O.Offset.numbers l.left in
    let D = column_in g.O.Offset.numbers l.right in
    let top = g.O.Offset.LIMITS.offset in
    Summing (pair_at l.op C D) l.r-end (bound_of l.op (offset_at C.offsets l.r) (offset_at D.offsets l.r)) (bound_of l.op top top) l.found l.r (l.r-end - l.r)
