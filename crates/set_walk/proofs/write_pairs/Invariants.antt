-- The rows so far are written.
use Rattle.std.proofs.Common.{◌-◌}
use Rattle.column.specs.Columns.{column_in}
use Rattle.column.specs.Outputs.{SameLists}
use Rattle.column.proofs.WalkLaws.{Walking}
use Rattle.set_walk.specs.Pairs.{pair_at}
use Rattle.set_walk.proofs.write_pairs.Given as goal

abbrev pub invariant-loop-r : goal.invariant-loop-r
invariant-loop-r g l =
    let numbers = g.O.Offset.numbers in
    let was = l.fn.out in
    let o = l.out in
    Walking (pair_at l.op (column_in numbers l.left) (column_in numbers l.right)) l.r-end (numbers l.initial.out.offsets.now) was.rows.now was.elements.now.values.now was.elements.now.bits.now
    (numbers o.offsets.now) o.rows.now o.elements.now.values.now o.elements.now.bits.now l.r l.at (l.r-end - l.r)
    × SameLists was o
