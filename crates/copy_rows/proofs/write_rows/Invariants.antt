use Rattle.std.proofs.Common.{◌-◌}
use Rattle.column.proofs.WalkLaws.{Walking}
use Rattle.column.specs.Columns.{column_in}
use Rattle.column.specs.Outputs.{SameLists}
use Rattle.model.specs.Column.{row_at}
use Rattle.copy_rows.proofs.write_rows.Given as goal

abbrev pub invariant-loop-r : goal.invariant-loop-r
invariant-loop-r g l =
    let numbers = g.O.Offset.numbers in
    let was = l.fn.out in
    let o = l.out in
    Walking (row_at (column_in numbers l.list)) l.n (numbers l.initial.out.offsets.now) was.rows.now was.elements.now.values.now was.elements.now.bits.now
    (numbers o.offsets.now) o.rows.now o.elements.now.values.now o.elements.now.bits.now l.r l.at (l.n - l.r)
    × SameLists was o
