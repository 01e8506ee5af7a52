-- The copies from the row on are left to write.
use Rattle.std.proofs.Common.{◌+◌, ◌-◌}
use Rattle.model.specs.Column.{row_at}
use Rattle.column.specs.Columns.{column_in}
use Rattle.column.specs.Outputs.{SameLists}
use Rattle.repeat_walk.proofs.OuterLaws.{Copying}
use Rattle.repeat_walk.proofs.put_copies.Given as goal

abbrev pub invariant-loop-i : goal.invariant-loop-i
invariant-loop-i g l =
    let numbers = g.O.Offset.numbers in let was = l.fn.out in let o = l.out in
    record {
      copying : Copying g.O.Offset.LIMITS (row_at (column_in numbers l.list) l.r) l.first l.place l.times (numbers was.offsets.now) was.rows.now was.elements.now.values.now was.elements.now.bits.now
          (numbers o.offsets.now) o.rows.now o.elements.now.values.now o.elements.now.bits.now l.i l.at (l.first + l.times - l.i);
      same : SameLists was o;
    }
