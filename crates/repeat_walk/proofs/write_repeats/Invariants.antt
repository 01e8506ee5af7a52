-- The outer rows from the row on are left to write.
use Rattle.std.proofs.Common.{◌-◌}
use Rattle.model.specs.Column.{row_count}
use Rattle.column.specs.Columns.{column_in, values_in}
use Rattle.column.specs.Outputs.{SameOuters, SameLists}
use Rattle.repeat_walk.specs.Repeats.{repeat_at}
use Rattle.repeat_walk.proofs.OuterLaws.{Repeating}
use Rattle.repeat_walk.proofs.write_repeats.Given as goal

abbrev pub invariant-loop-r : goal.invariant-loop-r
invariant-loop-r g l =
    let numbers = g.O.Offset.numbers in let was = l.initial.out in let o = l.out in let first = l.initial.inner in let i = l.inner in
    let c = column_in numbers l.list in let n = row_count c.offsets in
    record {
      repeating : Repeating g.O.Offset.LIMITS (repeat_at c (values_in l.counts)) n
          (numbers was.offsets.now) was.rows.now (numbers first.offsets.now) first.rows.now first.elements.now.values.now first.elements.now.bits.now
          (numbers o.offsets.now) o.rows.now (numbers i.offsets.now) i.rows.now i.elements.now.values.now i.elements.now.bits.now l.r l.lists l.at (n - l.r);
      outer : SameOuters l.fn.out o;
      lists : SameLists l.fn.inner i;
    }
