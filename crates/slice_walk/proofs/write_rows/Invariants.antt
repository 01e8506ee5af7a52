use Rattle.std.proofs.Common.{◌≡◌, ◌-◌}
use Rattle.column.proofs.WalkLaws.{Walking}
use Rattle.column.specs.Columns.{column_in, values_in}
use Rattle.column.specs.Outputs.{SameLists}
use Rattle.made_rows.specs.Made.{row_made_at}
use Rattle.model.specs.Column.{offset_at}
use Rattle.slice_rows.specs.Columns.{Held, slice_in}
use Rattle.slice_rows.specs.Sliced.{all_valid}
use Rattle.slice_walk.proofs.write_rows.Given as goal

abbrev pub invariant-loop-r : goal.invariant-loop-r
invariant-loop-r g l =
    let N = g.O.Offset.numbers in
    let C = column_in N l.list in
    record {
      walking : Walking (row_made_at g.O.Offset.LIMITS l.fn.op C (values_in l.xs) (values_in l.ys) (values_in l.zs)) l.n (N l.initial.out.offsets.now) l.fn.out.rows.now l.fn.out.elements.now.values.now l.fn.out.elements.now.bits.now (N l.out.offsets.now) l.out.rows.now l.out.elements.now.values.now l.out.elements.now.bits.now l.r l.at (l.n - l.r);
      place : l.a ≡ offset_at C.offsets l.r;
      held : Held (all_valid C.rows (slice_in l.columns)) l.r l.next;
      same : SameLists l.fn.out l.out;
    }
