use Rattle.std.proofs.Common.{◌≡◌, ◌-◌}
use Rattle.column.specs.Columns.{column_in, values_in}
use Rattle.made_rows.proofs.LoopLaws.{Measuring}
use Rattle.made_rows.specs.Made.{row_made_at, refusal_at}
use Rattle.model.specs.Column.{offset_at}
use Rattle.slice_rows.specs.Columns.{Held, slice_in}
use Rattle.slice_rows.specs.Sliced.{all_valid}
use Rattle.slice_walk.proofs.measure_rows.Given as goal

abbrev pub invariant-loop-r : goal.invariant-loop-r
invariant-loop-r g l =
    let N = g.O.Offset.LIMITS in
    let C = column_in g.O.Offset.numbers l.list in
    record {
      measuring : Measuring (row_made_at N l.fn.op C (values_in l.xs) (values_in l.ys) (values_in l.zs)) (refusal_at N l.fn.op C (values_in l.xs) (values_in l.ys) (values_in l.zs)) l.n l.a N.offset l.found l.r (l.n - l.r);
      place : l.a ≡ offset_at C.offsets l.r;
      held : Held (all_valid C.rows (slice_in l.columns)) l.r l.next;
    }
