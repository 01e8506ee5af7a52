use Rattle.std.proofs.Common.{ℕ, ap, ◌∙◌}
use Rattle.column.specs.Columns.{column_in, values_in}
use Rattle.sums.specs.Sums.{let_through, measured, resize_measure}
use Rattle.made_rows.proofs.CallLaws.{counts-served}
use Rattle.list_walk.proofs.KindLaws.{is_slice_lem, is_resize_lem, remove_takes, plain-total, slice-total, resize-total, replace-total, remove-total}
use Rattle.list_walk.proofs.totals.total.Goals as goal

pub measure_rows-requires-in-Slice-clause-kind : goal.measure_rows-requires-in-Slice-clause-kind
measure_rows-requires-in-Slice-clause-kind g c =
    is_slice_lem _ c.in-Slice.is

pub measure_resize-requires-clause-serves : goal.measure_resize-requires-clause-serves
measure_resize-requires-clause-serves g c =
    rw c.row_count.ensures (counts-served c.args.op (is_resize_lem _ c.in-Resize.is) c.requires.arguments)

pub measure_rows-requires-in-Remove-clause-arguments : goal.measure_rows-requires-in-Remove-clause-arguments
measure_rows-requires-in-Remove-clause-arguments g c =
    remove_takes c.in-Remove.is c.requires.arguments

pub returns-in-Plain-clause-value : goal.returns-in-Plain-clause-value
unfolding measured
returns-in-Plain-clause-value g c =
    let a = c.args in
    let col = column_in g.O.Offset.numbers a.list in
    let x = values_in a.xs in
    let y = values_in a.ys in
    let z = values_in a.zs in
    let lim = g.O.Offset.LIMITS in
    plain-total lim a.op col x y z c.in-Plain.u c.measure_rows.result c.in-Plain.is c.measure_rows.ensures.value

pub returns-in-Plain-clause-result_bound : goal.returns-in-Plain-clause-result_bound
unfolding let_through
returns-in-Plain-clause-result_bound g c =
    c.measure_rows.ensures.upper_bound

pub returns-in-Slice-clause-value : goal.returns-in-Slice-clause-value
returns-in-Slice-clause-value g c =
    let a = c.args in
    let col = column_in g.O.Offset.numbers a.list in
    let x = values_in a.xs in
    let y = values_in a.ys in
    let z = values_in a.zs in
    let lim = g.O.Offset.LIMITS in
    slice-total lim a.op col x y z (is_slice_lem _ c.in-Slice.is) c.measure_rows-in-Slice.ensures.value

pub returns-in-Resize-clause-value : goal.returns-in-Resize-clause-value
returns-in-Resize-clause-value g c =
    let a = c.args in
    let col = column_in g.O.Offset.numbers a.list in
    let x = values_in a.xs in
    let y = values_in a.ys in
    let z = values_in a.zs in
    let lim = g.O.Offset.LIMITS in
    resize-total lim a.op col x y z (is_resize_lem _ c.in-Resize.is) (c.measure_resize.ensures.value ∙ ap (λ (n : ℕ). resize_measure lim col.rows x n) c.row_count.ensures)

pub returns-in-Replace-clause-value : goal.returns-in-Replace-clause-value
unfolding measured
returns-in-Replace-clause-value g c =
    let a = c.args in
    let col = column_in g.O.Offset.numbers a.list in
    let x = values_in a.xs in
    let y = values_in a.ys in
    let z = values_in a.zs in
    let lim = g.O.Offset.LIMITS in
    replace-total lim a.op col x y z c.measure_rows-in-Replace.result c.in-Replace.is c.measure_rows-in-Replace.ensures.value

pub returns-in-Replace-clause-result_bound : goal.returns-in-Replace-clause-result_bound
unfolding let_through
returns-in-Replace-clause-result_bound g c =
    c.measure_rows-in-Replace.ensures.upper_bound

pub returns-in-Remove-clause-value : goal.returns-in-Remove-clause-value
unfolding measured
returns-in-Remove-clause-value g c =
    let a = c.args in
    let col = column_in g.O.Offset.numbers a.list in
    let x = values_in a.xs in
    let y = values_in a.ys in
    let z = values_in a.zs in
    let lim = g.O.Offset.LIMITS in
    remove-total lim a.op col x y z c.measure_rows-in-Remove.result c.in-Remove.is c.measure_rows-in-Remove.ensures.value

pub returns-in-Remove-clause-result_bound : goal.returns-in-Remove-clause-result_bound
unfolding let_through
returns-in-Remove-clause-result_bound g c =
    c.measure_rows-in-Remove.ensures.upper_bound
