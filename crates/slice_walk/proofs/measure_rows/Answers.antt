use Rattle.std.proofs.lemmas.Result.{err_from_is_err_and}
use Rattle.std.proofs.Common.{◌≡◌, refl, ◌-◌, arith}
use Rattle.column.specs.Columns.{column_in, values_in}
use Rattle.column.proofs.WalkLaws.{between}
use Rattle.made_rows.proofs.LoopLaws.{measuring_begun, measuring_done, rows_end}
use Rattle.slice_rows.specs.Columns.{slice_in}
use Rattle.slice_rows.specs.Sliced.{plan_count, steps_count}
use Rattle.sums.specs.Sums.{let_through, measured}
use Rattle.slice_walk.proofs.SliceLaws.{known, has_row, none_held, turn_measured, turn_stops}
use Rattle.slice_walk.proofs.measure_rows.Goals as goal

pub loop-r-init : goal.loop-r-init
loop-r-init g c =
    let e : c.row_count-n.result - 0 ≡ c.row_count-n.result = omega arith in
    record { measuring = rw e (measuring_begun _ _ _ _ _); place = c.first_offset-a.ensures; held = none_held _ _ _ c.none-next.ensures }

pub take-valid-requires-clause-known : goal.take-valid-requires-clause-known
take-valid-requires-clause-known g c =
    known c.args.op c.requires.kind (rw (← c.row_count-n.ensures) at c.requires.arguments) c.of-columns.ensures _ (rw c.row_count-n.ensures c.requires.column.rows)

pub take-valid-requires-clause-held : goal.take-valid-requires-clause-held
take-valid-requires-clause-held g c = c.loop-r.invariant.held

pub overflow_sub-b : goal.overflow_sub-b
overflow_sub-b g c =
    (between (column_in g.O.Offset.numbers c.args.list) _ _ _ _ c.requires.column c.row_count-n.ensures c.loop-r-test.true c.loop-r.invariant.place c.offset_at-b.ensures.value).rises

pub plan_at-requires-clause-there : goal.plan_at-requires-clause-there
plan_at-requires-clause-there g c =
    has_row c.args.op c.requires.kind (rw (← c.row_count-n.ensures) at c.requires.arguments) c.of-columns.ensures _ c.loop-r-test.true

pub returns-in_err-steps-clause-value : goal.returns-in_err-steps-clause-value
unfolding measured
returns-in_err-steps-clause-value g c =
    let a = c.args in
    let p = err_from_is_err_and c.from_residual.result c.from_residual.ensures.1 in
    rw (p.1, p.2)
    (turn_stops g.O.Offset.LIMITS a.op c.requires.kind (column_in g.O.Offset.numbers a.list) (values_in a.xs) (values_in a.ys) (values_in a.zs) (slice_in c.of-columns.result) c.of-columns.ensures
    _ _ _ _ c.loop-r.invariant.place c.offset_at-b.ensures.value _ _ c.take-valid.ensures.valid c.in_err-steps.ensures c.loop-r.invariant.measuring c.loop-r-test.true _ refl c.row_count-n.ensures)

pub returns-in_err-steps-clause-result_bound : goal.returns-in_err-steps-clause-result_bound
unfolding let_through
returns-in_err-steps-clause-result_bound g c =
    let p = err_from_is_err_and c.from_residual.result c.from_residual.ensures.1 in
    rw p.1 (omega arith)

pub overflow_add-found : goal.overflow_add-found
unfolding plan_count steps_count
overflow_add-found g c =
    let a = c.args in
    let C = column_in g.O.Offset.numbers a.list in
    let i = c.loop-r.invariant in
    let reads = between C _ _ _ _ c.requires.column c.row_count-n.ensures c.loop-r-test.true i.place c.offset_at-b.ensures.value in
    let more = turn_measured g.O.Offset.LIMITS a.op c.requires.kind C (values_in a.xs) (values_in a.ys) (values_in a.zs) (slice_in c.of-columns.result) c.of-columns.ensures
    _ _ _ _ i.place c.offset_at-b.ensures.value _ _ c.take-valid.ensures.valid c.in_ok-steps.ensures i.measuring c.loop-r-test.true c.in_ok-steps.steps refl reads.rises c.offset_at-b.ensures.upper_bound in
    omega (arith, c.count_of-found.ensures, more.sums.small, g.met.O.Offset.limits_fit.offset)

pub loop-r-preserved : goal.loop-r-preserved
unfolding plan_count steps_count
loop-r-preserved g c =
    let a = c.args in
    let C = column_in g.O.Offset.numbers a.list in
    let i = c.loop-r.invariant in
    let reads = between C _ _ _ _ c.requires.column c.row_count-n.ensures c.loop-r-test.true i.place c.offset_at-b.ensures.value in
    let more = turn_measured g.O.Offset.LIMITS a.op c.requires.kind C (values_in a.xs) (values_in a.ys) (values_in a.zs) (slice_in c.of-columns.result) c.of-columns.ensures
    _ _ _ _ i.place c.offset_at-b.ensures.value _ _ c.take-valid.ensures.valid c.in_ok-steps.ensures i.measuring c.loop-r-test.true c.in_ok-steps.steps refl reads.rises c.offset_at-b.ensures.upper_bound in
    record { measuring = rw c.count_of-found.ensures more; place = c.offset_at-b.ensures.value; held = c.take-valid.ensures.held }

pub returns-clause-value : goal.returns-clause-value
unfolding measured
returns-clause-value g c =
    let e : c.row_count-n.result ≡ c.loop-r.r = omega (arith, c.loop-r.auto.r-end, c.loop-r-test.false) in
    let d = measuring_done _ _ c.loop-r.invariant.measuring (omega (arith, e)) in
    rows_end _ _ _ _ _ _ _ c.row_count-n.ensures c.loop-r.found d.0 d.1

pub returns-clause-result_bound : goal.returns-clause-result_bound
unfolding let_through
returns-clause-result_bound g c = c.loop-r.invariant.measuring.sums.small
