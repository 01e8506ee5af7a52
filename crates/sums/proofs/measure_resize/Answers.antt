use Rattle.std.proofs.Common.{arith}
use Rattle.std.proofs.lemmas.Result.{err_from_is_err_and}
use Rattle.bitmap.specs.Reads.{bits_in}
use Rattle.column.specs.Columns.{values_in}
use Rattle.sums.specs.Sums.{summed, measured, let_through}
use Rattle.sums.proofs.SumLaws.{running_more, running_stops, running_done, resize_stops, resize-over, resize_ends}
use Rattle.sums.proofs.measure_resize.Goals as goal

pub returns-in_err-sum-clause-value : goal.returns-in_err-sum-clause-value
unfolding measured summed
returns-in_err-sum-clause-value g c =
    let p = err_from_is_err_and c.from_residual.result c.from_residual.ensures.1 in
    let a = c.args in
    let s = rw (c.is_valid-valid.ensures, c.taken_at-count.ensures) at c.in_err-sum.ensures in
    rw (p.1, p.2)
    (resize_stops g.O.Offset.LIMITS (bits_in a.rows) (values_in a.counts) a.n _
    (running_stops _ c.loop-r.invariant _ c.loop-r-test.true s))

pub returns-in_err-sum-clause-result_bound : goal.returns-in_err-sum-clause-result_bound
unfolding let_through
returns-in_err-sum-clause-result_bound g c =
    let p = err_from_is_err_and c.from_residual.result c.from_residual.ensures.1 in
    rw p.1 (omega arith)

pub loop-r-preserved : goal.loop-r-preserved
unfolding summed
loop-r-preserved g c =
    let s = rw (c.is_valid-valid.ensures, c.taken_at-count.ensures) at c.in_ok-sum.ensures in
    running_more _ c.loop-r.invariant _ c.loop-r-test.true s

pub returns-then-LIMITS-sum-clause-value : goal.returns-then-LIMITS-sum-clause-value
unfolding measured
returns-then-LIMITS-sum-clause-value g c =
    let a = c.args in
    resize-over g.O.Offset.LIMITS (bits_in a.rows) (values_in a.counts) a.n c.loop-r.sum
    (running_done _ c.loop-r.invariant c.loop-r-test.false) (rw c.LIMITS.ensures at c.if-LIMITS-sum.true)

pub returns-then-LIMITS-sum-clause-result_bound : goal.returns-then-LIMITS-sum-clause-result_bound
unfolding let_through
returns-then-LIMITS-sum-clause-result_bound g c = omega arith

pub returns-clause-value : goal.returns-clause-value
unfolding measured
returns-clause-value g c =
    let a = c.args in
    resize_ends g.O.Offset.LIMITS (bits_in a.rows) (values_in a.counts) a.n c.loop-r.sum
    (running_done _ c.loop-r.invariant c.loop-r-test.false) (rw c.LIMITS.ensures at c.if-LIMITS-sum.false)

pub returns-clause-result_bound : goal.returns-clause-result_bound
unfolding let_through
returns-clause-result_bound g c = omega (arith, rw c.LIMITS.ensures at c.if-LIMITS-sum.false, g.met.O.Offset.limits_fit.resized)
