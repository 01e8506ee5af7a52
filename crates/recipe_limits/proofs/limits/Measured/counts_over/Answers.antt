use Rattle.std.proofs.Common.{◌≡◌, ◌+◌, ◌-◌, arith}
use Rattle.recipe_limits.specs.Limited.{counts_from}
use Rattle.recipe_limits.proofs.LimitedLaws.{counts_begun, counts-more, counts_done}
use Rattle.recipe_limits.proofs.limits.Measured.counts_over.Goals as goal

pub loop-r-init : goal.loop-r-init
loop-r-init c = let n = c.args.self.row_count in let e : n - 0 ≡ n = omega arith in rw e (counts_begun _ _ _)

pub loop-r-preserved : goal.loop-r-preserved
loop-r-preserved c =
    let n = c.args.self.row_count in
    let e : n - (c.loop-r.r + 1) ≡ n - c.loop-r.r - 1 = omega arith in
    rw e (counts-more _ _ _ c.loop-r.invariant _ _ (omega arith) c.count_at.ensures c.plus-sum.ensures)

pub returns : goal.returns
unfolding counts_from
returns c = counts_done _ _ _ c.loop-r.invariant (omega arith)
