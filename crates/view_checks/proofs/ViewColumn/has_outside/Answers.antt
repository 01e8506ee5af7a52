-- The rows from the row on lose the first one at each turn, which does not lie outside.
use Rattle.std.proofs.Common.{◌≡◌, ◌+◌, ◌-◌, length, sym, ◌∙◌, arith}
use Rattle.model.specs.View.{refusal11}
use Rattle.view_checks.proofs.RefusalLaws.{any_now, any_on, any-end}
use Rattle.view_checks.proofs.ViewColumn.has_outside.Goals as goal

pub loop-r-init : goal.loop-r-init
unfolding refusal11
loop-r-init c = let n = length c.args.self.offsets.now in let e : n - 0 ≡ n = omega arith in rw e

pub returns-then-is_outside : goal.returns-then-is_outside
returns-then-is_outside c =
    any_now _ c.loop-r.r _ _ c.loop-r.invariant (omega arith) (sym c.is_outside.ensures ∙ c.if-is_outside.true)

pub loop-r-preserved : goal.loop-r-preserved
loop-r-preserved c =
    let n = length c.args.self.offsets.now in
    let e : n - (c.loop-r.r + 1) ≡ n - c.loop-r.r - 1 = omega arith in
    rw e (any_on _ c.loop-r.r _ _ c.loop-r.invariant (omega arith) (sym c.is_outside.ensures ∙ c.if-is_outside.false))

pub returns : goal.returns
returns c = any-end _ c.loop-r.r _ _ c.loop-r.invariant (omega arith)
