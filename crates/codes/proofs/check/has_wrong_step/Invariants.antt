use Rattle.std.proofs.Common.{◌≡◌, false}
use Rattle.model.specs.Basics.{any, tab}
use Rattle.model.specs.Recipe.{step_at, wrong_step}
use Rattle.codes.proofs.check.has_wrong_step.Given as goal

abbrev pub invariant-loop-k : goal.invariant-loop-k
invariant-loop-k l = any (wrong_step l.columns) (tab (step_at l.recipe) 0 l.k) ≡ false
