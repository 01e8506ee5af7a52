-- What the rows from the row on tell is what all rows tell.
use Rattle.std.proofs.Common.{◌≡◌, ◌-◌, length}
use Rattle.model.specs.Basics.{any, tab}
use Rattle.model.specs.View.{view_outside, refusal11}
use Rattle.view_checks.specs.Views.{view_in}
use Rattle.view_checks.proofs.ViewColumn.has_outside.Given as goal

abbrev pub invariant-loop-r : goal.invariant-loop-r
invariant-loop-r l = any (view_outside (view_in l.self)) (tab (λ i. i) l.r (length l.self.offsets.now - l.r)) ≡ refusal11 (view_in l.self)
