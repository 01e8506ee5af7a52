-- The tests stand in the definition's order.
use Rattle.std.proofs.Common.{rules}
use Rattle.model.specs.View.{refusal13ᵛ, refusal2ᵛ, refusal3ᵛ, view_refusal}
use Rattle.view_checks.proofs.ViewColumn.refusal.Goals as goal

pub returns-then-is_start_over : goal.returns-then-is_start_over
unfolding view_refusal refusal13ᵛ refusal2ᵛ refusal3ᵛ
returns-then-is_start_over c = search rules

pub returns-then-is_short : goal.returns-then-is_short
unfolding view_refusal refusal13ᵛ refusal2ᵛ refusal3ᵛ
returns-then-is_short c = search rules

pub returns-then-is_short-2 : goal.returns-then-is_short-2
unfolding view_refusal refusal13ᵛ refusal2ᵛ refusal3ᵛ
returns-then-is_short-2 c = search rules

pub returns-then-self : goal.returns-then-self
unfolding view_refusal refusal13ᵛ refusal2ᵛ refusal3ᵛ
returns-then-self c = search rules

pub returns-then-has_outside : goal.returns-then-has_outside
unfolding view_refusal refusal13ᵛ refusal2ᵛ refusal3ᵛ
returns-then-has_outside c = search rules

pub returns : goal.returns
unfolding view_refusal refusal13ᵛ refusal2ᵛ refusal3ᵛ
returns c = search rules
