-- The call is gated by the list's refusals alone.
use Rattle.std.proofs.Common.{ℕ, sym, ap, ◌∙◌}
use Rattle.model.specs.Asked.{asked_values}
use Rattle.model.specs.Lengths.{value_room_for}
use Rattle.model.specs.Outcome.{made}
use Rattle.model.proofs.OutcomeLaws.{gate_open, gate_shut}
use Rattle.checks.proofs.RefusedLaws.{handed_on, number_positive}
use Rattle.value_run.proofs.LengthLaws.{any-lengths}
use Rattle.value_run.proofs.any_value_lengths.Goals as goal

pub returns-in_err-list_refusal : goal.returns-in_err-list_refusal
unfolding asked_values
returns-in_err-list_refusal g c =
    rw (handed_on _ _ c.from_residual.ensures)
    (sym (any-lengths _ ∙ rw (← c.in_err-list_refusal.ensures) (gate_shut _ _ (number_positive _))))

pub returns : goal.returns
returns g c =
    c.value_lengths_for.ensures
    ∙ ap (λ (n : ℕ). made (value_room_for n)) c.row_count.ensures
    ∙ sym (any-lengths _ ∙ gate_open _ _ (sym c.in_ok-list_refusal.ensures))
