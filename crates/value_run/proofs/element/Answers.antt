-- The call is gated by what refuses element.
use Rattle.std.proofs.Common.{refl, ◌∙◌}
use Rattle.model.proofs.OutcomeLaws.{gate_open, gate_shut}
use Rattle.column.specs.Outputs.{value_room_in}
use Rattle.column.proofs.AnswerLaws.{value_refused}
use Rattle.checks.proofs.RefusedLaws.{handed_on, number_positive}
use Rattle.value_places.specs.Values.{Indexed}
use Rattle.value_run.proofs.element.Goals as goal

pub returns-in_err-element_refusal : goal.returns-in_err-element_refusal
returns-in_err-element_refusal g c =
    rw (handed_on _ _ c.from_residual.ensures)
    (record {
      meets = value_refused _ (c.in_err-element_refusal.ensures.outcome _ ∙ gate_shut _ _ (number_positive _));
      same = record { values = refl; bits = refl };
    })

pub write_fitting-requires-clause-indexed : goal.write_fitting-requires-clause-indexed
unfolding Indexed
write_fitting-requires-clause-indexed g c = c.in_ok-element_refusal.ensures.indexes refl

pub returns : goal.returns
returns g c =
    let w = c.write_fitting.ensures in
    record {
      meets = rw (c.in_ok-element_refusal.ensures.outcome (value_room_in c.args.out.now) ∙ gate_open _ _ refl) w.meets;
      same = w.same;
    }
