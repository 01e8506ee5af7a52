-- The call is gated by the list's refusals alone.
use Rattle.std.proofs.Common.{refl, sym, ◌∙◌}
use Rattle.model.proofs.OutcomeLaws.{gate_open, gate_shut}
use Rattle.column.specs.Columns.{column_in}
use Rattle.column.specs.Outputs.{value_room_in}
use Rattle.column.proofs.AnswerLaws.{value_refused}
use Rattle.column.proofs.WalkLaws.{readable}
use Rattle.checks.proofs.RefusedLaws.{handed_on, number_positive}
use Rattle.value_places.proofs.CallLaws.{any-outcome}
use Rattle.value_places.specs.Values.{Indexed}
use Rattle.value_run.proofs.any_value.Goals as goal

pub returns-in_err-list_refusal : goal.returns-in_err-list_refusal
returns-in_err-list_refusal g c =
    rw (handed_on _ _ c.from_residual.ensures)
    (record {
      meets = value_refused _ (any-outcome (column_in g.O.Offset.numbers c.args.list) _ ∙ rw (← c.in_err-list_refusal.ensures) (gate_shut _ _ (number_positive _)));
      same = record { values = refl; bits = refl };
    })

pub write_fitting-requires-clause-column : goal.write_fitting-requires-clause-column
write_fitting-requires-clause-column g c = readable _ (sym c.in_ok-list_refusal.ensures)

pub write_fitting-requires-clause-indexed : goal.write_fitting-requires-clause-indexed
unfolding Indexed
write_fitting-requires-clause-indexed g c = tt

pub returns : goal.returns
returns g c =
    let w = c.write_fitting.ensures in
    record {
      meets = rw (any-outcome (column_in g.O.Offset.numbers c.args.list) (value_room_in c.args.out.now) ∙ gate_open _ _ (sym c.in_ok-list_refusal.ensures)) w.meets;
      same = w.same;
    }
