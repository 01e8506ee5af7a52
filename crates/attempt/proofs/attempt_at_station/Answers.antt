-- The station, the refusals, and the steps.
use Rattle.std.proofs.Common.{refl, ◌∙◌}
use Rattle.checks.proofs.RefusedLaws.{handed_on, number_positive}
use Rattle.column.proofs.AnswerLaws.{list-refused}
use Rattle.model.specs.declared.Refusal.TheVariants.{NoSuchStation}
use Rattle.model.proofs.Stations.{station_over, station_named}
use Rattle.attempt.proofs.CallLaws.{going, call-refused}
use Rattle.attempt.proofs.attempt_at_station.Goals as goal

pub returns-then-station-gt15-clause-answers : goal.returns-then-station-gt15-clause-answers
returns-then-station-gt15-clause-answers g c =
    record { meets = list-refused NoSuchStation (station_over c.args.station _ c.if-station-gt15.true); same = record { offsets = refl; rows = refl; elements = refl; values = refl; bits = refl } }

pub returns-in_err-refusal_after-clause-answers : goal.returns-in_err-refusal_after-clause-answers
returns-in_err-refusal_after-clause-answers g c =
    rw (handed_on _ _ c.from_residual.ensures)
    (record {
      meets =
          list-refused _
          (station_named c.args.station _ c.if-station-gt15.false
          ∙ call-refused _ _ _ _ _ _ _ _ _ c.refusal-first.ensures c.row_count-n.ensures _ _ _ _ _ c.in_err-refusal_after.ensures (number_positive c.in_err-refusal_after.field-0.0));
      same = record { offsets = refl; rows = refl; elements = refl; values = refl; bits = refl };
    })

pub take_steps-requires : goal.take_steps-requires
take_steps-requires g c = going _ _ _ _ _ _ _ _ _ c.refusal-first.ensures c.row_count-n.ensures c.in_ok-refusal_after.ensures

pub returns-clause-answers : goal.returns-clause-answers
returns-clause-answers g c =
    let m = c.take_steps.ensures.answers in
    record { meets = rw (station_named c.args.station _ c.if-station-gt15.false) m.meets; same = m.same }
