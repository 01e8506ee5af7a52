-- The early refusals, then all that comes after 3.
use Rattle.std.proofs.Common.{refl}
use Rattle.column.specs.Outputs.{room_in}
use Rattle.column.proofs.AnswerLaws.{list-refused}
use Rattle.checks.proofs.RefusedLaws.{handed_on, number_positive}
use Rattle.set_walk.proofs.SetLaws.{run_early, run_goes}
use Rattle.set_walk.proofs.run.Goals as goal

pub returns-in_err-early : goal.returns-in_err-early
returns-in_err-early g c =
    rw (handed_on _ _ c.from_residual.ensures)
    (record {
      meets = list-refused _ (run_early _ _ _ _ _ (c.in_err-early.ensures.value c.args.op) _ (number_positive _));
      same = record { offsets = refl; rows = refl; elements = refl; values = refl; bits = refl };
    })

pub returns : goal.returns
returns g c = record {
  meets = rw (run_goes c.args.op _ _ _ 0 (c.in_ok-early.ensures.value c.args.op) (room_in c.args.out.now) refl) c.after_three.ensures.meets;
  same = c.after_three.ensures.same;
}
