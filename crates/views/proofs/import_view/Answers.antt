-- What refuses the view, then its rows.
use Rattle.std.proofs.Common.{refl, sym}
use Rattle.model.specs.Limits.{narrow}
use Rattle.column.specs.Outputs.{room_in}
use Rattle.column.proofs.AnswerLaws.{list-refused}
use Rattle.checks.proofs.RefusedLaws.{handed_on, number_positive}
use Rattle.view_checks.proofs.RefusalLaws.{readable_view}
use Rattle.views.proofs.CallLaws.{import_refused, import_open}
use Rattle.views.proofs.import_view.Goals as goal

pub returns-in_err-refusal : goal.returns-in_err-refusal
returns-in_err-refusal c =
    rw (handed_on _ _ c.from_residual.ensures)
    (record {
      meets = list-refused _ (import_refused narrow _ _ c.in_err-refusal.ensures (number_positive _));
      same = record { offsets = refl; rows = refl; elements = refl; values = refl; bits = refl };
    })

pub copy_shown-requires : goal.copy_shown-requires
copy_shown-requires c = readable_view _ (sym c.in_ok-refusal.ensures)

pub returns : goal.returns
returns c = record {
  meets = rw (import_open narrow _ (room_in c.args.out.now) c.in_ok-refusal.ensures refl) c.copy_shown.ensures.meets;
  same = c.copy_shown.ensures.same;
}
