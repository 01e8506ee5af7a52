-- What refuses the column, then its rows.
use Rattle.std.proofs.Common.{refl, sym}
use Rattle.column.proofs.WalkLaws.{readable}
use Rattle.checks.proofs.RefusedLaws.{handed_on, number_positive}
use Rattle.view_checks.specs.Views.{view_room_in}
use Rattle.views.proofs.CallLaws.{export_refused, export_open, view-refused}
use Rattle.views.proofs.export_view.Goals as goal

pub returns-in_err-list_refusal : goal.returns-in_err-list_refusal
returns-in_err-list_refusal c =
    rw (handed_on _ _ c.from_residual.ensures)
    (record {
      meets = view-refused _ (export_refused _ _ c.in_err-list_refusal.ensures (number_positive _));
      same = record { offsets = refl; sizes = refl; rows = refl; elements = refl; values = refl; bits = refl };
    })

pub write_fitting-requires : goal.write_fitting-requires
write_fitting-requires c = readable _ (sym c.in_ok-list_refusal.ensures)

pub returns : goal.returns
returns c = record {
  meets = rw (export_open _ (view_room_in c.args.out.now) c.in_ok-list_refusal.ensures refl) c.write_fitting.ensures.meets;
  same = c.write_fitting.ensures.same;
}
