-- The rows fit where the code's test says so.
use Rattle.std.proofs.Common.{refl, sym, ◌∙◌}
use Rattle.model.specs.declared.Refusal.TheVariants.{ShortOutput}
use Rattle.model.proofs.ColumnLaws.{length-rows}
use Rattle.views.proofs.CallLaws.{same_view-fit, export_made, export_short, view-refused, view_made}
use Rattle.views.proofs.write_fitting.Goals as goal

pub returns-then-not-has_room : goal.returns-then-not-has_room
returns-then-not-has_room c =
    let n = c.row_count-n.ensures ∙ sym (length-rows _) in
    let h = c.has_room.ensures ∙ same_view-fit _ n c.measure_rows-m.ensures.value in
    record {
      meets = view-refused ShortOutput (export_short _ _ (sym h ∙ c.if-not-has_room.true));
      same = record { offsets = refl; sizes = refl; rows = refl; elements = refl; values = refl; bits = refl };
    }

pub returns : goal.returns
returns c =
    let n = c.row_count-n.ensures ∙ sym (length-rows _) in
    let h = c.has_room.ensures ∙ same_view-fit _ n c.measure_rows-m.ensures.value in
    record {
      meets = view_made _ _ _ (export_made _ _ (sym h ∙ c.if-not-has_room.false)) n c.measure_rows-m.ensures.value c.write_view.ensures.filled c.view_answer.ensures;
      same = c.write_view.ensures.same;
    }
