-- The rows shown are too many, or fit where the code's test says so.
use Rattle.std.proofs.Common.{refl, sym, ◌∙◌}
use Rattle.model.specs.Limits.{narrow}
use Rattle.model.specs.View.{view_rows}
use Rattle.model.specs.declared.Refusal.TheVariants.{TooMany, ShortOutput}
use Rattle.column.proofs.AnswerLaws.{list-refused, list-made, same_fit, fitted-made, fitted_short}
use Rattle.view_checks.specs.Views.{view_in}
use Rattle.views.proofs.CallLaws.{too_many, not_many, length-shown-rows}
use Rattle.views.proofs.copy_shown.Goals as goal

pub returns-in_default : goal.returns-in_default
returns-in_default c = record {
  meets = list-refused TooMany (too_many narrow _ _ (sym c.in_default.is ∙ c.measure.ensures));
  same = record { offsets = refl; rows = refl; elements = refl; values = refl; bits = refl };
}

pub returns-then-not-has_room : goal.returns-then-not-has_room
returns-then-not-has_room c =
    let w = not_many narrow (view_rows (view_in c.args.view)) c.in-Some.m (sym c.in-Some.is ∙ c.measure.ensures) in
    let h = c.has_room.ensures ∙ same_fit _ (sym (length-shown-rows _)) w.0 in
    record {
      meets = list-refused ShortOutput (w.1 _ ∙ fitted_short _ _ (sym h ∙ c.if-not-has_room.true));
      same = record { offsets = refl; rows = refl; elements = refl; values = refl; bits = refl };
    }

pub returns : goal.returns
returns c =
    let w = not_many narrow (view_rows (view_in c.args.view)) c.in-Some.m (sym c.in-Some.is ∙ c.measure.ensures) in
    let h = c.has_room.ensures ∙ same_fit _ (sym (length-shown-rows _)) w.0 in
    record {
      meets = list-made _ _ _ (w.1 _ ∙ fitted-made _ _ (sym h ∙ c.if-not-has_room.false)) (sym (length-shown-rows _)) w.0 c.write_shown.ensures.filled c.list_answer.ensures;
      same = c.write_shown.ensures.same;
    }
