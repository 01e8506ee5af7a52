-- The rows fit where the code's test says so.
use Rattle.std.proofs.Common.{refl, sym, ◌∙◌}
use Rattle.model.specs.declared.Refusal.TheVariants.{ShortOutput}
use Rattle.model.proofs.ColumnLaws.{length-rows}
use Rattle.column.proofs.AnswerLaws.{list-refused, list-made, same_fit, fitted-made, fitted_short}
use Rattle.copies.proofs.copy.Goals as goal

pub returns-then-not-has_room : goal.returns-then-not-has_room
returns-then-not-has_room g c =
    let n = c.row_count-n.ensures ∙ sym (length-rows _) in
    let h = c.has_room.ensures ∙ same_fit _ n c.measure_rows-m.ensures.value in
    record { meets = list-refused ShortOutput (fitted_short _ _ (sym h ∙ c.if-not-has_room.true)); same = record { offsets = refl; rows = refl; elements = refl; values = refl; bits = refl } }

pub returns : goal.returns
returns g c =
    let n = c.row_count-n.ensures ∙ sym (length-rows _) in
    let h = c.has_room.ensures ∙ same_fit _ n c.measure_rows-m.ensures.value in
    record {
      meets = list-made _ _ _ (fitted-made _ _ (sym h ∙ c.if-not-has_room.false)) n c.measure_rows-m.ensures.value c.write_rows.ensures.filled c.list_answer.ensures;
      same = c.write_rows.ensures.same;
    }
