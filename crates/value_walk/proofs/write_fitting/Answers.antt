-- The values made fit where the code's test says so.
use Rattle.std.proofs.Common.{sym, refl, ◌∙◌}
use Rattle.model.specs.declared.Refusal.TheVariants.{ShortOutput}
use Rattle.column.specs.Columns.{column_in}
use Rattle.column.proofs.AnswerLaws.{value_refused, value_made_lem, same_value_fit, values-made, values-short}
use Rattle.value_places.proofs.ValueLaws.{length-made}
use Rattle.value_walk.proofs.write_fitting.Goals as goal

pub returns-then-not-has_room : goal.returns-then-not-has_room
returns-then-not-has_room g c =
    let n = c.row_count-n.ensures ∙ sym (length-made c.args.op (column_in g.O.Offset.numbers c.args.list)) in
    record {
      meets = value_refused ShortOutput (values-short _ _ (sym (c.has_room.ensures ∙ same_value_fit _ n) ∙ c.if-not-has_room.true));
      same = record { values = refl; bits = refl };
    }

pub returns : goal.returns
returns g c =
    let n = c.row_count-n.ensures ∙ sym (length-made c.args.op (column_in g.O.Offset.numbers c.args.list)) in
    record {
      meets = value_made_lem _ _ (values-made _ _ (sym (c.has_room.ensures ∙ same_value_fit _ n) ∙ c.if-not-has_room.false)) n c.write_values.ensures.filled.values c.write_values.ensures.filled.rows c.value_answer.ensures;
      same = c.write_values.ensures.same;
    }
