-- The rows made fit where the code's test says so.
use Rattle.std.proofs.Common.{sym, refl, ◌∙◌, arith}
use Rattle.model.specs.declared.Refusal.TheVariants.{ShortOutput}
use Rattle.column.specs.Columns.{column_in, values_in}
use Rattle.column.specs.Outputs.{repeat_room_in}
use Rattle.repeat_walk.specs.Repeats.{repeat_rows}
use Rattle.repeat_walk.proofs.AnswerLaws.{repeat_refused, repeat_made, same_fit, fitted-made, fitted_short, outer-room}
use Rattle.repeat_walk.proofs.OuterLaws.{room_as}
use Rattle.repeat_walk.proofs.RepeatLaws.{length_repeats}
use Rattle.repeat_walk.proofs.fill.Goals as goal

pub returns-then-not-has_room : goal.returns-then-not-has_room
returns-then-not-has_room g c =
    let C = column_in g.O.Offset.numbers c.args.list in let A = values_in c.args.counts in let s = c.requires.sized in
    let fit = c.has_room.ensures ∙ same_fit (repeat_rows C A) (repeat_room_in c.args.out.now c.args.inner.now) (c.row_count-n.ensures ∙ sym (length_repeats C A)) s.lists s.values in
    record {
      meets = repeat_refused ShortOutput (fitted_short _ _ (sym fit ∙ c.if-not-has_room.true));
      outer = record { offsets = refl; rows = refl };
      lists = record { offsets = refl; rows = refl; elements = refl; values = refl; bits = refl };
    }

pub write_repeats-requires-clause-room : goal.write_repeats-requires-clause-room
write_repeats-requires-clause-room g c =
    let C = column_in g.O.Offset.numbers c.args.list in let A = values_in c.args.counts in let s = c.requires.sized in
    let o = c.args.out.now in
    let fit = c.has_room.ensures ∙ same_fit (repeat_rows C A) (repeat_room_in o c.args.inner.now) (c.row_count-n.ensures ∙ sym (length_repeats C A)) s.lists s.values in
    room_as
    (outer-room g.O.Offset.LIMITS (repeat_rows C A) _ _ _ _ _ _ (sym fit ∙ c.if-not-has_room.false) (omega (arith, s.lists, s.few)) (omega (arith, s.values, s.small, g.met.O.Offset.limits_fit.repeated)))
    (g.met.O.Offset.numbers_length o.offsets.now) (g.met.O.Offset.numbers_length c.args.inner.now.offsets.now)

pub returns : goal.returns
returns g c =
    let C = column_in g.O.Offset.numbers c.args.list in let A = values_in c.args.counts in let s = c.requires.sized in
    let n = c.row_count-n.ensures ∙ sym (length_repeats C A) in
    let fit = c.has_room.ensures ∙ same_fit (repeat_rows C A) (repeat_room_in c.args.out.now c.args.inner.now) n s.lists s.values in
    record {
      meets = repeat_made (repeat_rows C A) _ _ _ (fitted-made _ _ (sym fit ∙ c.if-not-has_room.false)) n s.lists s.values c.write_repeats.ensures.filled c.repeat_answer.ensures;
      outer = c.write_repeats.ensures.outer;
      lists = c.write_repeats.ensures.lists;
    }
