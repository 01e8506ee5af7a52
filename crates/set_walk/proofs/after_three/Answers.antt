-- What the first walk measured is refused by 8, or what it makes fits where the code's test says so.
use Rattle.std.proofs.Common.{refl, sym, ap, ◌∙◌}
use Rattle.model.specs.Refusals.{union_refusal}
use Rattle.model.specs.declared.Refusal.TheVariants.{ShortOutput}
use Rattle.model.proofs.OutcomeLaws.{gate_open, gate_shut}
use Rattle.column.proofs.AnswerLaws.{list-refused, list-made, same_fit, fitted-made, fitted_short}
use Rattle.checks.proofs.RefusedLaws.{handed_on, number_positive}
use Rattle.set_walk.proofs.SetLaws.{length_pairs, set_after, united}
use Rattle.set_walk.proofs.after_three.Goals as goal

pub returns-in_err-union_refusal : goal.returns-in_err-union_refusal
returns-in_err-union_refusal g c =
    let e = c.in_err-union_refusal.ensures ∙ ap (union_refusal g.O.Offset.LIMITS c.args.op) c.measure_pairs-m.ensures.value in
    rw (handed_on _ _ c.from_residual.ensures)
    (record {
      meets = list-refused _ (set_after c.args.op _ _ _ _ c.requires.equal ∙ rw (← e) (gate_shut _ _ (number_positive _)));
      same = record { offsets = refl; rows = refl; elements = refl; values = refl; bits = refl };
    })

pub returns-then-not-has_room : goal.returns-then-not-has_room
returns-then-not-has_room g c =
    let e = c.in_ok-union_refusal.ensures ∙ ap (union_refusal g.O.Offset.LIMITS c.args.op) c.measure_pairs-m.ensures.value in
    let n = c.row_count-n.ensures ∙ sym (length_pairs c.args.op _ _) in
    let h = c.has_room.ensures ∙ same_fit _ n c.measure_pairs-m.ensures.value in
    record {
      meets = list-refused ShortOutput (set_after c.args.op _ _ _ _ c.requires.equal ∙ gate_open _ _ (sym e) ∙ fitted_short _ _ (sym h ∙ c.if-not-has_room.true));
      same = record { offsets = refl; rows = refl; elements = refl; values = refl; bits = refl };
    }

pub write_pairs-requires-clause-small : goal.write_pairs-requires-clause-small
write_pairs-requires-clause-small g c =
    let m = c.measure_pairs-m.ensures in
    let e = c.in_ok-union_refusal.ensures ∙ ap (union_refusal g.O.Offset.LIMITS c.args.op) m.value in
    united g.O.Offset.LIMITS c.args.op _ g.met.O.Offset.limits_fit.united (rw m.value at m.upper_bound) (sym e)

pub returns : goal.returns
returns g c =
    let e = c.in_ok-union_refusal.ensures ∙ ap (union_refusal g.O.Offset.LIMITS c.args.op) c.measure_pairs-m.ensures.value in
    let n = c.row_count-n.ensures ∙ sym (length_pairs c.args.op _ _) in
    let h = c.has_room.ensures ∙ same_fit _ n c.measure_pairs-m.ensures.value in
    record {
      meets = list-made _ _ _ (set_after c.args.op _ _ _ _ c.requires.equal ∙ gate_open _ _ (sym e) ∙ fitted-made _ _ (sym h ∙ c.if-not-has_room.false)) n c.measure_pairs-m.ensures.value c.write_pairs.ensures.filled c.list_answer.ensures;
      same = c.write_pairs.ensures.same;
    }
