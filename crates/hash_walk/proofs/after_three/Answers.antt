-- 14, then 8, then 9, then the rows written and their nulls counted.
use Rattle.std.proofs.Common.{refl, sym, ap, ◌∙◌}
use Rattle.model.specs.Contract.{room}
use Rattle.model.specs.declared.Refusal.TheVariants.{ShortArea, ShortOutput}
use Rattle.column.proofs.AnswerLaws.{list-refused, list-made, same_fit, fitted-made, fitted_short}
use Rattle.checks.proofs.RefusedLaws.{handed_on, number_positive}
use Rattle.hash_checks.specs.Area.{op_refusal}
use Rattle.hash_walk.proofs.WalkingLaws.{length_hashes, held, after-short, area-fits, after_eight, after_goes}
use Rattle.hash_walk.proofs.after_three.Goals as goal

pub returns-then-is_short : goal.returns-then-is_short
returns-then-is_short c = record {
  list_answers = record {
    meets = list-refused ShortArea (after-short c.args.op _ _ _ _ c.is_short.ensures c.most_needed-longest.ensures.value c.if-is_short.true);
    same = record { offsets = refl; rows = refl; elements = refl; values = refl; bits = refl };
  };
  clean_from = c.requires.clean;
}

pub measure_pairs-m-requires-clause-room : goal.measure_pairs-m-requires-clause-room
measure_pairs-m-requires-clause-room c =
    area-fits c.args.op _ _ _ (room 0 0 0 0) c.is_short.ensures c.most_needed-longest.ensures.value c.if-is_short.false

pub returns-in_err-op_refusal : goal.returns-in_err-op_refusal
returns-in_err-op_refusal c =
    let e = c.in_err-op_refusal.ensures ∙ ap (op_refusal c.args.op) c.measure_pairs-m.ensures.value in
    rw (handed_on _ _ c.from_residual.ensures) (record {
      list_answers = record {
        meets = list-refused _ (after_eight c.args.op _ _ _ _ c.is_short.ensures c.most_needed-longest.ensures.value c.if-is_short.false e (number_positive _));
        same = record { offsets = refl; rows = refl; elements = refl; values = refl; bits = refl };
      };
      clean_from = c.measure_pairs-m.ensures.clean_from;
    })

pub returns-then-not-has_room : goal.returns-then-not-has_room
returns-then-not-has_room c =
    let e = c.in_ok-op_refusal.ensures ∙ ap (op_refusal c.args.op) c.measure_pairs-m.ensures.value in
    let n = c.row_count-n.ensures ∙ sym (length_hashes c.args.op _ _) in
    let h = c.has_room.ensures ∙ same_fit _ n c.measure_pairs-m.ensures.value in
    record {
      list_answers = record {
        meets = list-refused ShortOutput (after_goes c.args.op _ _ _ _ c.is_short.ensures c.most_needed-longest.ensures.value c.if-is_short.false e refl ∙ fitted_short _ _ (sym h ∙ c.if-not-has_room.true));
        same = record { offsets = refl; rows = refl; elements = refl; values = refl; bits = refl };
      };
      clean_from = c.measure_pairs-m.ensures.clean_from;
    }

pub write_pairs-requires-clause-small : goal.write_pairs-requires-clause-small
write_pairs-requires-clause-small c =
    let e = c.in_ok-op_refusal.ensures ∙ ap (op_refusal c.args.op) c.measure_pairs-m.ensures.value in
    held c.args.op _ _ c.measure_pairs-m.ensures.value c.measure_pairs-m.ensures.upper_bound (sym e)

pub write_pairs-requires-clause-room : goal.write_pairs-requires-clause-room
write_pairs-requires-clause-room c =
    rw c.measure_pairs-m.auto.area
    (area-fits c.args.op _ _ _ (room 0 0 0 0) c.is_short.ensures c.most_needed-longest.ensures.value c.if-is_short.false)

pub returns : goal.returns
returns c =
    let e = c.in_ok-op_refusal.ensures ∙ ap (op_refusal c.args.op) c.measure_pairs-m.ensures.value in
    let n = c.row_count-n.ensures ∙ sym (length_hashes c.args.op _ _) in
    let h = c.has_room.ensures ∙ same_fit _ n c.measure_pairs-m.ensures.value in
    record {
      list_answers = record {
        meets = list-made _ _ _ (after_goes c.args.op _ _ _ _ c.is_short.ensures c.most_needed-longest.ensures.value c.if-is_short.false e refl ∙ fitted-made _ _ (sym h ∙ c.if-not-has_room.false)) n c.measure_pairs-m.ensures.value c.write_pairs.ensures.fills.filled c.list_answer.ensures;
        same = c.write_pairs.ensures.fills.same;
      };
      clean_from = c.write_pairs.ensures.clean_from;
    }
