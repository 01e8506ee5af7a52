use Rattle.std.proofs.Common.{rules, refl, length, ◌≡◌, ◌++◌, ap, arith}
use Rattle.entry.specs.Entry.{list_sizes, value_sizes}
use Rattle.entry.specs.Misfits.{misfit_by}
use Rattle.entry.proofs.SizeLaws.{sized, all_left, all_right, list-fits, value_fits}
use Rattle.entry.proofs.AnswerLaws.{ready, list_returns}
use Rattle.entry.proofs.EntryLaws.{called, no_operation, list-refused, list_as}
use Rattle.entry_codes.proofs.CallLaws.{no_with_code, with_code}
use Rattle.duthlan_bytes.proofs.DoneLaws.{misfit_refused, misfit_none, list_done}
use Rattle.duthlan_bytes.proofs.duthlan_bytes_list_with.Goals as goal

pub returns-in_default : goal.returns-in_default
returns-in_default c = rw c.from.ensures (list-refused 102 (no_operation _ _ (no_with_code _ _ _ _ _ c.with_of.ensures c.in_default.is)))

pub returns-in-Err : goal.returns-in-Err
returns-in-Err c =
    rw c.from-in-Err.ensures (list-refused _ (misfit_refused _ _ (with_code _ _ _ _ _ c.with_of.ensures c.in-Some.is) (c.refusal.ensures _ (c.list-sizes.ensures _ (c.values-3.ensures _ (c.values-2.ensures _ (c.values.ensures _ (c.list.ensures _ c.none.ensures)))))) c.in-Err.is))

pub split_at_mut-offsets_out-requires : goal.split_at_mut-offsets_out-requires
split_at_mut-offsets_out-requires c =
    let p = sized _ _ _ (misfit_none (c.refusal.ensures _ (c.list-sizes.ensures _ (c.values-3.ensures _ (c.values-2.ensures _ (c.values.ensures _ (c.list.ensures _ c.none.ensures)))))) c.in_default-refusal.is) in
    let o = list-fits _ _ (all_right ((((list_sizes (length c.args.offsets.now) (length c.args.values.now)) ++ (value_sizes (length c.args.first.now))) ++ (value_sizes (length c.args.second.now))) ++ (value_sizes (length c.args.third.now))) (list_sizes (length c.args.out_offsets.now) (length c.args.out_values.now)) p.fit) in
    omega (arith, o.offsets, c.offsets_in.ensures)

pub split_at_mut-values_out-requires : goal.split_at_mut-values_out-requires
split_at_mut-values_out-requires c =
    let p = sized _ _ _ (misfit_none (c.refusal.ensures _ (c.list-sizes.ensures _ (c.values-3.ensures _ (c.values-2.ensures _ (c.values.ensures _ (c.list.ensures _ c.none.ensures)))))) c.in_default-refusal.is) in
    let o = list-fits _ _ (all_right ((((list_sizes (length c.args.offsets.now) (length c.args.values.now)) ++ (value_sizes (length c.args.first.now))) ++ (value_sizes (length c.args.second.now))) ++ (value_sizes (length c.args.third.now))) (list_sizes (length c.args.out_offsets.now) (length c.args.out_values.now)) p.fit) in
    omega (arith, o.values, c.values_in.ensures)

pub run-answer-requires-clause-list : goal.run-answer-requires-clause-list
run-answer-requires-clause-list c =
    let p = sized _ _ _ (misfit_none (c.refusal.ensures _ (c.list-sizes.ensures _ (c.values-3.ensures _ (c.values-2.ensures _ (c.values.ensures _ (c.list.ensures _ c.none.ensures)))))) c.in_default-refusal.is) in
    rw c.list_bytes.ensures (list-fits _ _ (all_left (list_sizes (length c.args.offsets.now) (length c.args.values.now)) (value_sizes (length c.args.first.now)) (all_left ((list_sizes (length c.args.offsets.now) (length c.args.values.now)) ++ (value_sizes (length c.args.first.now))) (value_sizes (length c.args.second.now)) (all_left (((list_sizes (length c.args.offsets.now) (length c.args.values.now)) ++ (value_sizes (length c.args.first.now))) ++ (value_sizes (length c.args.second.now))) (value_sizes (length c.args.third.now)) (all_left ((((list_sizes (length c.args.offsets.now) (length c.args.values.now)) ++ (value_sizes (length c.args.first.now))) ++ (value_sizes (length c.args.second.now))) ++ (value_sizes (length c.args.third.now))) (list_sizes (length c.args.out_offsets.now) (length c.args.out_values.now)) p.fit)))))

pub run-answer-requires-clause-first : goal.run-answer-requires-clause-first
run-answer-requires-clause-first c =
    let p = sized _ _ _ (misfit_none (c.refusal.ensures _ (c.list-sizes.ensures _ (c.values-3.ensures _ (c.values-2.ensures _ (c.values.ensures _ (c.list.ensures _ c.none.ensures)))))) c.in_default-refusal.is) in
    rw c.value_bytes.ensures (value_fits _ (all_right (list_sizes (length c.args.offsets.now) (length c.args.values.now)) (value_sizes (length c.args.first.now)) (all_left ((list_sizes (length c.args.offsets.now) (length c.args.values.now)) ++ (value_sizes (length c.args.first.now))) (value_sizes (length c.args.second.now)) (all_left (((list_sizes (length c.args.offsets.now) (length c.args.values.now)) ++ (value_sizes (length c.args.first.now))) ++ (value_sizes (length c.args.second.now))) (value_sizes (length c.args.third.now)) (all_left ((((list_sizes (length c.args.offsets.now) (length c.args.values.now)) ++ (value_sizes (length c.args.first.now))) ++ (value_sizes (length c.args.second.now))) ++ (value_sizes (length c.args.third.now))) (list_sizes (length c.args.out_offsets.now) (length c.args.out_values.now)) p.fit)))))

pub run-answer-requires-clause-second : goal.run-answer-requires-clause-second
run-answer-requires-clause-second c =
    let p = sized _ _ _ (misfit_none (c.refusal.ensures _ (c.list-sizes.ensures _ (c.values-3.ensures _ (c.values-2.ensures _ (c.values.ensures _ (c.list.ensures _ c.none.ensures)))))) c.in_default-refusal.is) in
    rw c.value_bytes-2.ensures (value_fits _ (all_right ((list_sizes (length c.args.offsets.now) (length c.args.values.now)) ++ (value_sizes (length c.args.first.now))) (value_sizes (length c.args.second.now)) (all_left (((list_sizes (length c.args.offsets.now) (length c.args.values.now)) ++ (value_sizes (length c.args.first.now))) ++ (value_sizes (length c.args.second.now))) (value_sizes (length c.args.third.now)) (all_left ((((list_sizes (length c.args.offsets.now) (length c.args.values.now)) ++ (value_sizes (length c.args.first.now))) ++ (value_sizes (length c.args.second.now))) ++ (value_sizes (length c.args.third.now))) (list_sizes (length c.args.out_offsets.now) (length c.args.out_values.now)) p.fit))))

pub run-answer-requires-clause-third : goal.run-answer-requires-clause-third
run-answer-requires-clause-third c =
    let p = sized _ _ _ (misfit_none (c.refusal.ensures _ (c.list-sizes.ensures _ (c.values-3.ensures _ (c.values-2.ensures _ (c.values.ensures _ (c.list.ensures _ c.none.ensures)))))) c.in_default-refusal.is) in
    rw c.value_bytes-3.ensures (value_fits _ (all_right (((list_sizes (length c.args.offsets.now) (length c.args.values.now)) ++ (value_sizes (length c.args.first.now))) ++ (value_sizes (length c.args.second.now))) (value_sizes (length c.args.third.now)) (all_left ((((list_sizes (length c.args.offsets.now) (length c.args.values.now)) ++ (value_sizes (length c.args.first.now))) ++ (value_sizes (length c.args.second.now))) ++ (value_sizes (length c.args.third.now))) (list_sizes (length c.args.out_offsets.now) (length c.args.out_values.now)) p.fit)))

pub put_list-requires : goal.put_list-requires
put_list-requires c =
    let p = sized _ _ _ (misfit_none (c.refusal.ensures _ (c.list-sizes.ensures _ (c.values-3.ensures _ (c.values-2.ensures _ (c.values.ensures _ (c.list.ensures _ c.none.ensures)))))) c.in_default-refusal.is) in
    let o = list-fits _ _ (all_right ((((list_sizes (length c.args.offsets.now) (length c.args.values.now)) ++ (value_sizes (length c.args.first.now))) ++ (value_sizes (length c.args.second.now))) ++ (value_sizes (length c.args.third.now))) (list_sizes (length c.args.out_offsets.now) (length c.args.out_values.now)) p.fit) in
    let s = c.split_at_mut-offsets_out.ensures in
    let t = c.split_at_mut-values_out.ensures in
    let f : c.offsets_out-1.given.0 ≡ c.run-answer.new.out.offsets.now = search rules in
    let q : c.values_out-1.given.0 ≡ c.run-answer.new.out.elements.now.values.now = search rules in
    ready (list_done _ _ _ _ f q refl refl s.front s.back t.front t.back c.run-answer.ensures.meets (search rules) (search rules) (omega (arith, o.offsets, c.offsets_in.ensures)) (omega (arith, o.values, c.values_in.ensures)) refl) (omega (arith, o.offsets, c.offsets_in.ensures)) (omega (arith, o.values, c.values_in.ensures)) c.offsets_in.ensures c.values_in.ensures p.counts

pub returns : goal.returns
returns c =
    let p = sized _ _ _ (misfit_none (c.refusal.ensures _ (c.list-sizes.ensures _ (c.values-3.ensures _ (c.values-2.ensures _ (c.values.ensures _ (c.list.ensures _ c.none.ensures)))))) c.in_default-refusal.is) in
    let o = list-fits _ _ (all_right ((((list_sizes (length c.args.offsets.now) (length c.args.values.now)) ++ (value_sizes (length c.args.first.now))) ++ (value_sizes (length c.args.second.now))) ++ (value_sizes (length c.args.third.now))) (list_sizes (length c.args.out_offsets.now) (length c.args.out_values.now)) p.fit) in
    let s = c.split_at_mut-offsets_out.ensures in
    let t = c.split_at_mut-values_out.ensures in
    let f : c.offsets_out-1.given.0 ≡ c.run-answer.new.out.offsets.now = search rules in
    let q : c.values_out-1.given.0 ≡ c.run-answer.new.out.elements.now.values.now = search rules in
    let r : c.out_rows-1.given.0 ≡ c.run-answer.new.out.rows.now = search rules in
    let e : c.out_elements-1.given.0 ≡ c.run-answer.new.out.elements.now.bits.now = search rules in
    list_as (called _ _ (with_code _ _ _ _ _ c.with_of.ensures c.in-Some.is) (c.refusal.ensures _ (c.list-sizes.ensures _ (c.values-3.ensures _ (c.values-2.ensures _ (c.values.ensures _ (c.list.ensures _ c.none.ensures)))))) (ap misfit_by c.in_default-refusal.is))
    (list_returns (list_done _ _ _ _ f q r e s.front s.back t.front t.back c.run-answer.ensures.meets (search rules) (search rules) (omega (arith, o.offsets, c.offsets_in.ensures)) (omega (arith, o.values, c.values_in.ensures)) (rw (c.list_bytes.ensures, c.value_bytes.ensures, c.value_bytes-2.ensures, c.value_bytes-3.ensures, s.front_len, c.offsets_in.ensures, t.front_len, c.values_in.ensures))) c.put_list.ensures)
