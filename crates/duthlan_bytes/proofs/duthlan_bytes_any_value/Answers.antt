use Rattle.std.proofs.Common.{rules, length, ◌≡◌, ◌++◌, [], List, sym, ◌∙◌, refl, ap, arith}
use lib.Seq.{length-take-le}
use Rattle.entry.specs.Entry.{Numbers, list_sizes, value_sizes, size_refusal}
use Rattle.entry.specs.Misfits.{misfit_by}
use Rattle.entry.proofs.SizeLaws.{sized, all_left, all_right, list-fits, value_fits}
use Rattle.entry.proofs.AnswerLaws.{values_ready, value_returns}
use Rattle.entry.proofs.EntryLaws.{called, value_refused, value_as}
use Rattle.duthlan_bytes.proofs.DoneLaws.{misfit_refused, misfit_none, value_done}
use Rattle.duthlan_bytes.proofs.duthlan_bytes_any_value.Goals as goal

pub returns-in-Err : goal.returns-in-Err
returns-in-Err c =
    rw c.from.ensures (value_refused _ (misfit_refused _ _ refl (c.refusal.ensures _ (c.values-sizes.ensures _ (c.list.ensures _ c.none.ensures))) c.in-Err.is))

pub split_at_mut-values_out-requires : goal.split_at_mut-values_out-requires
split_at_mut-values_out-requires c =
    let p = sized _ _ _ (misfit_none (c.refusal.ensures _ (c.values-sizes.ensures _ (c.list.ensures _ c.none.ensures))) c.in_default.is) in
    omega (arith, value_fits _ (all_right (list_sizes (length c.args.offsets.now) (length c.args.values.now)) (value_sizes (length c.args.out_values.now)) p.fit), c.values_in.ensures)

pub run-answer-requires : goal.run-answer-requires
run-answer-requires c =
    let p = sized _ _ _ (misfit_none (c.refusal.ensures _ (c.values-sizes.ensures _ (c.list.ensures _ c.none.ensures))) c.in_default.is) in
    rw c.list_bytes-column.ensures (list-fits _ _ (all_left (list_sizes (length c.args.offsets.now) (length c.args.values.now)) (value_sizes (length c.args.out_values.now)) p.fit))

pub put_values-requires : goal.put_values-requires
put_values-requires c =
    let s = c.split_at_mut-values_out.ensures in
    let p = sized _ _ _ (misfit_none (c.refusal.ensures _ (c.values-sizes.ensures _ (c.list.ensures _ c.none.ensures))) c.in_default.is) in
    let few = value_fits _ (all_right (list_sizes (length c.args.offsets.now) (length c.args.values.now)) (value_sizes (length c.args.out_values.now)) p.fit) in
    let q : c.values_out-1.given.0 ≡ c.run-answer.new.out.values.now = search rules in
    values_ready (value_done _ _ q refl s.front s.back c.run-answer.ensures.meets (search rules) (omega (arith, few, c.values_in.ensures)) refl) (omega (arith, few, c.values_in.ensures)) c.values_in.ensures p.counts

pub returns : goal.returns
returns c =
    let s = c.split_at_mut-values_out.ensures in
    let p = sized _ _ _ (misfit_none (c.refusal.ensures _ (c.values-sizes.ensures _ (c.list.ensures _ c.none.ensures))) c.in_default.is) in
    let few = value_fits _ (all_right (list_sizes (length c.args.offsets.now) (length c.args.values.now)) (value_sizes (length c.args.out_values.now)) p.fit) in
    let q : c.values_out-1.given.0 ≡ c.run-answer.new.out.values.now = search rules in
    let r : c.out_rows-1.given.0 ≡ c.run-answer.new.out.bits.now = search rules in
    value_as (called _ _ refl (c.refusal.ensures _ (c.values-sizes.ensures _ (c.list.ensures _ c.none.ensures))) (ap misfit_by c.in_default.is))
    (value_returns (value_done _ _ q r s.front s.back c.run-answer.ensures.meets (search rules) (omega (arith, few, c.values_in.ensures)) (rw (c.list_bytes-column.ensures, s.front_len, c.values_in.ensures))) c.put_values.ensures)
