use Rattle.std.proofs.Common.{rules, refl, sym, ◌∙◌, length, ◌≡◌, ◌++◌, ap, arith}
use Rattle.column.specs.declared.elements.ValueOutput.{ValueOutput}
use Rattle.entry.specs.Entry.{list_sizes, value_sizes}
use Rattle.entry.specs.Misfits.{misfit_by}
use Rattle.entry.proofs.SizeLaws.{sized, all_left, all_right, list-fits, value_fits}
use Rattle.entry.proofs.EntryLaws.{called}
use Rattle.entry_repeat.specs.Repeat.{inner_sizes}
use Rattle.entry_repeat.proofs.RepeatLaws.{inner-fits, ready, repeat_returns, repeat_refused, repeat_as}
use Rattle.duthlan_bytes.proofs.DoneLaws.{misfit_refused, misfit_none, repeat_done}
use Rattle.duthlan_bytes.proofs.duthlan_bytes_list_repeat.Goals as goal

pub returns-in-Err : goal.returns-in-Err
returns-in-Err c =
    rw c.from.ensures (repeat_refused _ (misfit_refused _ _ refl (c.refusal.ensures _ (c.numbers-sizes.ensures _ (c.list-2.ensures _ (c.values.ensures _ (c.list.ensures _ c.none.ensures))))) c.in-Err.is))

pub split_at_mut-offsets_out-requires : goal.split_at_mut-offsets_out-requires
split_at_mut-offsets_out-requires c =
    let p = sized _ _ _ (misfit_none (c.refusal.ensures _ (c.numbers-sizes.ensures _ (c.list-2.ensures _ (c.values.ensures _ (c.list.ensures _ c.none.ensures))))) c.in_default.is) in
    let outs = all_right ((list_sizes (length c.args.offsets.now) (length c.args.values.now)) ++ (value_sizes (length c.args.times.now))) ((list_sizes (length c.args.out_offsets.now) (length c.args.out_values.now)) ++ (inner_sizes (length c.args.inner_offsets.now))) p.fit in
    let o = list-fits _ _ (all_left (list_sizes (length c.args.out_offsets.now) (length c.args.out_values.now)) (inner_sizes (length c.args.inner_offsets.now)) outs) in
    let i = inner-fits _ (all_right (list_sizes (length c.args.out_offsets.now) (length c.args.out_values.now)) (inner_sizes (length c.args.inner_offsets.now)) outs) in
    omega (arith, o.offsets, c.offsets_in.ensures)

pub split_at_mut-inner_out-requires : goal.split_at_mut-inner_out-requires
split_at_mut-inner_out-requires c =
    let p = sized _ _ _ (misfit_none (c.refusal.ensures _ (c.numbers-sizes.ensures _ (c.list-2.ensures _ (c.values.ensures _ (c.list.ensures _ c.none.ensures))))) c.in_default.is) in
    let outs = all_right ((list_sizes (length c.args.offsets.now) (length c.args.values.now)) ++ (value_sizes (length c.args.times.now))) ((list_sizes (length c.args.out_offsets.now) (length c.args.out_values.now)) ++ (inner_sizes (length c.args.inner_offsets.now))) p.fit in
    let o = list-fits _ _ (all_left (list_sizes (length c.args.out_offsets.now) (length c.args.out_values.now)) (inner_sizes (length c.args.inner_offsets.now)) outs) in
    let i = inner-fits _ (all_right (list_sizes (length c.args.out_offsets.now) (length c.args.out_values.now)) (inner_sizes (length c.args.inner_offsets.now)) outs) in
    omega (arith, i, c.offsets_in-2.ensures)

pub split_at_mut-values_out-requires : goal.split_at_mut-values_out-requires
split_at_mut-values_out-requires c =
    let p = sized _ _ _ (misfit_none (c.refusal.ensures _ (c.numbers-sizes.ensures _ (c.list-2.ensures _ (c.values.ensures _ (c.list.ensures _ c.none.ensures))))) c.in_default.is) in
    let outs = all_right ((list_sizes (length c.args.offsets.now) (length c.args.values.now)) ++ (value_sizes (length c.args.times.now))) ((list_sizes (length c.args.out_offsets.now) (length c.args.out_values.now)) ++ (inner_sizes (length c.args.inner_offsets.now))) p.fit in
    let o = list-fits _ _ (all_left (list_sizes (length c.args.out_offsets.now) (length c.args.out_values.now)) (inner_sizes (length c.args.inner_offsets.now)) outs) in
    let i = inner-fits _ (all_right (list_sizes (length c.args.out_offsets.now) (length c.args.out_values.now)) (inner_sizes (length c.args.inner_offsets.now)) outs) in
    omega (arith, o.values, c.values_in.ensures)

pub run-answer-requires-clause-list : goal.run-answer-requires-clause-list
run-answer-requires-clause-list c =
    let p = sized _ _ _ (misfit_none (c.refusal.ensures _ (c.numbers-sizes.ensures _ (c.list-2.ensures _ (c.values.ensures _ (c.list.ensures _ c.none.ensures))))) c.in_default.is) in
    rw c.list_bytes-column.ensures (list-fits _ _ (all_left (list_sizes (length c.args.offsets.now) (length c.args.values.now)) (value_sizes (length c.args.times.now)) (all_left ((list_sizes (length c.args.offsets.now) (length c.args.values.now)) ++ (value_sizes (length c.args.times.now))) ((list_sizes (length c.args.out_offsets.now) (length c.args.out_values.now)) ++ (inner_sizes (length c.args.inner_offsets.now))) p.fit)))

pub run-answer-requires-clause-times : goal.run-answer-requires-clause-times
run-answer-requires-clause-times c =
    let p = sized _ _ _ (misfit_none (c.refusal.ensures _ (c.numbers-sizes.ensures _ (c.list-2.ensures _ (c.values.ensures _ (c.list.ensures _ c.none.ensures))))) c.in_default.is) in
    rw c.value_bytes.ensures (value_fits _ (all_right (list_sizes (length c.args.offsets.now) (length c.args.values.now)) (value_sizes (length c.args.times.now)) (all_left ((list_sizes (length c.args.offsets.now) (length c.args.values.now)) ++ (value_sizes (length c.args.times.now))) ((list_sizes (length c.args.out_offsets.now) (length c.args.out_values.now)) ++ (inner_sizes (length c.args.inner_offsets.now))) p.fit)))

pub put_repeat-requires : goal.put_repeat-requires
put_repeat-requires c =
    let p = sized _ _ _ (misfit_none (c.refusal.ensures _ (c.numbers-sizes.ensures _ (c.list-2.ensures _ (c.values.ensures _ (c.list.ensures _ c.none.ensures))))) c.in_default.is) in
    let outs = all_right ((list_sizes (length c.args.offsets.now) (length c.args.values.now)) ++ (value_sizes (length c.args.times.now))) ((list_sizes (length c.args.out_offsets.now) (length c.args.out_values.now)) ++ (inner_sizes (length c.args.inner_offsets.now))) p.fit in
    let o = list-fits _ _ (all_left (list_sizes (length c.args.out_offsets.now) (length c.args.out_values.now)) (inner_sizes (length c.args.inner_offsets.now)) outs) in
    let i = inner-fits _ (all_right (list_sizes (length c.args.out_offsets.now) (length c.args.out_values.now)) (inner_sizes (length c.args.inner_offsets.now)) outs) in
    let s = c.split_at_mut-offsets_out.ensures in
    let u = c.split_at_mut-inner_out.ensures in
    let t = c.split_at_mut-values_out.ensures in
    let f : c.offsets_out-1.given.0 ≡ c.run-answer.new.out.offsets.now = c.offsets_out-1.given.1.1 (sym c.run-answer.ensures.outer.offsets) in
    let g : c.inner_out-1.given.0 ≡ c.run-answer.new.inner.offsets.now = c.inner_out-1.given.1.1 (sym c.run-answer.ensures.lists.offsets) in
    let w : c.elements_out-4-1.given.0 ≡ c.run-answer.new.inner.elements.now = c.elements_out-4-1.given.1 (sym c.run-answer.ensures.lists.elements) in
    let q : c.values_out-1.given.0 ≡ c.run-answer.new.inner.elements.now.values.now = c.values_out-1.given.1.1 (sym (ap (λ (x : ValueOutput). x.values.ghost_name) w ∙ c.run-answer.ensures.lists.values)) ∙ ap (λ (x : ValueOutput). x.values.now) w in
    ready (repeat_done _ _ _ _ _ _ f g q refl refl refl s.front s.back u.front u.back t.front t.back c.run-answer.ensures.meets (search rules) (search rules) (search rules) (omega (arith, o.offsets, c.offsets_in.ensures)) (omega (arith, i, c.offsets_in-2.ensures)) (omega (arith, o.values, c.values_in.ensures)) refl) (omega (arith, o.offsets, c.offsets_in.ensures)) (omega (arith, i, c.offsets_in-2.ensures)) (omega (arith, o.values, c.values_in.ensures)) c.offsets_in.ensures c.offsets_in-2.ensures c.values_in.ensures p.counts

pub returns : goal.returns
returns c =
    let p = sized _ _ _ (misfit_none (c.refusal.ensures _ (c.numbers-sizes.ensures _ (c.list-2.ensures _ (c.values.ensures _ (c.list.ensures _ c.none.ensures))))) c.in_default.is) in
    let outs = all_right ((list_sizes (length c.args.offsets.now) (length c.args.values.now)) ++ (value_sizes (length c.args.times.now))) ((list_sizes (length c.args.out_offsets.now) (length c.args.out_values.now)) ++ (inner_sizes (length c.args.inner_offsets.now))) p.fit in
    let o = list-fits _ _ (all_left (list_sizes (length c.args.out_offsets.now) (length c.args.out_values.now)) (inner_sizes (length c.args.inner_offsets.now)) outs) in
    let i = inner-fits _ (all_right (list_sizes (length c.args.out_offsets.now) (length c.args.out_values.now)) (inner_sizes (length c.args.inner_offsets.now)) outs) in
    let s = c.split_at_mut-offsets_out.ensures in
    let u = c.split_at_mut-inner_out.ensures in
    let t = c.split_at_mut-values_out.ensures in
    let f : c.offsets_out-1.given.0 ≡ c.run-answer.new.out.offsets.now = c.offsets_out-1.given.1.1 (sym c.run-answer.ensures.outer.offsets) in
    let g : c.inner_out-1.given.0 ≡ c.run-answer.new.inner.offsets.now = c.inner_out-1.given.1.1 (sym c.run-answer.ensures.lists.offsets) in
    let w : c.elements_out-4-1.given.0 ≡ c.run-answer.new.inner.elements.now = c.elements_out-4-1.given.1 (sym c.run-answer.ensures.lists.elements) in
    let q : c.values_out-1.given.0 ≡ c.run-answer.new.inner.elements.now.values.now = c.values_out-1.given.1.1 (sym (ap (λ (x : ValueOutput). x.values.ghost_name) w ∙ c.run-answer.ensures.lists.values)) ∙ ap (λ (x : ValueOutput). x.values.now) w in
    let r : c.out_rows-1.given.0 ≡ c.run-answer.new.out.rows.now = c.out_rows-1.given.1.1 (sym c.run-answer.ensures.outer.rows) in
    let ir : c.inner_rows-1.given.0 ≡ c.run-answer.new.inner.rows.now = c.inner_rows-1.given.1.1 (sym c.run-answer.ensures.lists.rows) in
    let e : c.out_elements-1.given.0 ≡ c.run-answer.new.inner.elements.now.bits.now = c.out_elements-1.given.1.1 (sym (ap (λ (x : ValueOutput). x.bits.ghost_name) w ∙ c.run-answer.ensures.lists.bits)) ∙ ap (λ (x : ValueOutput). x.bits.now) w in
    repeat_as (called _ _ refl (c.refusal.ensures _ (c.numbers-sizes.ensures _ (c.list-2.ensures _ (c.values.ensures _ (c.list.ensures _ c.none.ensures))))) (ap misfit_by c.in_default.is))
    (repeat_returns (repeat_done _ _ _ _ _ _ f g q r ir e s.front s.back u.front u.back t.front t.back c.run-answer.ensures.meets (search rules) (search rules) (search rules) (omega (arith, o.offsets, c.offsets_in.ensures)) (omega (arith, i, c.offsets_in-2.ensures)) (omega (arith, o.values, c.values_in.ensures)) (rw (c.list_bytes-column.ensures, c.value_bytes.ensures, s.front_len, c.offsets_in.ensures, u.front_len, c.offsets_in-2.ensures, t.front_len, c.values_in.ensures))) c.put_repeat.ensures)
