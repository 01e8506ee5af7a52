use Rattle.std.proofs.Common.{rules, refl, sym, ◌∙◌, ◌/◌, ℕ, length, ◌≡◌, ap, arith}
use Rattle.column.specs.declared.elements.ValueOutput.{ValueOutput}
use Rattle.entry.specs.Decoded.{decoded_in, decoded_values_in}
use Rattle.entry.specs.Misfits.{misfit_by}
use Rattle.entry.proofs.AnswerLaws.{ready, list_returns}
use Rattle.entry.proofs.EntryLaws.{called, list-refused, list_as}
use Rattle.entry_recipe.proofs.RecipeLaws.{recipe_sized, all_fit, not_counted, counted}
use Rattle.tally_bytes.proofs.TallyLaws.{tally_put}
use Rattle.duthlan_bytes.proofs.DoneLaws.{misfit_counts, misfit_refused, misfit_none, list_done, recipe_as}
use Rattle.duthlan_bytes.proofs.duthlan_bytes_recipe.Goals as goal

pub returns-in-Err : goal.returns-in-Err
returns-in-Err c =
    rw c.from.ensures (
      list-refused _ (misfit_refused _ _ refl (c.recipe_refusal.ensures _ (c.list-sizes.ensures _ (c.list-4.ensures _ (c.list-3.ensures _ (c.list-2.ensures _ (c.list.ensures _ (c.numbers-2.ensures _ (c.numbers.ensures _ c.none.ensures)))))))) c.in-Err.is),
      (c.clear_u8.ensures, c.clear_u8-in-Err.ensures, c.clear_u8-2.ensures, c.clear_u8-in-Err-2.ensures),
      (c.clear_u8-3.ensures, c.clear_u8-in-Err-3.ensures, c.clear_u8-4.ensures, c.clear_u8-in-Err-4.ensures),
      not_counted _ _ (sym (ap misfit_by c.in-Err.is) ∙ c.recipe_refusal.ensures _ (c.list-sizes.ensures _ (c.list-4.ensures _ (c.list-3.ensures _ (c.list-2.ensures _ (c.list.ensures _ (c.numbers-2.ensures _ (c.numbers.ensures _ c.none.ensures)))))))) (misfit_counts c.in-Err.misfit),
    )

pub split_at_mut-ao_out-requires : goal.split_at_mut-ao_out-requires
split_at_mut-ao_out-requires c =
    let p = recipe_sized _ _ _ (misfit_none (c.recipe_refusal.ensures _ (c.list-sizes.ensures _ (c.list-4.ensures _ (c.list-3.ensures _ (c.list-2.ensures _ (c.list.ensures _ (c.numbers-2.ensures _ (c.numbers.ensures _ c.none.ensures)))))))) c.in_default.is) in
    let a = c.args in
    let f = all_fit (length a.numbers.now) (length a.arguments.now) (length a.offsets.now) (length a.values.now) (length a.second_offsets.now) (length a.second_values.now) (length a.one_offsets.now) (length a.one_values.now) (length a.two_offsets.now) (length a.two_values.now) (length a.out_offsets.now) (length a.out_values.now) p.1.fit in
    omega (arith, f.1.one-offsets, c.offsets_in.ensures, c.clear_u8.auto.bytes)

pub split_at_mut-av_out-requires : goal.split_at_mut-av_out-requires
split_at_mut-av_out-requires c =
    let p = recipe_sized _ _ _ (misfit_none (c.recipe_refusal.ensures _ (c.list-sizes.ensures _ (c.list-4.ensures _ (c.list-3.ensures _ (c.list-2.ensures _ (c.list.ensures _ (c.numbers-2.ensures _ (c.numbers.ensures _ c.none.ensures)))))))) c.in_default.is) in
    let a = c.args in
    let f = all_fit (length a.numbers.now) (length a.arguments.now) (length a.offsets.now) (length a.values.now) (length a.second_offsets.now) (length a.second_values.now) (length a.one_offsets.now) (length a.one_values.now) (length a.two_offsets.now) (length a.two_values.now) (length a.out_offsets.now) (length a.out_values.now) p.1.fit in
    omega (arith, f.1.one-values, c.values_in.ensures, c.clear_u8-2.auto.bytes)

pub split_at_mut-bo_out-requires : goal.split_at_mut-bo_out-requires
split_at_mut-bo_out-requires c =
    let p = recipe_sized _ _ _ (misfit_none (c.recipe_refusal.ensures _ (c.list-sizes.ensures _ (c.list-4.ensures _ (c.list-3.ensures _ (c.list-2.ensures _ (c.list.ensures _ (c.numbers-2.ensures _ (c.numbers.ensures _ c.none.ensures)))))))) c.in_default.is) in
    let a = c.args in
    let f = all_fit (length a.numbers.now) (length a.arguments.now) (length a.offsets.now) (length a.values.now) (length a.second_offsets.now) (length a.second_values.now) (length a.one_offsets.now) (length a.one_values.now) (length a.two_offsets.now) (length a.two_values.now) (length a.out_offsets.now) (length a.out_values.now) p.1.fit in
    omega (arith, f.1.two-offsets, c.offsets_in-2.ensures, c.clear_u8-3.auto.bytes)

pub split_at_mut-bv_out-requires : goal.split_at_mut-bv_out-requires
split_at_mut-bv_out-requires c =
    let p = recipe_sized _ _ _ (misfit_none (c.recipe_refusal.ensures _ (c.list-sizes.ensures _ (c.list-4.ensures _ (c.list-3.ensures _ (c.list-2.ensures _ (c.list.ensures _ (c.numbers-2.ensures _ (c.numbers.ensures _ c.none.ensures)))))))) c.in_default.is) in
    let a = c.args in
    let f = all_fit (length a.numbers.now) (length a.arguments.now) (length a.offsets.now) (length a.values.now) (length a.second_offsets.now) (length a.second_values.now) (length a.one_offsets.now) (length a.one_values.now) (length a.two_offsets.now) (length a.two_values.now) (length a.out_offsets.now) (length a.out_values.now) p.1.fit in
    omega (arith, f.1.two-values, c.values_in-2.ensures, c.clear_u8-4.auto.bytes)

pub split_at_mut-offsets_out-requires : goal.split_at_mut-offsets_out-requires
split_at_mut-offsets_out-requires c =
    let p = recipe_sized _ _ _ (misfit_none (c.recipe_refusal.ensures _ (c.list-sizes.ensures _ (c.list-4.ensures _ (c.list-3.ensures _ (c.list-2.ensures _ (c.list.ensures _ (c.numbers-2.ensures _ (c.numbers.ensures _ c.none.ensures)))))))) c.in_default.is) in
    let a = c.args in
    let f = all_fit (length a.numbers.now) (length a.arguments.now) (length a.offsets.now) (length a.values.now) (length a.second_offsets.now) (length a.second_values.now) (length a.one_offsets.now) (length a.one_values.now) (length a.two_offsets.now) (length a.two_values.now) (length a.out_offsets.now) (length a.out_values.now) p.1.fit in
    omega (arith, f.2.offsets, c.offsets_in-3.ensures)

pub split_at_mut-values_out-requires : goal.split_at_mut-values_out-requires
split_at_mut-values_out-requires c =
    let p = recipe_sized _ _ _ (misfit_none (c.recipe_refusal.ensures _ (c.list-sizes.ensures _ (c.list-4.ensures _ (c.list-3.ensures _ (c.list-2.ensures _ (c.list.ensures _ (c.numbers-2.ensures _ (c.numbers.ensures _ c.none.ensures)))))))) c.in_default.is) in
    let a = c.args in
    let f = all_fit (length a.numbers.now) (length a.arguments.now) (length a.offsets.now) (length a.values.now) (length a.second_offsets.now) (length a.second_values.now) (length a.one_offsets.now) (length a.one_values.now) (length a.two_offsets.now) (length a.two_values.now) (length a.out_offsets.now) (length a.out_values.now) p.1.fit in
    omega (arith, f.2.values, c.values_in-3.ensures)

pub get_tally-before-requires : goal.get_tally-before-requires
get_tally-before-requires c =
    let p = recipe_sized _ _ _ (misfit_none (c.recipe_refusal.ensures _ (c.list-sizes.ensures _ (c.list-4.ensures _ (c.list-3.ensures _ (c.list-2.ensures _ (c.list.ensures _ (c.numbers-2.ensures _ (c.numbers.ensures _ c.none.ensures)))))))) c.in_default.is) in
    p.0

pub run-done-requires : goal.run-done-requires
run-done-requires c =
    let p = recipe_sized _ _ _ (misfit_none (c.recipe_refusal.ensures _ (c.list-sizes.ensures _ (c.list-4.ensures _ (c.list-3.ensures _ (c.list-2.ensures _ (c.list.ensures _ (c.numbers-2.ensures _ (c.numbers.ensures _ c.none.ensures)))))))) c.in_default.is) in
    let a = c.args in
    let f = all_fit (length a.numbers.now) (length a.arguments.now) (length a.offsets.now) (length a.values.now) (length a.second_offsets.now) (length a.second_values.now) (length a.one_offsets.now) (length a.one_values.now) (length a.two_offsets.now) (length a.two_values.now) (length a.out_offsets.now) (length a.out_values.now) p.1.fit in
    rw (c.list_bytes.ensures, c.list_bytes-2.ensures, c.value_bytes.ensures) f.0

pub put_tally-requires : goal.put_tally-requires
put_tally-requires c =
    let p = recipe_sized _ _ _ (misfit_none (c.recipe_refusal.ensures _ (c.list-sizes.ensures _ (c.list-4.ensures _ (c.list-3.ensures _ (c.list-2.ensures _ (c.list.ensures _ (c.numbers-2.ensures _ (c.numbers.ensures _ c.none.ensures)))))))) c.in_default.is) in
    p.0

pub put_list-requires : goal.put_list-requires
put_list-requires c =
    let p = recipe_sized _ _ _ (misfit_none (c.recipe_refusal.ensures _ (c.list-sizes.ensures _ (c.list-4.ensures _ (c.list-3.ensures _ (c.list-2.ensures _ (c.list.ensures _ (c.numbers-2.ensures _ (c.numbers.ensures _ c.none.ensures)))))))) c.in_default.is) in
    let a = c.args in
    let f = all_fit (length a.numbers.now) (length a.arguments.now) (length a.offsets.now) (length a.values.now) (length a.second_offsets.now) (length a.second_values.now) (length a.one_offsets.now) (length a.one_values.now) (length a.two_offsets.now) (length a.two_values.now) (length a.out_offsets.now) (length a.out_values.now) p.1.fit in
    let s = c.split_at_mut-offsets_out.ensures in
    let t = c.split_at_mut-values_out.ensures in
    let m = c.run-done.ensures.list_answers in
    let w : c.written-4-1.given.0 ≡ c.run-done.new.out.elements.now = c.written-4-1.given.1 (sym m.same.elements) in
    let o : c.offsets_out-1.given.0 ≡ c.run-done.new.out.offsets.now = c.offsets_out-1.given.1.1 (sym m.same.offsets) in
    let q : c.values_out-1.given.0 ≡ c.run-done.new.out.elements.now.values.now = c.values_out-1.given.1.1 (sym (ap (λ (x : ValueOutput). x.values.ghost_name) w ∙ m.same.values)) ∙ ap (λ (x : ValueOutput). x.values.now) w in
    ready (list_done _ _ _ _ o q refl refl s.front s.back t.front t.back m.meets (search rules) (search rules) (omega (arith, f.2.offsets, c.offsets_in-3.ensures)) (omega (arith, f.2.values, c.values_in-3.ensures)) refl) (omega (arith, f.2.offsets, c.offsets_in-3.ensures)) (omega (arith, f.2.values, c.values_in-3.ensures)) c.offsets_in-3.ensures c.values_in-3.ensures p.1.counts

pub returns : goal.returns
returns c =
    let p = recipe_sized _ _ _ (misfit_none (c.recipe_refusal.ensures _ (c.list-sizes.ensures _ (c.list-4.ensures _ (c.list-3.ensures _ (c.list-2.ensures _ (c.list.ensures _ (c.numbers-2.ensures _ (c.numbers.ensures _ c.none.ensures)))))))) c.in_default.is) in
    let a = c.args in
    let f = all_fit (length a.numbers.now) (length a.arguments.now) (length a.offsets.now) (length a.values.now) (length a.second_offsets.now) (length a.second_values.now) (length a.one_offsets.now) (length a.one_values.now) (length a.two_offsets.now) (length a.two_values.now) (length a.out_offsets.now) (length a.out_values.now) p.1.fit in
    let s = c.split_at_mut-offsets_out.ensures in
    let t = c.split_at_mut-values_out.ensures in
    let m = c.run-done.ensures.list_answers in
    let w : c.written-4-1.given.0 ≡ c.run-done.new.out.elements.now = c.written-4-1.given.1 (sym m.same.elements) in
    let o : c.offsets_out-1.given.0 ≡ c.run-done.new.out.offsets.now = c.offsets_out-1.given.1.1 (sym m.same.offsets) in
    let q : c.values_out-1.given.0 ≡ c.run-done.new.out.elements.now.values.now = c.values_out-1.given.1.1 (sym (ap (λ (x : ValueOutput). x.values.ghost_name) w ∙ m.same.values)) ∙ ap (λ (x : ValueOutput). x.values.now) w in
    let r : c.out_rows-1.given.0 ≡ c.run-done.new.out.rows.now = c.out_rows-1.given.1.1 (sym m.same.rows) in
    let e : c.out_elements-1.given.0 ≡ c.run-done.new.out.elements.now.bits.now = c.out_elements-1.given.1.1 (sym (ap (λ (x : ValueOutput). x.bits.ghost_name) w ∙ m.same.bits)) ∙ ap (λ (x : ValueOutput). x.bits.now) w in
    let one = c.run-done.ensures.clears in
    let two = c.run-done.ensures.clears_2 in
    let u : c.one_written-4-1.given.0 ≡ c.run-done.new.one.elements.now = c.one_written-4-1.given.1 (sym one.same.elements) in
    let v : c.two_written-4-1.given.0 ≡ c.run-done.new.two.elements.now = c.two_written-4-1.given.1 (sym two.same.elements) in
    let ao = c.split_at_mut-ao_out.ensures in
    let av = c.split_at_mut-av_out.ensures in
    let bo = c.split_at_mut-bo_out.ensures in
    let bv = c.split_at_mut-bv_out.ensures in (
      list_as (called _ _ refl (c.recipe_refusal.ensures _ (c.list-sizes.ensures _ (c.list-4.ensures _ (c.list-3.ensures _ (c.list-2.ensures _ (c.list.ensures _ (c.numbers-2.ensures _ (c.numbers.ensures _ c.none.ensures)))))))) (ap misfit_by c.in_default.is)) (list_returns (list_done _ _ _ _ o q r e s.front s.back t.front t.back m.meets (search rules) (search rules) (omega (arith, f.2.offsets, c.offsets_in-3.ensures)) (omega (arith, f.2.values, c.values_in-3.ensures)) (recipe_as a.station a.columns a.numbers.now _ _ _ _ _ _ (ap decoded_in c.list_bytes.ensures) (ap decoded_in c.list_bytes-2.ensures) (ap decoded_values_in c.value_bytes.ensures) (ao.front_len ∙ c.offsets_in.ensures ∙ ap (λ (x : ℕ). x / 4) c.clear_u8.auto.bytes) (av.front_len ∙ c.values_in.ensures ∙ ap (λ (x : ℕ). x / 8) c.clear_u8-2.auto.bytes) (bo.front_len ∙ c.offsets_in-2.ensures ∙ ap (λ (x : ℕ). x / 4) c.clear_u8-3.auto.bytes) (bv.front_len ∙ c.values_in-2.ensures ∙ ap (λ (x : ℕ). x / 8) c.clear_u8-4.auto.bytes) (s.front_len ∙ c.offsets_in-3.ensures) (t.front_len ∙ c.values_in-3.ensures))) c.put_list.ensures),
      (c.clear_u8.ensures, c.one_rows-2-1.given.1.1 (sym one.same.rows) ∙ one.zeroed.rows, c.clear_u8-2.ensures, c.one_elements-2-1.given.1.1 (sym (ap (λ (x : ValueOutput). x.bits.ghost_name) u ∙ one.same.bits)) ∙ ap (λ (x : ValueOutput). x.bits.now) u ∙ one.zeroed.elements),
      (c.clear_u8-3.ensures, c.two_rows-2-1.given.1.1 (sym two.same.rows) ∙ two.zeroed.rows, c.clear_u8-4.ensures, c.two_elements-2-1.given.1.1 (sym (ap (λ (x : ValueOutput). x.bits.ghost_name) v ∙ two.same.bits)) ∙ ap (λ (x : ValueOutput). x.bits.now) v ∙ two.zeroed.elements),
      counted _ _ (c.recipe_refusal.ensures _ (c.list-sizes.ensures _ (c.list-4.ensures _ (c.list-3.ensures _ (c.list-2.ensures _ (c.list.ensures _ (c.numbers-2.ensures _ (c.numbers.ensures _ c.none.ensures)))))))) _ (ap misfit_by c.in_default.is) (tally_put _ _ c.put_tally.ensures c.run-done.ensures.tally_value c.get_tally-before.ensures (recipe_as a.station a.columns a.numbers.now _ _ _ _ _ _ (ap decoded_in c.list_bytes.ensures) (ap decoded_in c.list_bytes-2.ensures) (ap decoded_values_in c.value_bytes.ensures) (ao.front_len ∙ c.offsets_in.ensures ∙ ap (λ (x : ℕ). x / 4) c.clear_u8.auto.bytes) (av.front_len ∙ c.values_in.ensures ∙ ap (λ (x : ℕ). x / 8) c.clear_u8-2.auto.bytes) (bo.front_len ∙ c.offsets_in-2.ensures ∙ ap (λ (x : ℕ). x / 4) c.clear_u8-3.auto.bytes) (bv.front_len ∙ c.values_in-2.ensures ∙ ap (λ (x : ℕ). x / 8) c.clear_u8-4.auto.bytes) (s.front_len ∙ c.offsets_in-3.ensures) (t.front_len ∙ c.values_in-3.ensures))),
    )
