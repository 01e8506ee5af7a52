use Rattle.std.proofs.Common.{arith, ℕ, ◌-◌, ℤ, List, pos, get_or, length, drop, refl, ap, ◌∙◌}
use Rattle.std.proofs.lemmas.List.{take-take}
use Rattle.std.proofs.lemmas.List.Edits.{sets}
use Rattle.model.proofs.TabLaws.{length-tab}
use Rattle.stores.proofs.StoreLaws.{part_stored, part_tab}
use Rattle.stores.proofs.copy_eight.Goals as goal

pub returns : goal.returns
returns c =
    let a = c.args in
    let G : ℕ → ℤ = λ i. get_or a.values.now i (pos 0) in
    let chunk = rw c.unwrap.ensures at c.first_chunk.ensures.cases in
    let read = chunk.same ∙ take-take 8 (length a.values.now - a.p) (drop a.p a.values.now) (omega arith) ∙ part_tab a.values.now (pos 0) a.p 8 8 refl c.requires.p_in_bounds in
    let copied = c.copy_from_slice.ensures.after ∙ read in
    part_stored c.copy_from_slice.new.self a.out.now a.k _ (omega (arith, ap length copied, length-tab G a.p 8)) (omega arith)
    ∙ ap (sets a.out.now a.k) copied
