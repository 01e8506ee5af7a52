use Rattle.std.proofs.Common.{arith, ℕ, ◌-◌, ℤ, List, pos, get_or, length, reverse, drop, refl, ap, ◌∙◌}
use Rattle.std.proofs.lemmas.List.{take-take}
use Rattle.std.proofs.lemmas.List.Edits.{sets}
use Rattle.stores.proofs.StoreLaws.{part_stored, part_tab, length_back}
use Rattle.stores.proofs.turn_eight.Goals as goal

pub returns : goal.returns
returns c =
    let a = c.args in
    let G : ℕ → ℤ = λ i. get_or a.values.now i (pos 0) in
    let chunk = rw c.unwrap.ensures at c.first_chunk.ensures.cases in
    let read = chunk.same ∙ take-take 8 (length a.values.now - a.p) (drop a.p a.values.now) (omega arith) ∙ part_tab a.values.now (pos 0) a.p 8 8 refl c.requires.p_in_bounds in
    let turned = c.copy_from_slice.ensures.after ∙ c.reverse.ensures.after ∙ ap (λ (l : List ℤ). reverse l) read in
    part_stored c.copy_from_slice.new.self a.out.now a.k _ (omega (arith, ap length turned, length_back G a.p 8)) (omega arith)
    ∙ ap (sets a.out.now a.k) turned
