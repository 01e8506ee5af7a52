use Rattle.std.proofs.Common.{arith, rules, to_z, of_z, w64, ℕ, ◌+◌, ◌-◌, ◌≡◌, ℤ, refl, pos, get_or, length, sym, ap, ◌∙◌}
use Rattle.std.proofs.lemmas.List.{get_or-reverse}
use Rattle.model.proofs.SignedLaws.{back64}
use Rattle.model.specs.Basics.{tab}
use Rattle.model.proofs.TabLaws.{length-tab, get_or-tab}
use Rattle.stores.proofs.StoreLaws.{next_stored, all_stored, length_back}
use Rattle.stores.proofs.turn_short.Goals as goal

pub loop-i-preserved : goal.loop-i-preserved
loop-i-preserved c =
    let a = c.args in
    let i = c.loop-i.i in
    let G : ℕ → ℤ = λ i. get_or a.values.now i (pos 0) in
    let xs = tab G a.a a.n in
    let l : length xs ≡ a.n = length-tab G a.a a.n in
    let x = G (a.a + (a.n - 1 - i)) in
    let same : to_z w64 (of_z w64 x) ≡ x = search (rules, back64) in
    let there = get_or-reverse xs i (pos 0) (omega arith) ∙ ap (λ (m : ℕ). get_or xs (m - 1 - i) (pos 0)) l ∙ get_or-tab G a.a a.n (a.n - 1 - i) (pos 0) (omega arith) in
    next_stored i c.loop-i.invariant _ refl (pos 0) _ (omega (arith, length_back G a.a a.n)) (same ∙ sym there)

pub returns : goal.returns
returns c =
    let a = c.args in
    all_stored c.loop-i.i c.loop-i.invariant (omega (arith, length_back (λ i. get_or a.values.now i (pos 0)) a.a a.n))
