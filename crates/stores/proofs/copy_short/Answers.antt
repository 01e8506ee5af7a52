use Rattle.std.proofs.Common.{arith, rules, to_z, of_z, w64, ℕ, ◌+◌, ◌-◌, ◌≡◌, ℤ, List, refl, pos, get_or, length, ap, sym, ◌∙◌}
use Rattle.std.proofs.Math.Seq.{length-sets}
use Rattle.model.proofs.SignedLaws.{back64}
use Rattle.model.specs.Basics.{tab}
use Rattle.model.proofs.TabLaws.{length-tab, get_or-tab}
use Rattle.std.proofs.lemmas.List.Edits.{sets}
use Rattle.stores.proofs.StoreLaws.{next_stored, all_stored, sets_tab}
use Rattle.stores.proofs.copy_short.Goals as goal

pub loop-i-preserved : goal.loop-i-preserved
loop-i-preserved c =
    let a = c.args in
    let G : ℕ → ℤ = λ i. get_or a.values.now i (pos 0) in
    let x = get_or a.values.now (a.a + c.loop-i.i) (pos 0) in
    let same : to_z w64 (of_z w64 x) ≡ x = search (rules, back64) in
    next_stored c.loop-i.i c.loop-i.invariant _ refl (pos 0) _ (omega (arith, length-tab G a.a a.n)) (same ∙ sym (get_or-tab G a.a a.n c.loop-i.i (pos 0) (omega arith)))

pub returns-then-n-lt4 : goal.returns-then-n-lt4
returns-then-n-lt4 c =
    let a = c.args in
    all_stored c.loop-i.i c.loop-i.invariant (omega (arith, length-tab (λ i. get_or a.values.now i (pos 0)) a.a a.n))

pub returns : goal.returns
returns c =
    let a = c.args in
    let G : ℕ → ℤ = λ i. get_or a.values.now i (pos 0) in
    let last : ℕ = a.n - 4 in
    let all : last + 4 ≡ a.n = omega arith in
    let room = ap length c.copy_four.ensures ∙ length-sets a.out.now a.at (tab G a.a 4) in
    c.copy_four-2.ensures
    ∙ ap (λ (l : List ℤ). sets l (a.at + last) (tab G (a.a + last) 4)) c.copy_four.ensures
    ∙ sets_tab G a.a 4 last 4 a.out.now a.at (omega arith) (omega arith)
    ∙ ap (λ (i : ℕ). sets a.out.now a.at (tab G a.a i)) all
