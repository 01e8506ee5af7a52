use Rattle.std.proofs.Common.{arith, ℕ, ◌+◌, ◌-◌, ◌*◌, ◌/◌, ◌≡◌, ℤ, List, pos, get_or, length, ap, refl, ◌∙◌}
use Rattle.std.proofs.Math.Seq.{length-sets}
use Rattle.std.proofs.lemmas.List.Edits.{sets}
use Rattle.model.specs.Basics.{tab}
use Rattle.stores.proofs.StoreLaws.{sets_tab}
use Rattle.stores.proofs.copy_values.Goals as goal

pub loop-i-init : goal.loop-i-init
unfolding tab
loop-i-init c = refl

pub copy_eight-requires-clause-k_in_bounds : goal.copy_eight-requires-clause-k_in_bounds
copy_eight-requires-clause-k_in_bounds c =
    let a = c.args in
    omega (arith, ap length c.loop-i.invariant, length-sets a.out.now a.at (tab (λ i. get_or a.values.now i (pos 0)) a.a (8 * c.loop-i.i)))

pub loop-i-preserved : goal.loop-i-preserved
loop-i-preserved c =
    let a = c.args in
    let i = c.loop-i.i in
    let G : ℕ → ℤ = λ i. get_or a.values.now i (pos 0) in
    let m : 8 * i + 8 ≡ 8 * (i + 1) = omega arith in
    c.copy_eight.ensures
    ∙ ap (λ (l : List ℤ). sets l (a.at + 8 * i) (tab G (a.a + 8 * i) 8)) c.loop-i.invariant
    ∙ sets_tab G a.a (8 * i) (8 * i) 8 a.out.now a.at (omega arith) (omega arith)
    ∙ ap (λ (j : ℕ). sets a.out.now a.at (tab G a.a j)) m

pub copy_eight-requires-2-clause-k_in_bounds : goal.copy_eight-requires-2-clause-k_in_bounds
copy_eight-requires-2-clause-k_in_bounds c =
    let a = c.args in
    omega (arith, ap length c.loop-i.invariant, length-sets a.out.now a.at (tab (λ i. get_or a.values.now i (pos 0)) a.a (8 * c.loop-i.i)))

pub returns : goal.returns
returns c =
    let a = c.args in
    let G : ℕ → ℤ = λ i. get_or a.values.now i (pos 0) in
    let last : ℕ = a.n - 8 in
    let e : c.loop-i.i ≡ a.n / 8 = omega arith in
    let all : last + 8 ≡ a.n = omega arith in
    c.copy_eight-2.ensures
    ∙ ap (λ (l : List ℤ). sets l (a.at + last) (tab G (a.a + last) 8)) c.loop-i.invariant
    ∙ sets_tab G a.a (8 * c.loop-i.i) last 8 a.out.now a.at (omega (arith, e)) (omega (arith, e))
    ∙ ap (λ (i : ℕ). sets a.out.now a.at (tab G a.a i)) all
