use Rattle.std.proofs.Common.{arith, ℕ, ◌+◌, ◌-◌, ◌*◌, ◌/◌, ◌%◌, ◌≡◌, ℤ, List, pos, get_or, reverse, ap, ◌∙◌}
use Rattle.std.proofs.lemmas.List.Edits.{sets}
use Rattle.model.specs.Basics.{tab}
use Rattle.stores.proofs.StoreLaws.{back_up}
use Rattle.stores.proofs.copy_backward.Goals as goal

pub loop-i-init : goal.loop-i-init
loop-i-init c =
    let a = c.args in
    let G : ℕ → ℤ = λ i. get_or a.values.now i (pos 0) in
    let k : a.at + 0 ≡ a.at = omega arith in
    let m : a.n - 0 ≡ a.n = omega arith in
    ap (λ (j : ℕ). sets a.out.now j (reverse (tab G a.a (a.n - 0)))) k ∙ ap (λ (j : ℕ). sets a.out.now a.at (reverse (tab G a.a j))) m

pub loop-i-preserved : goal.loop-i-preserved
loop-i-preserved c =
    let a = c.args in
    let i = c.loop-i.i in
    let G : ℕ → ℤ = λ i. get_or a.values.now i (pos 0) in
    let left : ℕ = a.n - 8 * (i + 1) in
    let k : a.at + 8 * (i + 1) ≡ a.at + 8 * i + 8 = omega arith in
    let m : left + 8 ≡ a.n - 8 * i = omega arith in
    ap (λ (j : ℕ). sets c.turn_eight.new.out j (reverse (tab G a.a left))) k
    ∙ ap (λ (l : List ℤ). sets l (a.at + 8 * i + 8) (reverse (tab G a.a left))) c.turn_eight.ensures
    ∙ back_up G a.a left 8 c.loop-i.out (a.at + 8 * i)
    ∙ ap (λ (j : ℕ). sets c.loop-i.out (a.at + 8 * i) (reverse (tab G a.a j))) m
    ∙ c.loop-i.invariant

pub returns : goal.returns
returns c =
    let a = c.args in
    let G : ℕ → ℤ = λ i. get_or a.values.now i (pos 0) in
    let e : c.loop-i.i ≡ a.n / 8 = omega arith in
    let m : a.n % 8 ≡ a.n - 8 * (a.n / 8) = omega arith in
    c.turn_short.ensures
    ∙ ap (λ (j : ℕ). sets c.loop-i.out (a.at + 8 * (a.n / 8)) (reverse (tab G a.a j))) m
    ∙ (rw e at c.loop-i.invariant)
