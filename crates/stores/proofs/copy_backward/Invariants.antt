use Rattle.std.proofs.Common.{◌≡◌, ℕ, ℤ, List, ◌+◌, ◌-◌, ◌*◌, pos, get_or, reverse}
use Rattle.std.proofs.lemmas.List.Edits.{sets}
use Rattle.model.specs.Basics.{tab}
use Rattle.stores.proofs.copy_backward.Given as goal

-- what is left goes after what is stored
abbrev pub invariant-loop-i : goal.invariant-loop-i
invariant-loop-i l =
    let xs : ℕ → List ℤ = λ m. reverse (tab (λ i. get_or l.values i (pos 0)) l.a m) in
    sets l.out (l.at + 8 * l.i) (xs (l.n - 8 * l.i)) ≡ sets l.initial.out l.at (xs l.n)
