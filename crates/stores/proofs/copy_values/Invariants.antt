use Rattle.std.proofs.Common.{◌≡◌, ◌*◌, pos, get_or}
use Rattle.std.proofs.lemmas.List.Edits.{sets}
use Rattle.model.specs.Basics.{tab}
use Rattle.stores.proofs.copy_values.Given as goal

-- eight times i are copied
abbrev pub invariant-loop-i : goal.invariant-loop-i
invariant-loop-i l = l.out ≡ sets l.initial.out l.at (tab (λ i. get_or l.values i (pos 0)) l.a (8 * l.i))
