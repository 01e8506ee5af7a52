use Rattle.std.proofs.Common.{◌+◌, pos, get_or, drop}
use Rattle.model.specs.Basics.{tab}
use Rattle.stores.proofs.StoreLaws.{Storing}
use Rattle.stores.proofs.copy_short.Given as goal

abbrev pub invariant-loop-i : goal.invariant-loop-i
invariant-loop-i l =
    let xs = tab (λ i. get_or l.values i (pos 0)) l.a l.n in
    Storing xs l.at l.initial.out (drop l.i xs) (l.at + l.i) l.out
