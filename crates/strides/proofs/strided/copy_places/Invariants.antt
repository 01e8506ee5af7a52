use Rattle.std.proofs.Common.{[], pos, get_or}
use Rattle.model.specs.Basics.{tab}
use Rattle.model.specs.Column.{val}
use Rattle.strides.proofs.StrideLaws.{Going}
use Rattle.strides.proofs.strided.copy_places.Given as goal

-- the walk of the values alone
abbrev pub invariant-loop-j : goal.invariant-loop-j
invariant-loop-j l =
    let s = l.steps in
    Going s.start s.stride s.count (tab (λ i. val (get_or l.values i (pos 0))) l.a l.n) l.at l.fn.out [] l.j l.out [] l.p
