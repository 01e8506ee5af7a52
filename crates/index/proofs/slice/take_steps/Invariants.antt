use Rattle.std.proofs.Common.{◌≡◌, ◌+◌, ◌/◌, ◌%◌, ◌≤◌, nat_abs}
use Rattle.std.specs.Int.Signed.{non_neg}
use lib.Dec.{T}
use Rattle.model.specs.Column.{count}
use Rattle.index.proofs.slice.take_steps.Given as goal

abbrev pub invariant-loop-stride : goal.invariant-loop-stride
invariant-loop-stride g l =
    let o = g.O.Offset in let d = count (o.number l.fn.distance) in let size = nat_abs (o.number l.fn.stride) in
    record {
      left_natural : T (non_neg (o.number l.left));
      taken_natural : T (non_neg (o.number l.taken));
      within : count (o.number l.left) + count (o.number l.taken) ≤ d;
      counted : count (o.number l.left) / size + count (o.number l.taken) ≡ d / size;
      rest : count (o.number l.left) % size ≡ d % size;
    }

abbrev pub decreases-loop-stride : goal.decreases-loop-stride
decreases-loop-stride g l = count (g.O.Offset.number l.left)
