use Rattle.std.proofs.Common.{◌*◌, ◌+◌}
use Rattle.null_slots.proofs.NulledLaws.{Nulling}
use Rattle.null_slots.proofs.put_nulls.Given as goal

abbrev pub invariant-loop-i : goal.invariant-loop-i
invariant-loop-i l = Nulling l.bits (8 * l.k + l.s) l.n l.fn.out l.at l.out (64 * l.i)
