use Rattle.std.proofs.Common.{◌*◌, ◌+◌}
use Rattle.null_slots.proofs.NulledLaws.{NullingBack}
use Rattle.null_slots.proofs.put_nulls_back.Given as goal

abbrev pub invariant-loop-i : goal.invariant-loop-i
invariant-loop-i l = NullingBack l.bits (8 * l.k + l.s) l.n l.fn.out l.at l.out (64 * l.i)
