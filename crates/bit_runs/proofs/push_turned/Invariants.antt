use Rattle.std.proofs.Common.{◌*◌, ◌+◌}
use Rattle.bit_runs.proofs.RunLaws.{Backward}
use Rattle.bit_runs.proofs.push_turned.Given as goal

abbrev pub invariant-loop-i : goal.invariant-loop-i
invariant-loop-i l = Backward l.bitmap (8 * l.k + l.s) l.n l.fn.out l.at l.out (8 * l.i)
