use Rattle.std.proofs.Common.{◌*◌, ◌+◌}
use Rattle.bit_runs.proofs.RunLaws.{Forward}
use Rattle.bit_runs.proofs.push_copied.Given as goal

abbrev pub invariant-loop-i : goal.invariant-loop-i
invariant-loop-i l = Forward l.bitmap (8 * l.k + l.s) l.n l.fn.out l.at l.out (64 * l.i)
