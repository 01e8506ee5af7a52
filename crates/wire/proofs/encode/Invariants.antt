-- The loop writes numbers (Spelling.antt).
use Rattle.wire.proofs.Spelling.{Spelling}
use Rattle.wire.proofs.encode.Given as goal

abbrev pub invariant-loop-i : goal.invariant-loop-i
invariant-loop-i g l = Spelling g.T.Number.bytes_of_one l.v l.fn.d l.d l.i
