-- The loop reads numbers (Reading.antt).
use Rattle.std.proofs.Common.{◌*◌, length, take, drop}
use Rattle.wire.proofs.Reading.{Reading}
use Rattle.wire.proofs.fill.Given as goal

abbrev pub invariant-loop-i : goal.invariant-loop-i
invariant-loop-i g l = Reading (λ k. g.T.Number.number_in (take g.row.N (drop (k * g.row.N) l.fn.s))) (length l.parts) l.fn.d l.d l.i
