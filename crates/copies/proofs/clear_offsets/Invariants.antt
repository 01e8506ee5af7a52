use Rattle.std.proofs.Common.{◌≡◌, length, take, replicate, pos}
use Rattle.copies.proofs.clear_offsets.Given as goal

abbrev pub invariant-loop-i : goal.invariant-loop-i
invariant-loop-i g l =
    (length (g.O.Offset.numbers l.offsets) ≡ length (g.O.Offset.numbers l.fn.offsets)) × (take l.i (g.O.Offset.numbers l.offsets) ≡ replicate l.i (pos 0))
