use Rattle.std.proofs.Common.{◌≡◌, drop, pos}
use Rattle.model.specs.Column.{falls, bad_offsets}
use Rattle.column.proofs.offsets.are_bad.Given as goal

abbrev pub invariant-loop-offset : goal.invariant-loop-offset
invariant-loop-offset g l =
    falls (pos l.last) (drop l.offset-index (g.O.Offset.numbers l.offsets)) l.n ≡ bad_offsets (g.O.Offset.numbers l.offsets) l.n
