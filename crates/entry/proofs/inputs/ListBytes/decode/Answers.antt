-- Both kinds of numbers, at the fronts of their slices.
use mir.Syntax.{w32, w64}
use Rattle.wire.proofs.Lengths.{length-ints}
use Rattle.entry.proofs.AnswerLaws.{filled}
use Rattle.entry.proofs.inputs.ListBytes.decode.Goals as goal

pub returns : goal.returns
returns c =
    record { offsets = filled _ _ _ c.fill.ensures (length-ints w32 _); values = filled _ _ _ c.fill-2.ensures (length-ints w64 _) }
