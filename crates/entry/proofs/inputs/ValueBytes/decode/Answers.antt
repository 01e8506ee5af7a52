-- The numbers at the front.
use mir.Syntax.{w64}
use Rattle.wire.proofs.Lengths.{length-ints}
use Rattle.entry.proofs.AnswerLaws.{filled}
use Rattle.entry.proofs.inputs.ValueBytes.decode.Goals as goal

pub returns : goal.returns
returns c = filled _ _ _ c.fill.ensures (length-ints w64 _)
