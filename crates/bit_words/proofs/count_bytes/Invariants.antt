use Rattle.std.proofs.Common.{◌≡◌, ◌*◌}
use Rattle.bitmap.specs.Push.{trues}
use Rattle.model.specs.Basics.{tab}
use Rattle.model.specs.Bitmap.{bit_at}
use Rattle.bit_words.proofs.count_bytes.Given as goal

abbrev pub invariant-loop-byte : goal.invariant-loop-byte
invariant-loop-byte l = l.found ≡ trues (tab (bit_at l.bitmap) (8 * l.from) (8 * l.byte-index))
