use Rattle.std.proofs.Common.{◌≡◌, ◌*◌}
use Rattle.bitmap.specs.Push.{trues}
use Rattle.model.specs.Basics.{tab}
use Rattle.model.specs.Bitmap.{bit_at}
use Rattle.bit_words.proofs.count_set.Given as goal

abbrev pub invariant-loop-i : goal.invariant-loop-i
invariant-loop-i l = l.found ≡ trues (tab (bit_at l.bitmap) 0 (64 * l.i))
