-- No more bits are set than are counted.
use Rattle.std.proofs.Common.{arith}
use Rattle.model.specs.Bitmap.{bit_at}
use Rattle.bitmap.proofs.OnesLaws.{trues-tab}
use Rattle.answers.proofs.count_nulls.Goals as goal

pub overflow_sub-result : goal.overflow_sub-result
overflow_sub-result c = omega (arith, trues-tab (bit_at c.args.bits.now) 0 c.args.n)
