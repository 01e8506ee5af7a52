use Rattle.std.proofs.Common.{arith}
use Rattle.null_slots.proofs.NulledLaws.{turning_more}
use Rattle.null_slots.proofs.put_nulls_back.Goals as goal

pub loop-i-preserved : goal.loop-i-preserved
loop-i-preserved c = turning_more c.loop-i.invariant 64 c.word_from-next.result (omega arith) (omega arith) (omega arith) (omega arith) c.put_few_back.ensures c.word_from-next.ensures
