use Rattle.std.proofs.Common.{arith}
use Rattle.null_slots.proofs.NulledLaws.{nulling_more}
use Rattle.null_slots.proofs.put_nulls.Goals as goal

pub loop-i-preserved : goal.loop-i-preserved
loop-i-preserved c = nulling_more c.loop-i.invariant 64 c.word_from-word.result (omega arith) (omega arith) (omega arith) (omega arith) c.put_few.ensures c.word_from-word.ensures
