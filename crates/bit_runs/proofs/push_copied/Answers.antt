use Rattle.std.proofs.Common.{arith}
use Rattle.bit_runs.proofs.RunLaws.{forward_on}
use Rattle.bit_runs.proofs.push_copied.Goals as goal

pub loop-i-preserved : goal.loop-i-preserved
loop-i-preserved c = forward_on c.loop-i.invariant 64 c.word_from-word.result (omega arith) (omega arith) (omega arith) (omega arith) c.word_from-word.ensures c.push_word.ensures
