use Rattle.std.proofs.Common.{arith}
use Rattle.null_slots.proofs.NulledLaws.{turning_more, turning_done}
use Rattle.null_slots.proofs.put_eights_back.Goals as goal

pub loop-i-preserved : goal.loop-i-preserved
loop-i-preserved c = turning_more c.loop-i.invariant 8 c.few_at-few.result (omega arith) (omega arith) (omega arith) (omega arith) (rw c.from.ensures at c.put_few_back.ensures) c.few_at-few.ensures.m_value

pub returns-then-left-eq0 : goal.returns-then-left-eq0
returns-then-left-eq0 c = turning_done c.loop-i.invariant (omega arith)
