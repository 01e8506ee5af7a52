use Rattle.std.proofs.Common.{arith}
use Rattle.null_slots.proofs.NulledLaws.{nulling_more, nulling_done}
use Rattle.null_slots.proofs.put_eights.Goals as goal

pub loop-i-preserved : goal.loop-i-preserved
loop-i-preserved c = nulling_more c.loop-i.invariant 8 c.few_at-few.result (omega arith) (omega arith) (omega arith) (omega arith) (rw c.from.ensures at c.put_few.ensures) c.few_at-few.ensures.m_value

pub returns-then-left-eq0 : goal.returns-then-left-eq0
returns-then-left-eq0 c = nulling_done c.loop-i.invariant (omega arith)
