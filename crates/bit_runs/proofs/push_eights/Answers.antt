use Rattle.std.proofs.Common.{arith}
use Rattle.bit_runs.proofs.RunLaws.{forward_on, forward_done}
use Rattle.bit_runs.proofs.push_eights.Goals as goal

pub loop-i-preserved : goal.loop-i-preserved
loop-i-preserved c = forward_on c.loop-i.invariant 8 c.few_at-bits.result (omega arith) (omega arith) (omega arith) (omega arith) c.few_at-bits.ensures.m_value c.push_few.ensures

pub returns-then-left-eq0 : goal.returns-then-left-eq0
returns-then-left-eq0 c = forward_done c.loop-i.invariant (omega arith)
