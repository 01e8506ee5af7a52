use Rattle.std.proofs.Common.{arith}
use Rattle.bit_runs.proofs.RunLaws.{backward_on, backward_done}
use Rattle.bit_runs.proofs.push_turned.Goals as goal

pub loop-i-preserved : goal.loop-i-preserved
loop-i-preserved c =
    backward_on c.loop-i.invariant 8 c.few_at-bits.result c.few_turned-back.result (omega arith) (omega arith) (omega arith) (omega arith) c.few_at-bits.ensures.m_value c.few_turned-back.ensures.m_value c.push_few.ensures

pub returns-then-left-eq0 : goal.returns-then-left-eq0
returns-then-left-eq0 c = backward_done c.loop-i.invariant (omega arith)
