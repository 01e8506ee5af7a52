use Rattle.std.proofs.Common.{arith}
use Rattle.null_slots.proofs.MarkLaws.{lowest, back_more, back_done}
use Rattle.null_slots.proofs.put_few_back.Goals as goal

pub overflow_sub-out-in-loop-marks : goal.overflow_sub-out-in-loop-marks
overflow_sub-out-in-loop-marks c = omega (arith, lowest 64 c.loop-marks.marks c.args.m (omega arith) (omega arith) c.loop-marks.invariant.few)

pub loop-marks-preserved : goal.loop-marks-preserved
loop-marks-preserved c = back_more c.loop-marks.invariant c.requires.m_bound (omega arith)

pub returns : goal.returns
returns c = back_done c.loop-marks.invariant (omega arith)
