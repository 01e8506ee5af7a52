use Rattle.std.proofs.Common.{arith}
use Rattle.null_slots.proofs.MarkLaws.{lowest, mark_more, marks_done}
use Rattle.null_slots.proofs.put_few.Goals as goal

pub slice_set_of-out : goal.slice_set_of-out
slice_set_of-out c = omega (arith, lowest 64 c.loop-marks.marks c.args.m (omega arith) (omega arith) c.loop-marks.invariant.few)

pub loop-marks-preserved : goal.loop-marks-preserved
loop-marks-preserved c = mark_more c.loop-marks.invariant c.requires.m_bound (omega arith)

pub returns : goal.returns
returns c = marks_done c.loop-marks.invariant (omega arith)
