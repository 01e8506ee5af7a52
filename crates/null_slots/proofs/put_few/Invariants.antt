use Rattle.bit_words.specs.Words.{low_bits}
use Rattle.null_slots.proofs.MarkLaws.{Marking}
use Rattle.null_slots.proofs.put_few.Given as goal

abbrev pub invariant-loop-marks : goal.invariant-loop-marks
invariant-loop-marks l = Marking l.fn.out l.at l.m (low_bits l.word l.m) l.out l.marks

abbrev pub decreases-loop-marks : goal.decreases-loop-marks
decreases-loop-marks l = l.marks
