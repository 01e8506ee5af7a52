use Rattle.std.proofs.Common.{◌+◌, ◌-◌}
use Rattle.bitmap.specs.Reads.{bits_in}
use Rattle.grade_rows.proofs.RunLaws.{Grading}
use Rattle.grade_rows.proofs.elements_grade.Given as goal

abbrev pub invariant-loop-p : goal.invariant-loop-p
invariant-loop-p l = Grading l.k l.elements.values.now (bits_in l.elements.bits) l.a l.n l.seen l.run l.p (l.a + l.n - l.p)
