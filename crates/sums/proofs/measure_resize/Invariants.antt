use Rattle.bitmap.specs.Reads.{bits_in}
use Rattle.column.specs.Columns.{values_in}
use Rattle.sums.specs.Sums.{count_at}
use Rattle.sums.proofs.SumLaws.{Running}
use Rattle.sums.proofs.measure_resize.Given as goal

abbrev pub invariant-loop-r : goal.invariant-loop-r
invariant-loop-r g l = Running (count_at (bits_in l.rows) (values_in l.counts)) l.n l.sum l.r
