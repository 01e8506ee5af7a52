use Rattle.std.proofs.Common.{◌-◌}
use Rattle.bitmap.specs.Reads.{bits_in}
use Rattle.column.specs.Columns.{values_in}
use Rattle.recipe_limits.specs.Limited.{count_at}
use Rattle.recipe_limits.proofs.LimitedLaws.{Counting}
use Rattle.recipe_limits.proofs.limits.Measured.counts_over.Given as goal

abbrev pub invariant-loop-r : goal.invariant-loop-r
invariant-loop-r l = Counting l.self.most (count_at (bits_in l.self.rows) (values_in l.self.arguments) l.a) l.self.row_count l.sum l.r (l.self.row_count - l.r)
