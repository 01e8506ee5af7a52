-- Both sums so far, those of the rows from the row on being left.
use Rattle.std.proofs.Common.{◌-◌}
use Rattle.column.specs.Columns.{column_in, values_in}
use Rattle.repeat_sums.specs.Counts.{times_at, repeated_at}
use Rattle.repeat_sums.proofs.SumLaws.{Summing}
use Rattle.repeat_sums.proofs.sum_repeats.Given as goal

abbrev pub invariant-loop-r : goal.invariant-loop-r
invariant-loop-r g l =
    let a = values_in l.counts in
    Summing g.O.Offset.LIMITS (times_at a) (repeated_at (column_in g.O.Offset.numbers l.list) a) l.n l.lists l.values l.r (l.n - l.r)
