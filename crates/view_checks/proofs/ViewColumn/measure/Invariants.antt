-- So many elements are found in the rows so far.
use Rattle.std.proofs.Common.{◌-◌}
use Rattle.model.specs.View.{view_at}
use Rattle.column.proofs.WalkLaws.{Summing}
use Rattle.view_checks.specs.Views.{view_in}
use Rattle.view_checks.proofs.ViewColumn.measure.Given as goal

abbrev pub invariant-loop-r : goal.invariant-loop-r
invariant-loop-r l = Summing (view_at (view_in l.self)) l.n l.found 2147483647 l.found l.r (l.n - l.r)
