-- The greatest need so far, and of the rows left, is that of all rows.
use Rattle.column.specs.Columns.{column_in}
use Rattle.hash_checks.specs.Area.{need_at}
use Rattle.hash_checks.specs.Narrow.{narrow_numbers}
use Rattle.hash_checks.proofs.AreaLaws.{Greatest}
use Rattle.hash_checks.proofs.most_needed.Given as goal

abbrev pub invariant-loop-r : goal.invariant-loop-r
invariant-loop-r l = Greatest (need_at l.op (column_in narrow_numbers l.left) (column_in narrow_numbers l.right)) l.n l.most l.r
