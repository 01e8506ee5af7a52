-- What each pair of rows needs is that of the definition.
use Rattle.std.proofs.Common.{◌∙◌, arith}
use Rattle.column.specs.Columns.{column_in}
use Rattle.hash_checks.specs.Area.{most_needed}
use Rattle.hash_checks.specs.Narrow.{narrow_numbers}
use Rattle.hash_checks.proofs.AreaLaws.{greatest_more, greatest_done, need_here, valid_le}
use Rattle.hash_checks.proofs.most_needed.Goals as goal

pub loop-r-preserved : goal.loop-r-preserved
loop-r-preserved c =
    let a = c.args in
    let e = c.valid_need-need.ensures in
    let n = c.row_length.ensures in
    let m = c.row_length-in-loop-r.ensures in
    greatest_more _ _ _ _ c.loop-r.invariant (omega arith)
    (need_here a.op (column_in narrow_numbers a.left) (column_in narrow_numbers a.right) _ _ _ n.value m.value c.are_valid-valid.ensures e)
    (rw e (valid_le _ _ _ _ n.upper_bound m.upper_bound))
    c.max-most.ensures

pub returns-clause-value : goal.returns-clause-value
unfolding most_needed
returns-clause-value c = greatest_done _ _ c.loop-r.invariant (omega arith) ∙ rw c.row_count-n.ensures
