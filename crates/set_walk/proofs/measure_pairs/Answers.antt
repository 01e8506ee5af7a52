-- A turn adds the elements made of one pair of rows.
use Rattle.std.proofs.Common.{◌∙◌, arith}
use Rattle.column.specs.Columns.{column_in}
use Rattle.column.proofs.WalkLaws.{sum_done}
use Rattle.set_walk.specs.Pairs.{pair_rows}
use Rattle.set_walk.proofs.SetLaws.{bound_small, pair_more}
use Rattle.set_walk.proofs.measure_pairs.Goals as goal

pub overflow_add-found : goal.overflow_add-found
overflow_add-found g c =
    let m = c.measure_pair-found.ensures in
    let more = pair_more c.args.op (column_in g.O.Offset.numbers c.args.left) (column_in g.O.Offset.numbers c.args.right) _ g.O.Offset.LIMITS.offset _ _ c.measure_pair-found.result c.requires c.row_count-r-end.ensures c.loop-r.invariant (omega arith) m.left_end m.right_end m.value in
    omega (arith, more.small, bound_small c.args.op g.met.O.Offset.limits_fit.offset)

pub loop-r-preserved : goal.loop-r-preserved
loop-r-preserved g c =
    let m = c.measure_pair-found.ensures in
    pair_more c.args.op (column_in g.O.Offset.numbers c.args.left) (column_in g.O.Offset.numbers c.args.right) _ g.O.Offset.LIMITS.offset _ _ c.measure_pair-found.result c.requires c.row_count-r-end.ensures c.loop-r.invariant (omega arith) m.left_end m.right_end m.value

pub returns-clause-value : goal.returns-clause-value
unfolding pair_rows
returns-clause-value g c = sum_done _ _ _ c.loop-r.invariant (omega arith) ∙ rw c.row_count-r-end.ensures
