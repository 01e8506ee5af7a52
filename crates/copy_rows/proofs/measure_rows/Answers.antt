use Rattle.std.proofs.Common.{arith}
use Rattle.column.proofs.WalkLaws.{between, sum_done}
use Rattle.copy_rows.proofs.CopyLaws.{rows_at, sum_row}
use Rattle.column.specs.Columns.{column_in}
use Rattle.copy_rows.proofs.measure_rows.Goals as goal

pub row_len-found-requires-clause-a_le_b : goal.row_len-found-requires-clause-a_le_b
row_len-found-requires-clause-a_le_b g c =
    let C = column_in g.O.Offset.numbers c.args.list in
    (between C _ c.loop-r.r _ _ c.requires.column c.row_count-n.ensures (omega arith) c.offset_at-a.ensures.value c.offset_at-b.ensures.value).rises

pub overflow_add-found : goal.overflow_add-found
overflow_add-found g c =
    let C = column_in g.O.Offset.numbers c.args.list in
    let s = sum_row C _ g.O.Offset.LIMITS.offset c.requires.column c.row_count-n.ensures c.loop-r.invariant (omega arith) c.offset_at-a.ensures.value c.offset_at-b.ensures.value c.offset_at-b.ensures.upper_bound c.row_len-found.ensures in
    omega (arith, s.small, g.met.O.Offset.limits_fit.offset)

pub loop-r-preserved : goal.loop-r-preserved
loop-r-preserved g c =
    let C = column_in g.O.Offset.numbers c.args.list in
    sum_row C _ g.O.Offset.LIMITS.offset c.requires.column c.row_count-n.ensures c.loop-r.invariant (omega arith) c.offset_at-a.ensures.value c.offset_at-b.ensures.value c.offset_at-b.ensures.upper_bound c.row_len-found.ensures

pub returns-clause-value : goal.returns-clause-value
returns-clause-value g c =
    let C = column_in g.O.Offset.numbers c.args.list in
    rw (← rows_at C _ c.row_count-n.ensures) (sum_done _ _ _ c.loop-r.invariant (omega arith))
