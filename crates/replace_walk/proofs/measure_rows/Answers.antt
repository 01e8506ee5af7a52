use Rattle.std.proofs.Common.{◌≡◌, ◌-◌, arith}
use Rattle.column.specs.Columns.{column_in, values_in}
use Rattle.column.proofs.WalkLaws.{between, sum_begun, sum_done}
use Rattle.made_rows.proofs.CallLaws.{rows_at}
use Rattle.match_rows.proofs.MatchLaws.{replace-served, sum_replaced}
use Rattle.ops.specs.declared.ListOp.TheVariants as L
use Rattle.replace_walk.proofs.measure_rows.Goals as goal

pub loop-r-init : goal.loop-r-init
loop-r-init g c =
    let e : c.row_count-n.result - 0 ≡ c.row_count-n.result = omega arith in
    record { rows = rw e (sum_begun _ _ _ _); place = c.first_offset-a.ensures }

pub overflow_sub-b : goal.overflow_sub-b
overflow_sub-b g c =
    let C = column_in g.O.Offset.numbers c.args.list in
    (between C c.row_count-n.result c.loop-r.r c.loop-r.a c.offset_at-b.result c.requires.column c.row_count-n.ensures c.loop-r-test.true c.loop-r.invariant.place c.offset_at-b.ensures.value).rises

pub limit_at-limit-requires-clause-served : goal.limit_at-limit-requires-clause-served
limit_at-limit-requires-clause-served g c = rw c.row_count-n.ensures (replace-served c.requires.arguments).2

pub overflow_add-found : goal.overflow_add-found
overflow_add-found g c =
    let a = c.args in
    let C = column_in g.O.Offset.numbers a.list in
    let s = sum_replaced g.O.Offset.LIMITS C (values_in a.xs) (values_in a.ys) (values_in a.zs) c.loop-r.r c.loop-r.a c.offset_at-b.result c.loop-r.invariant.place c.offset_at-b.ensures.value c.limit_at-limit.result c.replaced_length-found.result c.replaced_length-found.ensures c.limit_at-limit.ensures c.requires.column c.row_count-n.ensures c.loop-r-test.true c.offset_at-b.ensures.upper_bound c.loop-r.invariant.rows in
    omega (arith, s.small, g.met.O.Offset.limits_fit.offset)

pub loop-r-preserved : goal.loop-r-preserved
loop-r-preserved g c =
    let a = c.args in
    let C = column_in g.O.Offset.numbers a.list in
    record {
      rows = sum_replaced g.O.Offset.LIMITS C (values_in a.xs) (values_in a.ys) (values_in a.zs) c.loop-r.r c.loop-r.a c.offset_at-b.result c.loop-r.invariant.place c.offset_at-b.ensures.value c.limit_at-limit.result c.replaced_length-found.result c.replaced_length-found.ensures c.limit_at-limit.ensures c.requires.column c.row_count-n.ensures c.loop-r-test.true c.offset_at-b.ensures.upper_bound c.loop-r.invariant.rows;
      place = c.offset_at-b.ensures.value;
    }

pub returns-clause-value : goal.returns-clause-value
returns-clause-value g c =
    let a = c.args in
    let C = column_in g.O.Offset.numbers a.list in
    rw (← rows_at g.O.Offset.LIMITS L.Replace C (values_in a.xs) (values_in a.ys) (values_in a.zs) c.row_count-n.result c.row_count-n.ensures)
    (sum_done _ c.row_count-n.result g.O.Offset.LIMITS.offset c.loop-r.invariant.rows (omega arith))
