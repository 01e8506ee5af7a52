use Rattle.std.proofs.Common.{◌≡◌, ◌∙◌, refl, ◌+◌, ◌-◌, arith}
use Rattle.column.specs.Columns.{column_in, values_in}
use Rattle.column.proofs.WalkLaws.{between, put_keeps, walk_begun, walk_room, walk_small, walk_more, walk_done}
use Rattle.made_rows.proofs.CallLaws.{room_at, rows_at}
use Rattle.made_rows.proofs.RowLaws.{op_doable}
use Rattle.slice_rows.specs.Columns.{slice_in}
use Rattle.slice_rows.proofs.RowLaws.{planned_doable}
use Rattle.slice_walk.proofs.SliceLaws.{known, has_row, none_held, chosen, empty, turn_row, turn_room, turn_put}
use Rattle.slice_walk.proofs.write_rows.Goals as goal

pub loop-r-init : goal.loop-r-init
loop-r-init g c =
    let e : c.row_count-n.result - 0 ≡ c.row_count-n.result = omega arith in
    record { walking = rw e (walk_begun _ _ _ _ _ _); place = c.first_offset-a.ensures; held = none_held _ _ _ c.none-next.ensures; same = record { offsets = refl; rows = refl; elements = refl; values = refl; bits = refl } }

pub take-valid-requires-clause-known : goal.take-valid-requires-clause-known
take-valid-requires-clause-known g c =
    known c.args.op c.requires.kind (rw (← c.row_count-n.ensures) at c.requires.arguments) c.of-columns.ensures _ (rw c.row_count-n.ensures c.requires.column.rows)

pub take-valid-requires-clause-held : goal.take-valid-requires-clause-held
take-valid-requires-clause-held g c = c.loop-r.invariant.held

pub overflow_sub-len : goal.overflow_sub-len
overflow_sub-len g c =
    (between (column_in g.O.Offset.numbers c.args.list) _ _ _ _ c.requires.column c.row_count-n.ensures c.loop-r-test.true c.loop-r.invariant.place c.offset_at-b.ensures.value).rises

pub plan_at-plan-requires-clause-there : goal.plan_at-plan-requires-clause-there
plan_at-plan-requires-clause-there g c =
    has_row c.args.op c.requires.kind (rw (← c.row_count-n.ensures) at c.requires.arguments) c.of-columns.ensures _ c.loop-r-test.true

pub write_planned-at-requires-clause-column : goal.write_planned-at-requires-clause-column
write_planned-at-requires-clause-column g c =
    let reads = between (column_in g.O.Offset.numbers c.args.list) _ _ _ _ c.requires.column c.row_count-n.ensures c.loop-r-test.true c.loop-r.invariant.place c.offset_at-b.ensures.value in
    record { inside = omega (arith, reads.rises, reads.inside); bits = reads.elements }

pub write_planned-at-requires-clause-doable : goal.write_planned-at-requires-clause-doable
write_planned-at-requires-clause-doable g c =
    let a = c.args in
    let C = column_in g.O.Offset.numbers a.list in
    let i = c.loop-r.invariant in
    let is = chosen g.O.Offset.LIMITS a.op c.requires.kind C (values_in a.xs) (values_in a.ys) (values_in a.zs) (slice_in c.of-columns.result) c.of-columns.ensures c.row_count-n.result c.loop-r.r _ _ i.place c.offset_at-b.ensures.value _ _ c.take-valid.ensures.valid c.plan_at-plan.ensures in
    let none = empty g.O.Offset.LIMITS a.op c.requires.kind C (values_in a.xs) (values_in a.ys) (values_in a.zs) (slice_in c.of-columns.result) c.of-columns.ensures c.row_count-n.result c.loop-r.r _ _ i.place c.offset_at-b.ensures.value _ _ c.take-valid.ensures.valid c.plan_at-plan.ensures in
    planned_doable _ _ _ none (op_doable g.O.Offset.LIMITS a.op C.rows (values_in a.xs) (values_in a.ys) (values_in a.zs) c.loop-r.r _ _ is (omega (arith, c.offset_at-b.ensures.upper_bound, g.met.O.Offset.limits_fit.offset)))

pub write_planned-at-requires-clause-room : goal.write_planned-at-requires-clause-room
write_planned-at-requires-clause-room g c =
    let a = c.args in
    let C = column_in g.O.Offset.numbers a.list in
    let i = c.loop-r.invariant in
    let row = turn_row g.O.Offset.LIMITS a.op c.requires.kind C (values_in a.xs) (values_in a.ys) (values_in a.zs) (slice_in c.of-columns.result) c.of-columns.ensures c.row_count-n.result c.loop-r.r _ _ i.place c.offset_at-b.ensures.value _ _ c.take-valid.ensures.valid c.plan_at-plan.ensures in
    let roomy = room_at g.O.Offset.LIMITS a.op C (values_in a.xs) (values_in a.ys) (values_in a.zs) _ c.row_count-n.ensures c.requires.room (put_keeps (g.O.Offset.numbers a.out.now.offsets.now) 0 0 c.put_offset.ensures ∙ g.met.O.Offset.numbers_length a.out.now.offsets.now) in
    turn_room g.O.Offset.LIMITS a.op c.requires.kind C (values_in a.xs) (values_in a.ys) (values_in a.zs) (slice_in c.of-columns.result) c.of-columns.ensures c.row_count-n.result c.loop-r.r _ _ i.place c.offset_at-b.ensures.value _ _ c.take-valid.ensures.valid c.plan_at-plan.ensures
    (walk_room _ _ _ (omega (arith, c.loop-r-test.true)) row i.walking roomy)

pub put_offset-requires-in-loop-r-clause-v_le_offset : goal.put_offset-requires-in-loop-r-clause-v_le_offset
put_offset-requires-in-loop-r-clause-v_le_offset g c =
    let a = c.args in
    let C = column_in g.O.Offset.numbers a.list in
    let i = c.loop-r.invariant in
    let row = turn_row g.O.Offset.LIMITS a.op c.requires.kind C (values_in a.xs) (values_in a.ys) (values_in a.zs) (slice_in c.of-columns.result) c.of-columns.ensures c.row_count-n.result c.loop-r.r _ _ i.place c.offset_at-b.ensures.value _ _ c.take-valid.ensures.valid c.plan_at-plan.ensures in
    let put = turn_put g.O.Offset.LIMITS a.op c.requires.kind C (values_in a.xs) (values_in a.ys) (values_in a.zs) (slice_in c.of-columns.result) c.of-columns.ensures c.row_count-n.result c.loop-r.r _ _ i.place c.offset_at-b.ensures.value _ _ c.take-valid.ensures.valid c.plan_at-plan.ensures
    c.is_ok.ensures.value c.push_bit.ensures c.write_planned-at.ensures.written in
    let k = walk_small _ _ _ (omega (arith, c.loop-r-test.true)) row i.walking put in
    omega (arith, c.requires.small, (rw (rows_at g.O.Offset.LIMITS a.op C (values_in a.xs) (values_in a.ys) (values_in a.zs) _ c.row_count-n.ensures) at k))

pub loop-r-preserved : goal.loop-r-preserved
loop-r-preserved g c =
    let a = c.args in
    let C = column_in g.O.Offset.numbers a.list in
    let i = c.loop-r.invariant in
    let row = turn_row g.O.Offset.LIMITS a.op c.requires.kind C (values_in a.xs) (values_in a.ys) (values_in a.zs) (slice_in c.of-columns.result) c.of-columns.ensures c.row_count-n.result c.loop-r.r _ _ i.place c.offset_at-b.ensures.value _ _ c.take-valid.ensures.valid c.plan_at-plan.ensures in
    let put = turn_put g.O.Offset.LIMITS a.op c.requires.kind C (values_in a.xs) (values_in a.ys) (values_in a.zs) (slice_in c.of-columns.result) c.of-columns.ensures c.row_count-n.result c.loop-r.r _ _ i.place c.offset_at-b.ensures.value _ _ c.take-valid.ensures.valid c.plan_at-plan.ensures
    c.is_ok.ensures.value c.push_bit.ensures c.write_planned-at.ensures.written in
    let d : c.row_count-n.result - (c.loop-r.r + 1) ≡ c.row_count-n.result - c.loop-r.r - 1 = omega arith in
    let t = c.write_planned-at.ensures.same in
    record {
      walking = rw d (walk_more _ _ _ (omega (arith, c.loop-r-test.true)) row i.walking put c.put_offset-in-loop-r.ensures);
      place = c.offset_at-b.ensures.value;
      held = c.take-valid.ensures.held;
      same = record { offsets = i.same.offsets; rows = i.same.rows; elements = i.same.elements; values = t.values ∙ i.same.values; bits = t.bits ∙ i.same.bits };
    }

pub returns : goal.returns
returns g c =
    let a = c.args in
    let C = column_in g.O.Offset.numbers a.list in
    let roomy = room_at g.O.Offset.LIMITS a.op C (values_in a.xs) (values_in a.ys) (values_in a.zs) _ c.row_count-n.ensures c.requires.room (g.met.O.Offset.numbers_length a.out.now.offsets.now) in
    rw (← rows_at g.O.Offset.LIMITS a.op C (values_in a.xs) (values_in a.ys) (values_in a.zs) _ c.row_count-n.ensures)
    (record { filled = walk_done _ _ (g.O.Offset.numbers a.out.now.offsets.now) c.loop-r.invariant.walking (omega (arith, c.loop-r-test.false)) c.put_offset.ensures roomy; same = c.loop-r.invariant.same })
