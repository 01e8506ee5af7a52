use Rattle.std.proofs.Common.{◌≡◌, ◌∙◌, ◌+◌, ◌-◌, arith}
use Rattle.column.specs.Columns.{column_in, elems_in, values_in}
use Rattle.column.proofs.WalkLaws.{between, put_keeps, walk_room, walk_small, walk_more, walk_done}
use Rattle.made_rows.proofs.CallLaws.{counts-served}
use Rattle.model.specs.Column.{Column}
use Rattle.resize_walk.specs.Resized.{fills_in}
use Rattle.resize_walk.proofs.ResizedLaws.{fills_served, count_room, count_put, resized_row, resized-rows, resized-room}
use Rattle.resize_walk.proofs.write_rows.Goals as goal

pub count_at-count-requires-clause-serves : goal.count_at-count-requires-clause-serves
count_at-count-requires-clause-serves g c = rw c.row_count-n.ensures (counts-served c.args.op c.requires.kind c.requires.arguments)

pub fill_at-fill-requires-clause-serves : goal.fill_at-fill-requires-clause-serves
fill_at-fill-requires-clause-serves g c = rw (c.row_count-n.ensures, c.fills_of-fills.ensures) (fills_served c.args.op c.requires.kind c.requires.arguments)

pub overflow_sub-b : goal.overflow_sub-b
overflow_sub-b g c =
    let reads = between (column_in g.O.Offset.numbers c.args.list) c.row_count-n.result c.loop-r.r c.offset_at-a.result c.offset_at-b.result c.requires.column c.row_count-n.ensures c.loop-r-test.true c.offset_at-a.ensures.value c.offset_at-b.ensures.value in
    reads.rises

pub put_elements-at-requires-clause-column : goal.put_elements-at-requires-clause-column
put_elements-at-requires-clause-column g c =
    let reads = between (column_in g.O.Offset.numbers c.args.list) c.row_count-n.result c.loop-r.r c.offset_at-a.result c.offset_at-b.result c.requires.column c.row_count-n.ensures c.loop-r-test.true c.offset_at-a.ensures.value c.offset_at-b.ensures.value in
    record { inside = omega (arith, reads.rises, reads.inside); bits = reads.elements }

pub put_elements-at-requires-clause-room : goal.put_elements-at-requires-clause-room
put_elements-at-requires-clause-room g c =
    let a = c.args in
    let C : Column = column_in g.O.Offset.numbers a.list in
    let F = fills_in c.fills_of-fills.result in
    let row = resized_row C (values_in a.xs) F c.loop-r.r c.offset_at-a.result c.offset_at-b.result c.count_at-count.result c.fill_at-fill.result c.offset_at-a.ensures.value c.offset_at-b.ensures.value c.count_at-count.ensures c.fill_at-fill.ensures in
    let roomy = resized-room g.O.Offset.LIMITS a.op C (values_in a.xs) (values_in a.ys) (values_in a.zs) c.requires.kind F c.fills_of-fills.ensures c.row_count-n.result c.row_count-n.ensures c.requires.room (put_keeps (g.O.Offset.numbers a.out.now.offsets.now) 0 0 c.put_offset.ensures ∙ g.met.O.Offset.numbers_length a.out.now.offsets.now) in
    count_room c.count_at-count.result c.fill_at-fill.result _ (walk_room _ _ _ (omega (arith, c.loop-r-test.true)) row c.loop-r.invariant.walking roomy)

pub put_offset-requires-in-loop-r-clause-v_le_offset : goal.put_offset-requires-in-loop-r-clause-v_le_offset
put_offset-requires-in-loop-r-clause-v_le_offset g c =
    let a = c.args in
    let C : Column = column_in g.O.Offset.numbers a.list in
    let F = fills_in c.fills_of-fills.result in
    let row = resized_row C (values_in a.xs) F c.loop-r.r c.offset_at-a.result c.offset_at-b.result c.count_at-count.result c.fill_at-fill.result c.offset_at-a.ensures.value c.offset_at-b.ensures.value c.count_at-count.ensures c.fill_at-fill.ensures in
    let es = elems_in a.list.elements c.offset_at-a.result (c.offset_at-b.result - c.offset_at-a.result) in
    let put = count_put c.count_at-count.result c.fill_at-fill.result es c.is_some.ensures c.push_bit.ensures c.put_elements-at.ensures.written in
    let k = walk_small _ _ _ (omega (arith, c.loop-r-test.true)) row c.loop-r.invariant.walking put in
    omega (arith, c.requires.small, (rw (resized-rows g.O.Offset.LIMITS a.op C (values_in a.xs) (values_in a.ys) (values_in a.zs) c.requires.kind F c.fills_of-fills.ensures c.row_count-n.result c.row_count-n.ensures) at k))

pub loop-r-preserved : goal.loop-r-preserved
loop-r-preserved g c =
    let a = c.args in
    let C : Column = column_in g.O.Offset.numbers a.list in
    let F = fills_in c.fills_of-fills.result in
    let row = resized_row C (values_in a.xs) F c.loop-r.r c.offset_at-a.result c.offset_at-b.result c.count_at-count.result c.fill_at-fill.result c.offset_at-a.ensures.value c.offset_at-b.ensures.value c.count_at-count.ensures c.fill_at-fill.ensures in
    let es = elems_in a.list.elements c.offset_at-a.result (c.offset_at-b.result - c.offset_at-a.result) in
    let put = count_put c.count_at-count.result c.fill_at-fill.result es c.is_some.ensures c.push_bit.ensures c.put_elements-at.ensures.written in
    let i = c.loop-r.invariant in
    let d : c.row_count-n.result - (c.loop-r.r + 1) ≡ c.row_count-n.result - c.loop-r.r - 1 = omega arith in
    record {
      walking = rw d (walk_more _ _ _ (omega (arith, c.loop-r-test.true)) row i.walking put c.put_offset-in-loop-r.ensures);
      same = record { offsets = i.same.offsets; rows = i.same.rows; elements = i.same.elements; values = c.put_elements-at.ensures.same.values ∙ i.same.values; bits = c.put_elements-at.ensures.same.bits ∙ i.same.bits };
    }

pub returns : goal.returns
returns g c =
    let a = c.args in
    let C : Column = column_in g.O.Offset.numbers a.list in
    let F = fills_in c.fills_of-fills.result in
    let roomy = resized-room g.O.Offset.LIMITS a.op C (values_in a.xs) (values_in a.ys) (values_in a.zs) c.requires.kind F c.fills_of-fills.ensures c.row_count-n.result c.row_count-n.ensures c.requires.room (g.met.O.Offset.numbers_length a.out.now.offsets.now) in
    rw (← resized-rows g.O.Offset.LIMITS a.op C (values_in a.xs) (values_in a.ys) (values_in a.zs) c.requires.kind F c.fills_of-fills.ensures c.row_count-n.result c.row_count-n.ensures)
    (record { filled = walk_done _ _ (g.O.Offset.numbers a.out.now.offsets.now) c.loop-r.invariant.walking (omega (arith, c.loop-r-test.false)) c.put_offset.ensures roomy; same = c.loop-r.invariant.same })
