use Rattle.std.proofs.Common.{arith, refl, ◌≡◌, ◌∙◌, ◌+◌, ◌-◌}
use Rattle.column.specs.Columns.{column_in, elems_in}
use Rattle.column.proofs.SameLaws.{lists_on}
use Rattle.column.proofs.WalkLaws.{between, put_keeps, walk_begun, walk_room, walk_small, walk_more, walk_done}
use Rattle.plain_walk.proofs.PlainLaws.{plain_row_lem, plain_rows_lem, plain-room, plain_written}
use Rattle.plain_walk.proofs.write_each.Goals as goal

pub loop-r-init : goal.loop-r-init
loop-r-init g c =
    let e : c.row_count-n.result - 0 ≡ c.row_count-n.result = omega arith in
    record { walking = rw e (walk_begun _ _ _ _ _ _); place = c.first_offset-a.ensures; same = record { offsets = refl; rows = refl; elements = refl; values = refl; bits = refl } }

pub overflow_sub-len : goal.overflow_sub-len
overflow_sub-len g c =
    let C = column_in g.O.Offset.numbers c.args.list in
    let reads = between C c.row_count-n.result c.loop-r.r c.loop-r.a c.offset_at-b.result c.requires.column c.row_count-n.ensures c.loop-r-test.true c.loop-r.invariant.place c.offset_at-b.ensures.value in
    reads.rises

pub put_elements-at-requires-clause-column : goal.put_elements-at-requires-clause-column
put_elements-at-requires-clause-column g c =
    let C = column_in g.O.Offset.numbers c.args.list in
    let reads = between C c.row_count-n.result c.loop-r.r c.loop-r.a c.offset_at-b.result c.requires.column c.row_count-n.ensures c.loop-r-test.true c.loop-r.invariant.place c.offset_at-b.ensures.value in
    record { inside = omega (arith, reads.rises, reads.inside); bits = reads.elements }

pub put_elements-at-requires-clause-room : goal.put_elements-at-requires-clause-room
put_elements-at-requires-clause-room g c =
    let a = c.args in
    let numbers = g.O.Offset.numbers in
    let N = g.O.Offset.LIMITS in
    let C = column_in numbers a.list in
    let row = plain_row_lem N a.op C c.loop-r.r c.loop-r.a c.offset_at-b.result c.is_valid-valid.result c.loop-r.invariant.place c.offset_at-b.ensures.value c.is_valid-valid.ensures in
    let roomy = plain-room N a.op C c.row_count-n.result c.row_count-n.ensures c.requires.room (put_keeps (numbers a.out.now.offsets.now) 0 0 c.put_offset.ensures ∙ g.met.O.Offset.numbers_length a.out.now.offsets.now) in
    let here = walk_room _ _ _ (omega (arith, c.loop-r-test.true)) row c.loop-r.invariant.walking roomy in
    record { values = here.values; elements = here.elements }

pub push_bit-requires : goal.push_bit-requires
push_bit-requires g c =
    let a = c.args in
    let numbers = g.O.Offset.numbers in
    let N = g.O.Offset.LIMITS in
    let C = column_in numbers a.list in
    let row = plain_row_lem N a.op C c.loop-r.r c.loop-r.a c.offset_at-b.result c.is_valid-valid.result c.loop-r.invariant.place c.offset_at-b.ensures.value c.is_valid-valid.ensures in
    let roomy = plain-room N a.op C c.row_count-n.result c.row_count-n.ensures c.requires.room (put_keeps (numbers a.out.now.offsets.now) 0 0 c.put_offset.ensures ∙ g.met.O.Offset.numbers_length a.out.now.offsets.now) in
    let here = walk_room _ _ _ (omega (arith, c.loop-r-test.true)) row c.loop-r.invariant.walking roomy in
    omega (arith, here.rows)

pub put_offset-requires-in-loop-r-clause-v_le_offset : goal.put_offset-requires-in-loop-r-clause-v_le_offset
put_offset-requires-in-loop-r-clause-v_le_offset g c =
    let a = c.args in
    let N = g.O.Offset.LIMITS in
    let C = column_in g.O.Offset.numbers a.list in
    let row = plain_row_lem N a.op C c.loop-r.r c.loop-r.a c.offset_at-b.result c.is_valid-valid.result c.loop-r.invariant.place c.offset_at-b.ensures.value c.is_valid-valid.ensures in
    let p = plain_written c.is_valid-valid.result a.op (elems_in a.list.elements c.loop-r.a (c.offset_at-b.result - c.loop-r.a)) c.put_elements-at.ensures.written c.push_bit.ensures in
    let k = walk_small _ _ _ (omega (arith, c.loop-r-test.true)) row c.loop-r.invariant.walking p in
    omega (arith, c.requires.small, (rw (plain_rows_lem N a.op C c.row_count-n.result c.row_count-n.ensures) at k))

pub loop-r-preserved : goal.loop-r-preserved
loop-r-preserved g c =
    let a = c.args in
    let N = g.O.Offset.LIMITS in
    let C = column_in g.O.Offset.numbers a.list in
    let row = plain_row_lem N a.op C c.loop-r.r c.loop-r.a c.offset_at-b.result c.is_valid-valid.result c.loop-r.invariant.place c.offset_at-b.ensures.value c.is_valid-valid.ensures in
    let w = c.put_elements-at.ensures in
    let p = plain_written c.is_valid-valid.result a.op (elems_in a.list.elements c.loop-r.a (c.offset_at-b.result - c.loop-r.a)) w.written c.push_bit.ensures in
    let d : c.row_count-n.result - (c.loop-r.r + 1) ≡ c.row_count-n.result - c.loop-r.r - 1 = omega arith in
    record {
      walking = rw d (walk_more _ _ _ (omega (arith, c.loop-r-test.true)) row c.loop-r.invariant.walking p c.put_offset-in-loop-r.ensures);
      place = c.offset_at-b.ensures.value;
      same = lists_on c.loop-r.invariant.same (record { offsets = refl; rows = refl; elements = refl; values = w.same.values; bits = w.same.bits });
    }

pub returns : goal.returns
returns g c =
    let a = c.args in
    let numbers = g.O.Offset.numbers in
    let N = g.O.Offset.LIMITS in
    let C = column_in numbers a.list in
    let roomy = plain-room N a.op C c.row_count-n.result c.row_count-n.ensures c.requires.room (g.met.O.Offset.numbers_length a.out.now.offsets.now) in
    rw (← plain_rows_lem N a.op C c.row_count-n.result c.row_count-n.ensures)
    (record { filled = walk_done _ _ (numbers a.out.now.offsets.now) c.loop-r.invariant.walking (omega (arith, c.loop-r-test.false)) c.put_offset.ensures roomy; same = c.loop-r.invariant.same })
