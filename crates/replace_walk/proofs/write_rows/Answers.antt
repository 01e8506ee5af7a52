use Rattle.std.proofs.Common.{◌≡◌, ◌∙◌, refl, ◌+◌, ◌-◌, arith}
use Rattle.column.proofs.SameLaws.{lists_on}
use Rattle.column.proofs.WalkLaws.{between, put_keeps, walk_room, walk_small, walk_more, walk_done}
use Rattle.column.specs.Columns.{column_in, values_in}
use Rattle.made_rows.proofs.CallLaws.{room_at, rows_at}
use Rattle.match_rows.proofs.MatchLaws.{replace-served, replaced_row}
use Rattle.ops.specs.declared.ListOp.TheVariants as L
use Rattle.replace_walk.proofs.write_rows.Goals as goal

pub overflow_sub-b : goal.overflow_sub-b
overflow_sub-b g c =
    let C = column_in g.O.Offset.numbers c.args.list in
    (between C c.row_count-n.result c.loop-r.r c.loop-r.a c.offset_at-b.result c.requires.column c.row_count-n.ensures c.loop-r-test.true c.loop-r.invariant.place c.offset_at-b.ensures.value).rises

pub limit_at-limit-requires-clause-served : goal.limit_at-limit-requires-clause-served
limit_at-limit-requires-clause-served g c = rw c.row_count-n.ensures (replace-served c.requires.arguments).2

pub taken_at-from-requires-clause-serves : goal.taken_at-from-requires-clause-serves
taken_at-from-requires-clause-serves g c = λ e. rw c.row_count-n.ensures (replace-served c.requires.arguments).0

pub taken_at-to-requires-clause-serves : goal.taken_at-to-requires-clause-serves
taken_at-to-requires-clause-serves g c = λ e. rw c.row_count-n.ensures (replace-served c.requires.arguments).1

pub put_row-at-requires-clause-column : goal.put_row-at-requires-clause-column
put_row-at-requires-clause-column g c =
    let C = column_in g.O.Offset.numbers c.args.list in
    let i = between C c.row_count-n.result c.loop-r.r c.loop-r.a c.offset_at-b.result c.requires.column c.row_count-n.ensures c.loop-r-test.true c.loop-r.invariant.place c.offset_at-b.ensures.value in
    record { inside = omega (arith, i.rises, i.inside); bits = i.elements }

pub put_row-at-requires-clause-room : goal.put_row-at-requires-clause-room
put_row-at-requires-clause-room g c =
    let a = c.args in
    let C = column_in g.O.Offset.numbers a.list in
    let row = replaced_row g.O.Offset.LIMITS C (values_in a.xs) (values_in a.ys) (values_in a.zs) c.loop-r.r c.loop-r.a c.offset_at-b.result c.loop-r.invariant.place c.offset_at-b.ensures.value _ _ _ _ c.replacement-by.ensures c.taken_at-from.ensures c.taken_at-to.ensures c.limit_at-limit.ensures in
    let kept = put_keeps (g.O.Offset.numbers a.out.now.offsets.now) 0 0 c.put_offset.ensures ∙ g.met.O.Offset.numbers_length a.out.now.offsets.now in
    walk_room _ _ _ (omega (arith, c.loop-r-test.true)) row c.loop-r.invariant.walking (room_at g.O.Offset.LIMITS L.Replace C (values_in a.xs) (values_in a.ys) (values_in a.zs) _ c.row_count-n.ensures c.requires.room kept)

pub put_offset-requires-in-loop-r-clause-v_le_offset : goal.put_offset-requires-in-loop-r-clause-v_le_offset
put_offset-requires-in-loop-r-clause-v_le_offset g c =
    let a = c.args in
    let C = column_in g.O.Offset.numbers a.list in
    let row = replaced_row g.O.Offset.LIMITS C (values_in a.xs) (values_in a.ys) (values_in a.zs) c.loop-r.r c.loop-r.a c.offset_at-b.result c.loop-r.invariant.place c.offset_at-b.ensures.value _ _ _ _ c.replacement-by.ensures c.taken_at-from.ensures c.taken_at-to.ensures c.limit_at-limit.ensures in
    let k = walk_small _ _ _ (omega (arith, c.loop-r-test.true)) row c.loop-r.invariant.walking c.put_row-at.ensures.written in
    omega (arith, c.requires.small, rw (rows_at g.O.Offset.LIMITS L.Replace C (values_in a.xs) (values_in a.ys) (values_in a.zs) _ c.row_count-n.ensures) at k)

pub loop-r-preserved : goal.loop-r-preserved
loop-r-preserved g c =
    let a = c.args in
    let C = column_in g.O.Offset.numbers a.list in
    let row = replaced_row g.O.Offset.LIMITS C (values_in a.xs) (values_in a.ys) (values_in a.zs) c.loop-r.r c.loop-r.a c.offset_at-b.result c.loop-r.invariant.place c.offset_at-b.ensures.value _ _ _ _ c.replacement-by.ensures c.taken_at-from.ensures c.taken_at-to.ensures c.limit_at-limit.ensures in
    let d : c.row_count-n.result - (c.loop-r.r + 1) ≡ c.row_count-n.result - c.loop-r.r - 1 = omega arith in
    let w = c.put_row-at.ensures in
    record {
      walking = rw d (walk_more _ _ _ (omega (arith, c.loop-r-test.true)) row c.loop-r.invariant.walking w.written (rw w.offsets at c.put_offset-in-loop-r.ensures));
      same = lists_on (lists_on c.loop-r.invariant.same w.same) (record { offsets = refl; rows = refl; elements = refl; values = refl; bits = refl });
      place = c.offset_at-b.ensures.value;
    }

pub returns : goal.returns
returns g c =
    let a = c.args in
    let C = column_in g.O.Offset.numbers a.list in
    let before = g.O.Offset.numbers a.out.now.offsets.now in
    let roomy = room_at g.O.Offset.LIMITS L.Replace C (values_in a.xs) (values_in a.ys) (values_in a.zs) _ c.row_count-n.ensures c.requires.room (g.met.O.Offset.numbers_length a.out.now.offsets.now) in
    rw (← rows_at g.O.Offset.LIMITS L.Replace C (values_in a.xs) (values_in a.ys) (values_in a.zs) _ c.row_count-n.ensures)
    (record {
      filled = walk_done _ _ before c.loop-r.invariant.walking (omega (arith, c.loop-r-test.false)) c.put_offset.ensures roomy;
      same = c.loop-r.invariant.same;
    })
