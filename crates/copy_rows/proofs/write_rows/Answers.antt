use Rattle.std.proofs.Common.{◌∙◌, ◌≡◌, ◌+◌, ◌-◌, refl, arith}
use Rattle.column.proofs.SameLaws.{lists_on}
use Rattle.column.proofs.WalkLaws.{put_keeps, between, row_from_lem, walk_room, walk_small, walk_more, walk_done}
use Rattle.copy_rows.proofs.CopyLaws.{room_at, rows_at}
use Rattle.model.specs.Column.{row_at}
use Rattle.column.specs.Columns.{column_in}
use Rattle.copy_rows.proofs.write_rows.Goals as goal

pub put_row-at-requires-clause-column : goal.put_row-at-requires-clause-column
put_row-at-requires-clause-column g c =
    let C = column_in g.O.Offset.numbers c.args.list in
    between C _ c.loop-r.r _ _ c.requires.column c.row_count-n.ensures (omega arith) c.offset_at-a.ensures.value c.offset_at-b.ensures.value

pub put_row-at-requires-clause-room : goal.put_row-at-requires-clause-room
put_row-at-requires-clause-room g c =
    let C = column_in g.O.Offset.numbers c.args.list in
    let same = row_from_lem C c.loop-r.r _ _ c.offset_at-a.ensures.value c.offset_at-b.ensures.value in
    walk_room (row_at C) _ _ (omega arith) same c.loop-r.invariant.0 (room_at C _ c.row_count-n.ensures c.requires.room (put_keeps (g.O.Offset.numbers c.args.out.now.offsets.now) 0 0 c.put_offset.ensures ∙ g.met.O.Offset.numbers_length c.args.out.now.offsets.now))

pub put_offset-requires-in-loop-r-clause-v_le_offset : goal.put_offset-requires-in-loop-r-clause-v_le_offset
put_offset-requires-in-loop-r-clause-v_le_offset g c =
    let C = column_in g.O.Offset.numbers c.args.list in
    let same = row_from_lem C c.loop-r.r _ _ c.offset_at-a.ensures.value c.offset_at-b.ensures.value in
    let k = walk_small (row_at C) _ _ (omega arith) same c.loop-r.invariant.0 c.put_row-at.ensures.written in
    omega (arith, c.requires.small, rw (rows_at C _ c.row_count-n.ensures) at k)

pub loop-r-preserved : goal.loop-r-preserved
loop-r-preserved g c =
    let C = column_in g.O.Offset.numbers c.args.list in
    let same = row_from_lem C c.loop-r.r _ _ c.offset_at-a.ensures.value c.offset_at-b.ensures.value in
    let z : c.row_count-n.result - (c.loop-r.r + 1) ≡ c.row_count-n.result - c.loop-r.r - 1 = omega arith in (
      rw z (walk_more (row_at C) _ _ (omega arith) same c.loop-r.invariant.0 c.put_row-at.ensures.written (rw c.put_row-at.ensures.offsets at c.put_offset-in-loop-r.ensures)),
      lists_on (lists_on c.loop-r.invariant.1 c.put_row-at.ensures.same) (record { offsets = refl; rows = refl; elements = refl; values = refl; bits = refl }),
    )

pub returns : goal.returns
returns g c =
    let C = column_in g.O.Offset.numbers c.args.list in
    rw (← rows_at C _ c.row_count-n.ensures)
    (record { same = c.loop-r.invariant.1; filled = walk_done (row_at C) _ (g.O.Offset.numbers c.args.out.now.offsets.now) c.loop-r.invariant.0 (omega arith) c.put_offset.ensures (room_at C _ c.row_count-n.ensures c.requires.room (g.met.O.Offset.numbers_length c.args.out.now.offsets.now)) })
