-- A turn writes the row that is made of one pair of rows, and its offset.
use Rattle.std.proofs.Common.{◌≡◌, ◌+◌, ◌-◌, refl, ◌∙◌, arith}
use Rattle.column.specs.Columns.{column_in}
use Rattle.column.proofs.SameLaws.{lists_on}
use Rattle.column.proofs.WalkLaws.{put_keeps, walk_room, walk_small, walk_more, walk_done}
use Rattle.set_walk.specs.Pairs.{pair_at}
use Rattle.set_walk.proofs.SetLaws.{room_at, rows_at}
use Rattle.set_walk.proofs.write_pairs.Goals as goal

pub put_pair-at-requires-clause-room : goal.put_pair-at-requires-clause-room
put_pair-at-requires-clause-room g c =
    let C = column_in g.O.Offset.numbers c.args.left in
    let D = column_in g.O.Offset.numbers c.args.right in
    let o = c.args.out.now.offsets.now in
    walk_room (pair_at c.args.op C D) _ _ (omega arith) refl c.loop-r.invariant.0 (room_at c.args.op C D _ c.row_count-r-end.ensures c.requires.room (put_keeps (g.O.Offset.numbers o) 0 0 c.put_offset.ensures ∙ g.met.O.Offset.numbers_length o))

pub put_offset-requires-in-loop-r-clause-v_le_offset : goal.put_offset-requires-in-loop-r-clause-v_le_offset
put_offset-requires-in-loop-r-clause-v_le_offset g c =
    let C = column_in g.O.Offset.numbers c.args.left in
    let D = column_in g.O.Offset.numbers c.args.right in
    let k = walk_small (pair_at c.args.op C D) _ _ (omega arith) refl c.loop-r.invariant.0 c.put_pair-at.ensures.written in
    omega (arith, c.requires.small, rw (rows_at c.args.op C D _ c.row_count-r-end.ensures) at k)

pub loop-r-preserved : goal.loop-r-preserved
loop-r-preserved g c =
    let C = column_in g.O.Offset.numbers c.args.left in
    let D = column_in g.O.Offset.numbers c.args.right in
    let n = c.row_count-r-end.result in
    let z : n - (c.loop-r.r + 1) ≡ n - c.loop-r.r - 1 = omega arith in (
      rw z (walk_more (pair_at c.args.op C D) _ _ (omega arith) refl c.loop-r.invariant.0 c.put_pair-at.ensures.written (rw c.put_pair-at.ensures.offsets at c.put_offset-in-loop-r.ensures)),
      lists_on (lists_on c.loop-r.invariant.1 c.put_pair-at.ensures.same) (record { offsets = refl; rows = refl; elements = refl; values = refl; bits = refl }),
    )

pub returns : goal.returns
returns g c =
    let C = column_in g.O.Offset.numbers c.args.left in
    let D = column_in g.O.Offset.numbers c.args.right in
    let o = c.args.out.now.offsets.now in
    rw (← rows_at c.args.op C D _ c.row_count-r-end.ensures)
    (record {
      filled = walk_done (pair_at c.args.op C D) _ (g.O.Offset.numbers o) c.loop-r.invariant.0 (omega arith) c.put_offset.ensures (room_at c.args.op C D _ c.row_count-r-end.ensures c.requires.room (g.met.O.Offset.numbers_length o));
      same = c.loop-r.invariant.1;
    })
