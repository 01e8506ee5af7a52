-- A turn writes the row that is made of one pair of rows, and its offset.
use Rattle.std.proofs.Common.{◌≡◌, ◌+◌, ◌-◌, refl, arith}
use Rattle.column.specs.Columns.{column_in}
use Rattle.column.proofs.SameLaws.{lists_on}
use Rattle.column.proofs.WalkLaws.{put_keeps, walk_room, walk_small, walk_more, walk_done}
use Rattle.hash_checks.specs.Narrow.{narrow_numbers}
use Rattle.hash_walk.specs.Hashes.{hash_at}
use Rattle.hash_walk.proofs.WalkingLaws.{hash_room, hashes_at, need_fits}
use Rattle.hash_walk.proofs.write_pairs.Goals as goal

pub put_pair-at-requires-clause-place : goal.put_pair-at-requires-clause-place
put_pair-at-requires-clause-place c =
    let C = column_in narrow_numbers c.args.left in
    let D = column_in narrow_numbers c.args.right in
    walk_room (hash_at c.args.op C D) _ _ (omega arith) refl c.loop-r.invariant.0 (hash_room c.args.op C D _ c.row_count-r-end.ensures c.requires.place (put_keeps c.args.out.now.offsets.now 0 0 c.put_offset.ensures))

pub put_pair-at-requires-clause-room : goal.put_pair-at-requires-clause-room
put_pair-at-requires-clause-room c =
    rw c.loop-r.auto.area (need_fits c.args.op (column_in narrow_numbers c.args.left) (column_in narrow_numbers c.args.right) c.loop-r.r _ (omega (arith, c.row_count-r-end.ensures)) c.requires.room)

pub put_offset-requires-in-loop-r-clause-v_le_offset : goal.put_offset-requires-in-loop-r-clause-v_le_offset
put_offset-requires-in-loop-r-clause-v_le_offset c =
    let C = column_in narrow_numbers c.args.left in
    let D = column_in narrow_numbers c.args.right in
    let k = walk_small (hash_at c.args.op C D) _ _ (omega arith) refl c.loop-r.invariant.0 c.put_pair-at.ensures.writes_row.written in
    omega (arith, c.requires.small, rw (hashes_at c.args.op C D _ c.row_count-r-end.ensures) at k)

pub loop-r-preserved : goal.loop-r-preserved
loop-r-preserved c =
    let C = column_in narrow_numbers c.args.left in
    let D = column_in narrow_numbers c.args.right in
    let n = c.row_count-r-end.result in
    let z : n - (c.loop-r.r + 1) ≡ n - c.loop-r.r - 1 = omega arith in
    let p = c.put_pair-at.ensures.writes_row in (
      rw z (walk_more (hash_at c.args.op C D) _ _ (omega arith) refl c.loop-r.invariant.0 p.written (rw p.offsets at c.put_offset-in-loop-r.ensures)),
      lists_on (lists_on c.loop-r.invariant.1 p.same) (record { offsets = refl; rows = refl; elements = refl; values = refl; bits = refl }),
      c.put_pair-at.ensures.clean_from,
    )

pub returns-clause-fills : goal.returns-clause-fills
returns-clause-fills c =
    let C = column_in narrow_numbers c.args.left in
    let D = column_in narrow_numbers c.args.right in
    rw (← hashes_at c.args.op C D _ c.row_count-r-end.ensures)
    (record {
      filled = walk_done (hash_at c.args.op C D) _ c.args.out.now.offsets.now c.loop-r.invariant.0 (omega arith) c.put_offset.ensures (hash_room c.args.op C D _ c.row_count-r-end.ensures c.requires.place refl);
      same = c.loop-r.invariant.1;
    })
