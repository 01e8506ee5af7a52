-- A turn writes the copies of one row, and then its outer row.
use Rattle.std.proofs.Common.{◌≡◌, ◌+◌, ◌-◌, ◌≤◌, length, replicate, refl, sym, arith}
use Rattle.std.proofs.lemmas.List.{length-replicate}
use Rattle.model.specs.Column.{row_at, row_count}
use Rattle.column.specs.Columns.{column_in, values_in}
use Rattle.column.proofs.SameLaws.{outers_on, lists_on}
use Rattle.column.proofs.WalkLaws.{put_keeps}
use Rattle.repeat_walk.specs.Repeats.{repeat_at, repeat_rows}
use Rattle.repeat_walk.proofs.OuterLaws.{outer_begun, outer-fits, outer-few, outer-bit, outer_slot, outer-more, outer_done, room_as}
use Rattle.repeat_walk.proofs.RepeatLaws.{copies_are, outer_valid}
use Rattle.repeat_walk.proofs.write_repeats.Goals as goal

pub loop-r-init : goal.loop-r-init
unfolding repeat_rows
loop-r-init g c =
    let numbers = g.O.Offset.numbers in let o = c.args.out.now in
    let n = row_count (numbers c.args.list.offsets.now) in
    let e : n - 0 ≡ n = omega arith in
    record {
      repeating = rw e (outer_begun _ _ _ (room_as c.requires.room (put_keeps (numbers o.offsets.now) 0 0 c.put_offset.ensures) (put_keeps (numbers c.args.inner.now.offsets.now) 0 0 c.put_offset-2.ensures)).lists);
      outer = record { offsets = refl; rows = refl };
      lists = record { offsets = refl; rows = refl; elements = refl; values = refl; bits = refl };
    }

pub put_copies-at-requires-clause-room : goal.put_copies-at-requires-clause-room
put_copies-at-requires-clause-room g c =
    let same = copies_are (column_in g.O.Offset.numbers c.args.list) (values_in c.args.counts) c.loop-r.r _ c.repeat_count-times.ensures in
    outer-fits _ _ _ _ (omega (arith, c.row_count-r-end.ensures)) same c.loop-r.invariant.repeating

pub overflow_add-lists : goal.overflow_add-lists
overflow_add-lists g c =
    let C = column_in g.O.Offset.numbers c.args.list in
    let w = row_at C c.loop-r.r in
    let same = copies_are C (values_in c.args.counts) c.loop-r.r _ c.repeat_count-times.ensures in
    let few : c.loop-r.lists + length (replicate c.repeat_count-times.result w) ≤ g.O.Offset.LIMITS.outer = outer-few _ _ _ _ (omega (arith, c.row_count-r-end.ensures)) same c.loop-r.invariant.repeating in
    omega (arith, length-replicate c.repeat_count-times.result w, g.met.O.Offset.limits_fit.outer, g.met.O.Offset.limits_fit.offset)

pub put_outer_by_bits-requires-clause-few : goal.put_outer_by_bits-requires-clause-few
put_outer_by_bits-requires-clause-few g c =
    let C = column_in g.O.Offset.numbers c.args.list in
    let w = row_at C c.loop-r.r in
    let same = copies_are C (values_in c.args.counts) c.loop-r.r _ c.repeat_count-times.ensures in
    let few : c.loop-r.lists + length (replicate c.repeat_count-times.result w) ≤ g.O.Offset.LIMITS.outer = outer-few _ _ _ _ (omega (arith, c.row_count-r-end.ensures)) same c.loop-r.invariant.repeating in
    omega (arith, length-replicate c.repeat_count-times.result w, g.met.O.Offset.limits_fit.outer)

pub put_outer_by_bits-requires-clause-slot : goal.put_outer_by_bits-requires-clause-slot
unfolding repeat_rows
put_outer_by_bits-requires-clause-slot g c =
    let numbers = g.O.Offset.numbers in let o = c.args.out.now in
    let same = copies_are (column_in numbers c.args.list) (values_in c.args.counts) c.loop-r.r _ c.repeat_count-times.ensures in
    let m = room_as c.requires.room (put_keeps (numbers o.offsets.now) 0 0 c.put_offset.ensures) (put_keeps (numbers c.args.inner.now.offsets.now) 0 0 c.put_offset-2.ensures) in
    omega (arith, outer_slot _ _ _ _ (omega (arith, c.row_count-r-end.ensures)) same c.loop-r.invariant.repeating m, g.met.O.Offset.numbers_length c.loop-r.out.offsets.now)

pub put_outer_by_bits-requires-clause-bit : goal.put_outer_by_bits-requires-clause-bit
unfolding repeat_rows
put_outer_by_bits-requires-clause-bit g c =
    let numbers = g.O.Offset.numbers in let o = c.args.out.now in
    let same = copies_are (column_in numbers c.args.list) (values_in c.args.counts) c.loop-r.r _ c.repeat_count-times.ensures in
    let m = room_as c.requires.room (put_keeps (numbers o.offsets.now) 0 0 c.put_offset.ensures) (put_keeps (numbers c.args.inner.now.offsets.now) 0 0 c.put_offset-2.ensures) in
    outer-bit _ _ _ _ (omega (arith, c.row_count-r-end.ensures)) same c.loop-r.invariant.repeating m

pub loop-r-preserved : goal.loop-r-preserved
loop-r-preserved g c =
    let C = column_in g.O.Offset.numbers c.args.list in let A = values_in c.args.counts in
    let l = c.loop-r in let n = row_count C.offsets in
    let same = copies_are C A l.r _ c.repeat_count-times.ensures in
    let left : n - (l.r + 1) ≡ n - l.r - 1 = omega arith in
    record {
      repeating =
          rw left
          (outer-more _ _ _ _ (omega (arith, c.row_count-r-end.ensures)) same l.invariant.repeating _ _ (sym (length-replicate _ (row_at C l.r))) c.put_copies-at.ensures.written _ (outer_valid (row_at C l.r) A.values A.bits l.r) c.put_outer_by_bits.ensures.rows_after c.put_outer_by_bits.ensures.offsets_after);
      outer = outers_on l.invariant.outer c.put_outer_by_bits.ensures.same;
      lists = lists_on l.invariant.lists c.put_copies-at.ensures.same;
    }

pub returns : goal.returns
unfolding repeat_rows
returns g c =
    let numbers = g.O.Offset.numbers in let o = c.args.out.now in
    let C = column_in numbers c.args.list in
    record {
      filled = outer_done g.O.Offset.LIMITS (repeat_at C (values_in c.args.counts)) (row_count C.offsets) (numbers o.offsets.now) (numbers c.args.inner.now.offsets.now) c.loop-r.invariant.repeating (omega (arith, c.row_count-r-end.ensures)) c.put_offset.ensures c.put_offset-2.ensures c.requires.room;
      outer = c.loop-r.invariant.outer;
      lists = c.loop-r.invariant.lists;
    }
