-- A turn writes one row, its offset and its size.
use Rattle.std.proofs.Common.{◌≡◌, ◌∙◌, ℕ, Bool, true, false, ◌+◌, ◌-◌, ◌≤◌, refl, arith}
use Rattle.column.specs.Columns.{column_in}
use Rattle.column.proofs.WalkLaws.{between}
use Rattle.copy_rows.proofs.CopyLaws.{rows_at}
use Rattle.model.specs.Basics.{pick}
use Rattle.model.specs.Column.{row_at}
use Rattle.views.specs.ViewOutputs.{itself}
use Rattle.views.proofs.ShowLaws.{column_row, shown-bit, shown_room, shown_put, view-room-at, show_begun, show_room, show_small, show_rises, show_more, show_done}
use Rattle.views.proofs.write_view.Goals as goal

pick_le : (b : Bool) (n : ℕ) → pick b n 0 ≤ n
pick_le true n = omega arith
pick_le false n = omega arith

pub loop-r-init : goal.loop-r-init
loop-r-init c =
    let n = c.row_count-n.result in
    let e : n - 0 ≡ n = omega arith in
    record { showing = rw e (show_begun _ n _ _ _ _ _); same = record { offsets = refl; sizes = refl; rows = refl; elements = refl; values = refl; bits = refl } }

pub overflow_sub-b : goal.overflow_sub-b
overflow_sub-b c =
    (between (column_in itself c.args.list) _ c.loop-r.r _ _ c.requires.column c.row_count-n.ensures (omega arith) c.offset_at-a.ensures.value c.offset_at-b.ensures.value).rises

pub put_elements-next-requires-clause-column : goal.put_elements-next-requires-clause-column
put_elements-next-requires-clause-column c =
    let reads = between (column_in itself c.args.list) _ c.loop-r.r _ _ c.requires.column c.row_count-n.ensures (omega arith) c.offset_at-a.ensures.value c.offset_at-b.ensures.value in
    record { inside = omega (arith, reads.rises, reads.inside); bits = reads.elements }

pub put_elements-next-requires-clause-room : goal.put_elements-next-requires-clause-room
put_elements-next-requires-clause-room c =
    let C = column_in itself c.args.list in
    let W = row_at C in
    let n = c.row_count-n.result in
    let row = column_row C c.loop-r.r _ _ c.is_valid-valid.ensures c.offset_at-a.ensures.value c.offset_at-b.ensures.value in
    let roomy = view-room-at C n c.row_count-n.ensures c.requires.room in
    shown_room _ _ (show_room W n _ (omega arith) row c.loop-r.invariant.showing roomy)

pub put_offset-requires-clause-v_le_offset : goal.put_offset-requires-clause-v_le_offset
put_offset-requires-clause-v_le_offset c =
    let C = column_in itself c.args.list in
    let W = row_at C in
    let n = c.row_count-n.result in
    let row = column_row C c.loop-r.r _ _ c.is_valid-valid.ensures c.offset_at-a.ensures.value c.offset_at-b.ensures.value in
    let put = shown_put _ _ c.push_bit.ensures c.put_elements-next.ensures.written in
    let k = show_small W n _ (omega arith) row c.loop-r.invariant.showing put in
    let i = show_rises W n _ (omega arith) row c.loop-r.invariant.showing put in
    let top = rw (rows_at C n c.row_count-n.ensures) at k in
    omega (arith, c.requires.small, c.offset_of.ensures, pick_le c.is_valid-valid.result c.loop-r.at)

pub put_offset-requires-in-loop-r-clause-v_le_offset : goal.put_offset-requires-in-loop-r-clause-v_le_offset
put_offset-requires-in-loop-r-clause-v_le_offset c =
    let C = column_in itself c.args.list in
    let W = row_at C in
    let n = c.row_count-n.result in
    let row = column_row C c.loop-r.r _ _ c.is_valid-valid.ensures c.offset_at-a.ensures.value c.offset_at-b.ensures.value in
    let put = shown_put _ _ c.push_bit.ensures c.put_elements-next.ensures.written in
    let k = show_small W n _ (omega arith) row c.loop-r.invariant.showing put in
    let top = rw (rows_at C n c.row_count-n.ensures) at k in
    omega (arith, c.requires.small)

pub loop-r-preserved : goal.loop-r-preserved
loop-r-preserved c =
    let C = column_in itself c.args.list in
    let W = row_at C in
    let n = c.row_count-n.result in
    let row = column_row C c.loop-r.r _ _ c.is_valid-valid.ensures c.offset_at-a.ensures.value c.offset_at-b.ensures.value in
    let put = shown_put _ _ c.push_bit.ensures c.put_elements-next.ensures.written in
    let m : n - (c.loop-r.r + 1) ≡ n - c.loop-r.r - 1 = omega arith in
    let i = c.loop-r.invariant in
    let t = c.put_elements-next.ensures.same in
    record {
      showing = rw m (show_more W n _ (omega arith) row i.showing put c.offset_of.result (c.put_elements-next.result - c.loop-r.at) (rw (shown-bit c.is_valid-valid.result _) c.offset_of.ensures) refl c.put_offset.ensures c.put_offset-in-loop-r.ensures);
      same = record { offsets = i.same.offsets; sizes = i.same.sizes; rows = i.same.rows; elements = i.same.elements; values = t.values ∙ i.same.values; bits = t.bits ∙ i.same.bits };
    }

pub returns : goal.returns
returns c =
    let C = column_in itself c.args.list in
    let n = c.row_count-n.result in
    let roomy = view-room-at C n c.row_count-n.ensures c.requires.room in
    rw (← rows_at C n c.row_count-n.ensures)
    (record { filled = show_done (row_at C) n c.loop-r.invariant.showing (omega arith) roomy; same = c.loop-r.invariant.same })
