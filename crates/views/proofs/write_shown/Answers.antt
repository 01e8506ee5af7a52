-- A turn writes one row of the view, and its offset.
use Rattle.std.proofs.Common.{◌≡◌, ◌∙◌, ◌+◌, ◌-◌, length, refl, arith}
use Rattle.column.proofs.WalkLaws.{put_keeps, kept-room, walk_begun, walk_room, walk_small, walk_more, walk_done}
use Rattle.model.specs.View.{view_at}
use Rattle.view_checks.specs.Views.{view_in}
use Rattle.view_checks.proofs.ShownLaws.{shown-rows}
use Rattle.views.proofs.ShowLaws.{view_row, shown_room, shown_put}
use Rattle.views.proofs.write_shown.Goals as goal

pub loop-r-init : goal.loop-r-init
loop-r-init c =
    let n = length c.args.view.offsets.now in
    let e : n - 0 ≡ n = omega arith in
    record { walking = rw e (walk_begun _ n _ _ _ _); same = record { offsets = refl; rows = refl; elements = refl; values = refl; bits = refl } }

pub put_elements-at-requires-clause-room : goal.put_elements-at-requires-clause-room
put_elements-at-requires-clause-room c =
    let V = view_in c.args.view in
    let n = length V.offsets in
    let row = view_row V c.loop-r.r _ _ c.is_valid-valid.ensures c.offset_at-a.ensures.value c.offset_at-size.ensures.value in
    let roomy = rw (← shown-rows V n refl) at (kept-room c.requires.room (put_keeps _ 0 0 c.put_offset.ensures)) in
    shown_room _ _ (walk_room (view_at V) n _ (omega arith) row c.loop-r.invariant.walking roomy)

pub put_offset-requires-in-loop-r-clause-v_le_offset : goal.put_offset-requires-in-loop-r-clause-v_le_offset
put_offset-requires-in-loop-r-clause-v_le_offset c =
    let V = view_in c.args.view in
    let n = length V.offsets in
    let row = view_row V c.loop-r.r _ _ c.is_valid-valid.ensures c.offset_at-a.ensures.value c.offset_at-size.ensures.value in
    let k = walk_small (view_at V) n _ (omega arith) row c.loop-r.invariant.walking (shown_put _ _ c.push_bit.ensures c.put_elements-at.ensures.written) in
    omega (arith, c.requires.small, rw (shown-rows V n refl) at k)

pub loop-r-preserved : goal.loop-r-preserved
loop-r-preserved c =
    let V = view_in c.args.view in
    let n = length V.offsets in
    let i = c.loop-r.invariant in
    let t = c.put_elements-at.ensures.same in
    let row = view_row V c.loop-r.r _ _ c.is_valid-valid.ensures c.offset_at-a.ensures.value c.offset_at-size.ensures.value in
    let m : n - (c.loop-r.r + 1) ≡ n - c.loop-r.r - 1 = omega arith in
    record {
      walking = rw m (walk_more (view_at V) n _ (omega arith) row i.walking (shown_put _ _ c.push_bit.ensures c.put_elements-at.ensures.written) c.put_offset-in-loop-r.ensures);
      same = record { offsets = i.same.offsets; rows = i.same.rows; elements = i.same.elements; values = t.values ∙ i.same.values; bits = t.bits ∙ i.same.bits };
    }

pub returns : goal.returns
returns c =
    let V = view_in c.args.view in
    let n = length V.offsets in
    rw (← shown-rows V n refl)
    (record { filled = walk_done (view_at V) n c.args.out.now.offsets.now c.loop-r.invariant.walking (omega arith) c.put_offset.ensures (rw (← shown-rows V n refl) at c.requires.room); same = c.loop-r.invariant.same })
