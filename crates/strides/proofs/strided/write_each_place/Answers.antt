use Rattle.std.proofs.Common.{◌∙◌, refl, arith, rules, w64, SFits}
use Rattle.std.proofs.lemmas.Int.{to_z-of_z}
use Rattle.bitmap.specs.Reads.{bits_in}
use Rattle.column.proofs.SameLaws.{values_on}
use Rattle.model.specs.Column.{elem_at}
use Rattle.strides.proofs.StrideLaws.{begin, room_for, here, turned, stop, taken_is, follows, next_is}
use Rattle.strides.proofs.strided.write_each_place.Goals as goal

pub loop-j-init : goal.loop-j-init
loop-j-init c = (begin _ _ _ _ _ _ _, record { values = refl; bits = refl })

pub overflow_add-a : goal.overflow_add-a
overflow_add-a c =
    let l = here c.loop-j.invariant.0 _ c.requires.places.reach (omega (arith, c.loop-j-test.true)) in
    omega (arith, l, c.requires.column.inside, c)

pub put_elem-requires-clause-i_in_bounds : goal.put_elem-requires-clause-i_in_bounds
put_elem-requires-clause-i_in_bounds c =
    let l = here c.loop-j.invariant.0 _ c.requires.places.reach (omega (arith, c.loop-j-test.true)) in
    omega (arith, l, c.requires.column.inside)

pub put_elem-requires-clause-k_in_bounds : goal.put_elem-requires-clause-k_in_bounds
put_elem-requires-clause-k_in_bounds c = (room_for c.loop-j.invariant.0 (omega (arith, c.loop-j-test.true)) c.requires.room).0

pub put_elem-requires-clause-k_in_bounds_2 : goal.put_elem-requires-clause-k_in_bounds_2
put_elem-requires-clause-k_in_bounds_2 c = (room_for c.loop-j.invariant.0 (omega (arith, c.loop-j-test.true)) c.requires.room).1

pub place_after-p-requires : goal.place_after-p-requires
place_after-p-requires c =
    let f : SFits w64 c.args.steps.stride = search rules in
    λ h. rw (to_z-of_z w64 c.args.steps.stride f) (follows c.loop-j.invariant.0 _ c.requires.places.reach (omega (arith, h)) c.requires.places.small)

pub loop-j-preserved : goal.loop-j-preserved
loop-j-preserved c =
    let g = c.loop-j.invariant.0 in
    let l = c.loop-j-test.true in
    let s = c.args.steps in
    let f : SFits w64 s.stride = search rules in
    let e = taken_is (elem_at c.args.elements.values.now (bits_in c.args.elements.bits)) c.args.a c.args.n s.start s.stride _ _ (g.place l) (here g _ c.requires.places.reach l) in
    let w = c.put_elem.ensures in (
      turned g l (rw e w.values_after) (rw e w.bits_after) (λ h. (rw (to_z-of_z w64 s.stride f) at (c.place_after-p.ensures (omega (arith, h)))) ∙ next_is g _ c.requires.places.reach h),
      values_on c.loop-j.invariant.1 w.same,
    )

pub returns : goal.returns
returns c = record { written = stop c.loop-j.invariant.0 (omega (arith, c.loop-j-test.false, c.loop-j.auto.j-end)); same = c.loop-j.invariant.1 }
