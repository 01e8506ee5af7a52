use Rattle.std.proofs.Common.{◌≡◌, ◌∙◌, ◌-◌, get_or, pos, [], arith, rules, w64, SFits}
use Rattle.std.proofs.lemmas.Int.{to_z-of_z}
use Rattle.strides.proofs.StrideLaws.{begin, here, stop, follows, next_is, value_turned}
use Rattle.strides.proofs.strided.copy_places.Goals as goal

pub returns-then-steps-eq0 : goal.returns-then-steps-eq0
returns-then-steps-eq0 c = (stop (begin c.args.steps.start c.args.steps.stride c.args.steps.count _ c.args.at c.args.out.now []) (omega (arith, c))).values

pub loop-j-init : goal.loop-j-init
loop-j-init c = (begin _ _ _ _ _ _ _)

pub overflow_add-out : goal.overflow_add-out
overflow_add-out c =
    let g = c.loop-j.invariant in
    omega (arith, here g _ c.requires.places.reach (omega (arith, c.loop-j-test.true)), c.requires.column, c)

pub offset_bounds-values-a : goal.offset_bounds-values-a
offset_bounds-values-a c =
    let g = c.loop-j.invariant in
    omega (arith, here g _ c.requires.places.reach (omega (arith, c.loop-j-test.true)), c.requires.column, c)

pub bounds-values-a : goal.bounds-values-a
bounds-values-a c =
    let g = c.loop-j.invariant in
    omega (arith, here g _ c.requires.places.reach (omega (arith, c.loop-j-test.true)), c.requires.column)

pub next_place-p-requires : goal.next_place-p-requires
next_place-p-requires c =
    let f : SFits w64 c.args.steps.stride = search rules in
    rw (to_z-of_z w64 c.args.steps.stride f) (follows c.loop-j.invariant _ c.requires.places.reach (omega (arith, c.loop-j-test.true)) c.requires.places.small)

pub loop-j-preserved : goal.loop-j-preserved
loop-j-preserved c =
    let g = c.loop-j.invariant in
    let f : SFits w64 c.args.steps.stride = search rules in
    let n = rw (to_z-of_z w64 c.args.steps.stride f) at c.next_place-p.ensures in
    rw (to_z-of_z w64 _ (record { sfits = c.out-1.given })) (value_turned _ _ _ _ _ _ _ _ _ _ _ c.requires.places.reach g (omega (arith, c.loop-j-test.true)) _ (λ h. n ∙ next_is g _ c.requires.places.reach h))

pub overflow_add-out-2 : goal.overflow_add-out-2
overflow_add-out-2 c =
    let g = c.loop-j.invariant in
    omega (arith, here g _ c.requires.places.reach (omega (arith, c.if-steps-eq0.false, c.loop-j.auto.j-end)), c.requires.column, c)

pub offset_bounds-values-a-2 : goal.offset_bounds-values-a-2
offset_bounds-values-a-2 c =
    let g = c.loop-j.invariant in
    omega (arith, here g _ c.requires.places.reach (omega (arith, c.if-steps-eq0.false, c.loop-j.auto.j-end)), c.requires.column, c)

pub bounds-values-a-2 : goal.bounds-values-a-2
bounds-values-a-2 c =
    let g = c.loop-j.invariant in
    omega (arith, here g _ c.requires.places.reach (omega (arith, c.if-steps-eq0.false, c.loop-j.auto.j-end)), c.requires.column)

pub returns : goal.returns
returns c =
    let e : c.loop-j.j ≡ c.args.steps.count - 1 = omega (arith, c.loop-j.auto.j-end, c.loop-j-test.false) in
    let g = rw e at c.loop-j.invariant in
    let w = value_turned (λ i. get_or c.args.values.now i (pos 0)) _ _ _ _ _ _ _ _ _ _ c.requires.places.reach g (omega (arith, c.if-steps-eq0.false)) c.loop-j.p (λ h. let z : ⊥ = omega (arith, h) in absurd z) in
    rw (to_z-of_z w64 _ (record { sfits = c.out-2-1.given })) (stop w (omega (arith, c.if-steps-eq0.false))).values
