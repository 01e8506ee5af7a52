use Rattle.std.proofs.Common.{◌≡◌, refl, sym, ap, ◌∙◌, ◌<◌, pos, to_z, w64, SFits, rules, arith}
use Rattle.std.proofs.lemmas.Int.{to_z-of_z}
use Rattle.bitmap.specs.Reads.{bits_in}
use Rattle.model.specs.Column.{elem_at}
use Rattle.column.proofs.SameLaws.{wrote}
use Rattle.column.proofs.WriteLaws.{begun, done}
use Rattle.rows.proofs.RunLaws.{last-room, last_written}
use Rattle.strides.proofs.StrideLaws.{sliced-none, run_inside, sliced_run}
use Rattle.strides.proofs.strided.write_strided.Goals as goal

pub returns-then-steps-eq0 : goal.returns-then-steps-eq0
returns-then-steps-eq0 c = wrote (done (begun _ refl) (sliced-none _ _ _ _ c.if-steps-eq0.true)) refl refl

pub overflow_add-a : goal.overflow_add-a
overflow_add-a c =
    let f : SFits w64 c.args.steps.stride = search rules in
    let one : c.args.steps.stride ≡ pos 1 = sym (to_z-of_z w64 c.args.steps.stride f) ∙ ap (to_z w64) c.if-steps-ne1.false in
    let some : 0 < c.args.steps.count = omega (arith, c.if-steps-eq0.false) in
    omega (arith, run_inside c.args.a c.args.n c.args.steps.start c.args.steps.stride c.args.steps.count one (c.requires.places.reach some) some, c.requires.column.inside, c)

pub write_forward-requires-clause-column : goal.write_forward-requires-clause-column
write_forward-requires-clause-column c =
    let f : SFits w64 c.args.steps.stride = search rules in
    let one : c.args.steps.stride ≡ pos 1 = sym (to_z-of_z w64 c.args.steps.stride f) ∙ ap (to_z w64) c.if-steps-ne1.false in
    let some : 0 < c.args.steps.count = omega (arith, c.if-steps-eq0.false) in
    record { inside = omega (arith, run_inside c.args.a c.args.n c.args.steps.start c.args.steps.stride c.args.steps.count one (c.requires.places.reach some) some, c.requires.column.inside); bits = c.requires.column.bits }

pub write_forward-requires-clause-room : goal.write_forward-requires-clause-room
write_forward-requires-clause-room c =
    let a = c.args in
    let f : SFits w64 a.steps.stride = search rules in
    let one : a.steps.stride ≡ pos 1 = sym (to_z-of_z w64 a.steps.stride f) ∙ ap (to_z w64) c.if-steps-ne1.false in
    let some : 0 < a.steps.count = omega (arith, c.if-steps-eq0.false) in
    last-room (begun _ refl) _ (sliced_run a.a a.n a.steps.start a.steps.stride a.steps.count one (c.requires.places.reach some) (elem_at a.elements.values.now (bits_in a.elements.bits))) c.requires.room

pub returns : goal.returns
returns c =
    let a = c.args in
    let f : SFits w64 a.steps.stride = search rules in
    let one : a.steps.stride ≡ pos 1 = sym (to_z-of_z w64 a.steps.stride f) ∙ ap (to_z w64) c.if-steps-ne1.false in
    let some : 0 < a.steps.count = omega (arith, c.if-steps-eq0.false) in
    let w = c.write_forward.ensures in
    record {
      written = last_written (begun _ refl) _ (sliced_run a.a a.n a.steps.start a.steps.stride a.steps.count one (c.requires.places.reach some) (elem_at a.elements.values.now (bits_in a.elements.bits))) w.written;
      same = w.same;
    }
