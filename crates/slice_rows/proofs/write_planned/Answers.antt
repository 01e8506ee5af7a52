use Rattle.std.proofs.Common.{◌≡◌, ◌∙◌, refl, ap, Ok, None, Some}
use Rattle.column.specs.Columns.{elems_in}
use Rattle.column.proofs.SameLaws.{wrote}
use Rattle.column.proofs.WriteLaws.{begun, done}
use Rattle.slice_rows.proofs.RowLaws.{empty_elems, refused_elems, steps_elems, steps_walk}
use Rattle.slice_rows.proofs.write_planned.Goals as goal

pub write_strided-requires-clause-places : goal.write_strided-requires-clause-places
write_strided-requires-clause-places c =
    let t = c.in-Ok-Some.steps in
    let p : c.args.plan ≡ Ok (Some t) = c.in-Ok-Some.is ∙ ap Ok (rw c.in-Ok-Some.is at c.in-Ok-Some.field-0-is) in
    steps_walk c.args.plan t _ p c.requires.doable

pub write_strided-requires-clause-room : goal.write_strided-requires-clause-room
write_strided-requires-clause-room c =
    let a = c.args in
    let t = c.in-Ok-Some.steps in
    let p : a.plan ≡ Ok (Some t) = c.in-Ok-Some.is ∙ ap Ok (rw c.in-Ok-Some.is at c.in-Ok-Some.field-0-is) in
    rw (← steps_elems a.plan (elems_in a.elements a.a a.len) t p) c.requires.room

pub returns-in-Ok-Some : goal.returns-in-Ok-Some
returns-in-Ok-Some c =
    let a = c.args in
    let t = c.in-Ok-Some.steps in
    let p : a.plan ≡ Ok (Some t) = c.in-Ok-Some.is ∙ ap Ok (rw c.in-Ok-Some.is at c.in-Ok-Some.field-0-is) in
    rw (steps_elems a.plan (elems_in a.elements a.a a.len) t p) c.write_strided.ensures

pub returns-in-Ok-None : goal.returns-in-Ok-None
returns-in-Ok-None c =
    let a = c.args in
    let p : a.plan ≡ Ok None = c.in-Ok-None.is ∙ ap Ok (rw c.in-Ok-None.is at c.in-Ok-None.field-0-is) in
    rw (empty_elems a.plan (elems_in a.elements a.a a.len) p) (wrote (done (begun _ refl) refl) refl refl)

pub returns-in-Err : goal.returns-in-Err
returns-in-Err c =
    let a = c.args in
    rw (refused_elems a.plan (elems_in a.elements a.a a.len) _ c.in-Err.is) (wrote (done (begun _ refl) refl) refl refl)
