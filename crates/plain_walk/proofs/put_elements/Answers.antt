use Rattle.std.proofs.Common.{arith, refl}
use Rattle.bitmap.specs.Push.{push_bits}
use Rattle.column.specs.Columns.{elems_in}
use Rattle.column.proofs.SameLaws.{wrote}
use Rattle.model.specs.Form.{elems_of}
use Rattle.plain_walk.specs.Plain.{plain_row}
use Rattle.plain_walk.proofs.PlainLaws.{plain_elems}
use Rattle.plain_walk.proofs.put_elements.Goals as goal

pub returns-then-not-valid : goal.returns-then-not-valid
unfolding plain_row elems_of push_bits
returns-then-not-valid c = rw c.if-not-valid.true (wrote (record { values = refl; elements = refl; next = omega arith }) refl refl)

pub write_plain-requires-clause-room : goal.write_plain-requires-clause-room
write_plain-requires-clause-room c =
    let a = c.args in
    let e = plain_elems a.valid a.op (elems_in a.elements a.a a.len) c.if-not-valid.false in
    rw e at c.requires.room

pub returns : goal.returns
returns c =
    let a = c.args in
    let e = plain_elems a.valid a.op (elems_in a.elements a.a a.len) c.if-not-valid.false in
    rw e c.write_plain.ensures
