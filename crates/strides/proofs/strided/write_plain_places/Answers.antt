use Rattle.std.proofs.Common.{refl, arith}
use Rattle.bitmap.specs.Reads.{bits_in}
use Rattle.column.proofs.SameLaws.{wrote}
use Rattle.strides.proofs.StrideLaws.{places-room, plain-written}
use Rattle.strides.proofs.strided.write_plain_places.Goals as goal

pub copy_places-requires-clause-room : goal.copy_places-requires-clause-room
copy_places-requires-clause-room c = (places-room _ _ _ _ c.requires.room).0

pub push_same-requires : goal.push_same-requires
push_same-requires c = (places-room _ _ _ _ c.requires.room).1

pub overflow_add-result : goal.overflow_add-result
overflow_add-result c = omega (arith, (places-room _ _ _ _ c.requires.room).0, c)

pub returns : goal.returns
returns c =
    let a = c.args in
    wrote
    (plain-written a.elements.values.now (bits_in a.elements.bits) c.requires.plain a.a a.n a.steps.start a.steps.stride a.steps.count a.at c.requires.places.reach c.copy_places.ensures c.push_same.ensures)
    refl refl
