use Rattle.std.proofs.Common.{refl}
use Rattle.column.proofs.SameLaws.{wrote}
use Rattle.std.proofs.Common.{arith}
use Rattle.model.proofs.TabLaws.{length-tab}
use Rattle.bitmap.specs.Reads.{bits_in}
use Rattle.model.specs.Column.{elem_at}
use Rattle.runs.proofs.PlainLaws.{forward_written}
use Rattle.runs.proofs.write_forward.Goals as goal

pub copy_values-requires-clause-n_in_bounds_2 : goal.copy_values-requires-clause-n_in_bounds_2
copy_values-requires-clause-n_in_bounds_2 c =
    let a = c.args in
    omega (arith, c.requires.room.values, length-tab (elem_at a.elements.values.now (bits_in a.elements.bits)) a.a a.n)

pub push_same-requires : goal.push_same-requires
push_same-requires c =
    let a = c.args in
    omega (arith, c.requires.room.elements, length-tab (elem_at a.elements.values.now (bits_in a.elements.bits)) a.a a.n)

pub returns : goal.returns
returns c =
    let a = c.args in
    wrote (forward_written a.elements.values.now (bits_in a.elements.bits) c.requires.plain a.a a.n a.at c.copy_values.ensures c.push_same.ensures) refl refl
