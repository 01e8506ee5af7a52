use Rattle.std.proofs.Common.{refl}
use Rattle.column.proofs.SameLaws.{wrote}
use Rattle.std.proofs.Common.{arith}
use Rattle.bitmap.specs.Reads.{bits_in}
use Rattle.model.specs.Column.{elem_at}
use Rattle.stores.proofs.StoreLaws.{length_back}
use Rattle.runs.proofs.PlainLaws.{backward_written}
use Rattle.runs.proofs.write_backward.Goals as goal

pub copy_backward-requires-clause-n_in_bounds_2 : goal.copy_backward-requires-clause-n_in_bounds_2
copy_backward-requires-clause-n_in_bounds_2 c =
    let a = c.args in
    omega (arith, c.requires.room.values, length_back (elem_at a.elements.values.now (bits_in a.elements.bits)) a.a a.n)

pub push_same-requires : goal.push_same-requires
push_same-requires c =
    let a = c.args in
    omega (arith, c.requires.room.elements, length_back (elem_at a.elements.values.now (bits_in a.elements.bits)) a.a a.n)

pub returns : goal.returns
returns c =
    let a = c.args in
    wrote (backward_written a.elements.values.now (bits_in a.elements.bits) c.requires.plain a.a a.n a.at c.copy_backward.ensures c.push_same.ensures) refl refl
