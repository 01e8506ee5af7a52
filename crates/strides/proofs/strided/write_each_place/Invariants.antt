use Rattle.bitmap.specs.Reads.{bits_in}
use Rattle.column.specs.Outputs.{SameValues}
use Rattle.model.specs.Basics.{tab}
use Rattle.model.specs.Column.{elem_at}
use Rattle.strides.proofs.StrideLaws.{Going}
use Rattle.strides.proofs.strided.write_each_place.Given as goal

abbrev pub invariant-loop-j : goal.invariant-loop-j
invariant-loop-j l =
    let s = l.steps in
    Going s.start s.stride s.count (tab (elem_at l.elements.values.now (bits_in l.elements.bits)) l.a l.n) l.at l.fn.out.values.now l.fn.out.bits.now l.j l.out.values.now l.out.bits.now l.p
    × SameValues l.fn.out l.out
