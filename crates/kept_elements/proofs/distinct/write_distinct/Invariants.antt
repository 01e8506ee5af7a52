use Rattle.std.proofs.Common.{◌-◌}
use Rattle.column.proofs.WriteLaws.{Writing}
use Rattle.column.specs.Outputs.{SameValues}
use Rattle.model.specs.Basics.{tab}
use Rattle.bitmap.specs.Reads.{bits_in}
use Rattle.model.specs.Column.{elem_at}
use Rattle.model.specs.Elements.{distinct}
use Rattle.set_elements.proofs.ElementLaws.{later}
use Rattle.kept_elements.proofs.distinct.write_distinct.Given as goal

abbrev pub invariant-loop-k : goal.invariant-loop-k
invariant-loop-k l =
    Writing (distinct (tab (elem_at l.elements.values.now (bits_in l.elements.bits)) l.a l.n)) l.at l.fn.out.values.now l.fn.out.bits.now (later (elem_at l.elements.values.now (bits_in l.elements.bits)) l.a l.k (l.n - l.k)) l.p l.out.values.now l.out.bits.now × SameValues l.fn.out l.out
