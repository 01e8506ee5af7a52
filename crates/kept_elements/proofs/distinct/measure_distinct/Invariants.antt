use Rattle.std.proofs.Common.{◌≡◌, ◌+◌, ◌-◌, ◌≤◌, length}
use Rattle.model.specs.Basics.{tab}
use Rattle.bitmap.specs.Reads.{bits_in}
use Rattle.model.specs.Column.{elem_at}
use Rattle.model.specs.Elements.{distinct}
use Rattle.set_elements.proofs.ElementLaws.{later}
use Rattle.kept_elements.proofs.distinct.measure_distinct.Given as goal

abbrev pub invariant-loop-k : goal.invariant-loop-k
invariant-loop-k l =
    (l.len + length (later (elem_at l.elements.values.now (bits_in l.elements.bits)) l.a l.k (l.n - l.k)) ≡ length (distinct (tab (elem_at l.elements.values.now (bits_in l.elements.bits)) l.a l.n)))
    × (l.len ≤ l.k)
