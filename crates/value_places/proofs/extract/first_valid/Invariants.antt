-- The first valid element from the place on is the first valid one of all.
use Rattle.std.proofs.Common.{◌≡◌, ◌-◌}
use Rattle.model.specs.Basics.{tab}
use Rattle.model.specs.Elements.{first_valid}
use Rattle.column.specs.Columns.{elem_in}
use Rattle.value_places.proofs.extract.first_valid.Given as goal

abbrev pub invariant-loop-p : goal.invariant-loop-p
invariant-loop-p l = first_valid (tab (elem_in l.elements) l.p (l.end - l.p)) ≡ first_valid (tab (elem_in l.elements) l.a l.n)
