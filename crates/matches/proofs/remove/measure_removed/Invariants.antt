use Rattle.std.proofs.Common.{length, ◌≡◌, ◌+◌, ◌-◌, ◌≤◌}
use Rattle.model.specs.Basics.{tab}
use Rattle.column.specs.Columns.{elem_in}
use Rattle.model.specs.Elements.{removed}
use Rattle.rows.specs.Cells.{elem_of}
use Rattle.matches.proofs.remove.measure_removed.Given as goal

abbrev pub invariant-loop : goal.invariant-loop
invariant-loop l =
    let E = elem_in l.elements in
    let F = elem_of l.by.element in
    (l.kept + length (removed (l.by.limit - l.counter) F (tab E l.p l.left)) ≡ length (removed l.by.limit F (tab E l.a l.n)))
    × (l.p + l.left ≡ l.a + l.n)
    × (l.kept + l.left ≤ l.n)
