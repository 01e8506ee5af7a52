use Rattle.std.proofs.Common.{◌≡◌, ◌≤◌}
use Rattle.column.specs.Columns.{elem_in}
use Rattle.hash_tables.specs.Table.{chained}
use Rattle.hash_tables.proofs.Chains.is_chained.Given as goal

abbrev pub invariant-loop-j : goal.invariant-loop-j
invariant-loop-j l =
    let E = elem_in l.self.column in
    let e = elem_in l.elements l.i in
    record { same : chained E l.self.from l.self.count l.self.slot l.self.area.now e l.s l.s ≡ chained E l.self.from l.self.count l.self.slot l.self.area.now e l.head l.head; within : l.s ≤ l.self.count }

abbrev pub decreases-loop-j : goal.decreases-loop-j
decreases-loop-j l = l.s
