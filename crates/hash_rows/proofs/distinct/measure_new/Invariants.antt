-- So many of the elements so far are first occurrences, and they are in their table.
use Rattle.std.proofs.Common.{◌≡◌, ◌+◌, ◌-◌, ◌≤◌, length}
use Rattle.column.specs.Columns.{elem_in}
use Rattle.model.specs.Elements.{distinct}
use Rattle.hash_tables.specs.Table.{Within}
use Rattle.hash_rows.specs.RunTables.{RunTable}
use Rattle.set_elements.proofs.ElementLaws.{later}
use Rattle.set_rows.specs.Runs.{run_elems}
use Rattle.hash_rows.proofs.distinct.measure_new.Given as goal

abbrev pub invariant-loop-k : goal.invariant-loop-k
invariant-loop-k l =
    let n = l.row.count in
    (l.len + length (later (elem_in l.row.column) l.row.from l.k (n - l.k)) ≡ length (distinct (run_elems l.row)))
    × (l.len ≤ l.k)
    × RunTable l.row l.k l.o l.area
    × Within l.o (l.o + n + n) l.fn.area l.area
