-- The first occurrences among the elements so far are written, and all of them are in their table.
use Rattle.std.proofs.Common.{◌+◌, ◌-◌}
use Rattle.column.specs.Columns.{elem_in}
use Rattle.column.specs.Outputs.{SameValues}
use Rattle.column.proofs.WriteLaws.{Writing}
use Rattle.model.specs.Elements.{distinct}
use Rattle.hash_tables.specs.Table.{Within}
use Rattle.hash_rows.specs.RunTables.{RunTable}
use Rattle.set_elements.proofs.ElementLaws.{later}
use Rattle.set_rows.specs.Runs.{run_elems}
use Rattle.hash_rows.proofs.distinct.write_new.Given as goal

abbrev pub invariant-loop-k : goal.invariant-loop-k
invariant-loop-k l =
    let n = l.row.count in
    let was = l.fn.out in
    Writing (distinct (run_elems l.row)) l.at was.values.now was.bits.now (later (elem_in l.row.column) l.row.from l.k (n - l.k)) l.p l.out.values.now l.out.bits.now
    × RunTable l.row l.k l.o l.area
    × Within l.o (l.o + n + n) l.fn.area l.area
    × SameValues was l.out
