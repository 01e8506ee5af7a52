-- Those of the elements so far that are kept are written, and all of them are in their table.
use Rattle.std.proofs.Common.{◌+◌, ◌-◌, []}
use Rattle.column.specs.Columns.{elem_in}
use Rattle.column.specs.Outputs.{SameValues}
use Rattle.column.proofs.WriteLaws.{Writing}
use Rattle.hash_tables.specs.Table.{Within}
use Rattle.hash_rows.specs.RunTables.{RunTable}
use Rattle.set_elements.specs.Pairs.{kept}
use Rattle.set_rows.specs.Runs.{run_elems}
use Rattle.set_rows.proofs.SetLaws.{kept_later}
use Rattle.hash_rows.proofs.set_ops.write_kept.Given as goal

abbrev pub invariant-loop-k : goal.invariant-loop-k
invariant-loop-k l =
    let O = run_elems l.others in
    let n = l.row.count in
    let m = l.others.count in
    let was = l.fn.out in
    Writing (kept l.shared O [] (run_elems l.row)) l.at was.values.now was.bits.now (kept_later l.shared O (elem_in l.row.column) l.row.from l.k (n - l.k)) l.p l.out.values.now l.out.bits.now
    × RunTable l.row l.k (m + m) l.area
    × Within (m + m) (m + m + n + n) l.fn.area l.area
    × SameValues was l.out
