-- So many of the elements so far are kept, and they are in their table.
use Rattle.std.proofs.Common.{◌≡◌, ◌+◌, ◌-◌, ◌≤◌, [], length}
use Rattle.column.specs.Columns.{elem_in}
use Rattle.hash_tables.specs.Table.{Within}
use Rattle.hash_rows.specs.RunTables.{RunTable}
use Rattle.set_elements.specs.Pairs.{kept}
use Rattle.set_rows.specs.Runs.{run_elems}
use Rattle.set_rows.proofs.SetLaws.{kept_later}
use Rattle.hash_rows.proofs.set_ops.measure_kept.Given as goal

abbrev pub invariant-loop-k : goal.invariant-loop-k
invariant-loop-k l =
    let O = run_elems l.others in
    let n = l.row.count in
    let m = l.others.count in
    (l.len + length (kept_later l.shared O (elem_in l.row.column) l.row.from l.k (n - l.k)) ≡ length (kept l.shared O [] (run_elems l.row)))
    × (l.len ≤ l.k)
    × RunTable l.row l.k (m + m) l.area
    × Within (m + m) (m + m + n + n) l.fn.area l.area
