-- So many of the elements so far are kept.
use Rattle.std.proofs.Common.{◌≡◌, ◌+◌, ◌-◌, ◌≤◌, [], length}
use Rattle.column.specs.Columns.{elem_in}
use Rattle.set_elements.specs.Pairs.{kept}
use Rattle.set_rows.specs.Runs.{run_elems}
use Rattle.set_rows.proofs.SetLaws.{kept_later}
use Rattle.set_rows.proofs.set_ops.measure_kept.Given as goal

abbrev pub invariant-loop-k : goal.invariant-loop-k
invariant-loop-k l =
    let n = l.row.count in
    (l.len + length (kept_later l.shared (run_elems l.others) (elem_in l.row.column) l.row.from l.k (n - l.k)) ≡ length (kept l.shared (run_elems l.others) [] (run_elems l.row))) × (l.len ≤ l.k)
