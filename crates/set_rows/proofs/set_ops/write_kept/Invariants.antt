-- Those of the elements so far that are kept are written.
use Rattle.std.proofs.Common.{◌-◌, []}
use Rattle.column.specs.Columns.{elem_in}
use Rattle.column.specs.Outputs.{SameValues}
use Rattle.column.proofs.WriteLaws.{Writing}
use Rattle.set_elements.specs.Pairs.{kept}
use Rattle.set_rows.specs.Runs.{run_elems}
use Rattle.set_rows.proofs.SetLaws.{kept_later}
use Rattle.set_rows.proofs.set_ops.write_kept.Given as goal

abbrev pub invariant-loop-k : goal.invariant-loop-k
invariant-loop-k l =
    let O = run_elems l.others in
    let o = l.initial.out in
    Writing (kept l.shared O [] (run_elems l.row)) l.at o.values.now o.bits.now (kept_later l.shared O (elem_in l.row.column) l.row.from l.k (l.row.count - l.k)) l.p l.out.values.now l.out.bits.now
    × SameValues o l.out
