-- An element is written where it is kept.
use Rattle.std.proofs.Common.{◌≡◌, ◌+◌, ◌-◌, refl, arith}
use Rattle.column.specs.Columns.{elem_in}
use Rattle.column.proofs.SameLaws.{values_on}
use Rattle.column.proofs.WriteLaws.{begun, written, skipped, room, done}
use Rattle.set_rows.specs.Runs.{run_elems}
use Rattle.set_rows.proofs.SetLaws.{kept_all, kept-none, kept-taken, kept_passed}
use Rattle.set_rows.proofs.set_ops.write_kept.Goals as goal
use Rattle.set_rows.proofs.set_ops.write_kept.Goals.{then-is_kept, else-is_kept}

pub loop-k-init : goal.loop-k-init
loop-k-init c =
    let a = c.args in
    let e : a.row.count - 0 ≡ a.row.count = omega arith in
    (rw e (begun _ (kept_all a.shared (run_elems a.others) (elem_in a.row.column) a.row.from a.row.count)), record { values = refl; bits = refl })

pub put_elem-requires-clause-k_in_bounds : goal.put_elem-requires-clause-k_in_bounds
put_elem-requires-clause-k_in_bounds c =
    let l = c.loop-k in
    let a = c.args in
    (room l.invariant.0 _ _ (kept-taken a.shared (run_elems a.others) (elem_in a.row.column) a.row.from l.k (a.row.count - l.k) (omega arith) c.is_kept.ensures c.if-is_kept.true) c.requires.room).0

pub put_elem-requires-clause-k_in_bounds_2 : goal.put_elem-requires-clause-k_in_bounds_2
put_elem-requires-clause-k_in_bounds_2 c =
    let l = c.loop-k in
    let a = c.args in
    (room l.invariant.0 _ _ (kept-taken a.shared (run_elems a.others) (elem_in a.row.column) a.row.from l.k (a.row.count - l.k) (omega arith) c.is_kept.ensures c.if-is_kept.true) c.requires.room).1

pub loop-k-preserved : goal.loop-k-preserved
loop-k-preserved c =
    let l = c.loop-k in
    let a = c.args in
    let n = a.row.count in
    let O = run_elems a.others in
    let E = elem_in a.row.column in
    let e : n - l.k - 1 ≡ n - (l.k + 1) = omega arith in
    elim c.if-is_kept.branch [
      | then-is_kept w ↦
          rw (w.out-is, w.p-is)
          (written l.invariant.0 _ _ (rw e at (kept-taken a.shared O E a.row.from l.k (n - l.k) (omega arith) c.is_kept.ensures w.if-is_kept.true)) w.put_elem.ensures.values_after w.put_elem.ensures.bits_after, values_on l.invariant.1 w.put_elem.ensures.same)
      | else-is_kept w ↦ rw (w.out-is, w.p-is) (skipped l.invariant.0 _ (rw e at (kept_passed a.shared O E a.row.from l.k (n - l.k) (omega arith) c.is_kept.ensures w.if-is_kept.false)), l.invariant.1)
    ]

pub returns : goal.returns
returns c =
    let l = c.loop-k in
    let a = c.args in
    record {
      written = done l.invariant.0 (kept-none a.shared (run_elems a.others) (elem_in a.row.column) a.row.from l.k (a.row.count - l.k) (omega arith));
      same = l.invariant.1;
    }
