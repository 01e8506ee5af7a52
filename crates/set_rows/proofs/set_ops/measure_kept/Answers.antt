-- An element is counted where it is kept.
use Rattle.std.proofs.Common.{◌≡◌, ◌+◌, ◌-◌, length, ap, arith}
use Rattle.bitmap.proofs.BitLaws.{bit_le}
use Rattle.column.specs.Columns.{elem_in}
use Rattle.set_rows.specs.Runs.{run_elems}
use Rattle.set_rows.proofs.SetLaws.{kept_all, kept-none, length-kept}
use Rattle.set_rows.proofs.set_ops.measure_kept.Goals as goal

pub loop-k-init : goal.loop-k-init
loop-k-init c =
    let a = c.args in
    let e : a.row.count - 0 ≡ a.row.count = omega arith in
    (rw e (omega (arith, ap length (kept_all a.shared (run_elems a.others) (elem_in a.row.column) a.row.from a.row.count))), omega arith)

pub loop-k-preserved : goal.loop-k-preserved
loop-k-preserved c =
    let l = c.loop-k in
    let a = c.args in
    let n = a.row.count in
    let e : n - (l.k + 1) ≡ n - l.k - 1 = omega arith in
    let p = length-kept a.shared (run_elems a.others) (elem_in a.row.column) a.row.from l.k (n - l.k) (omega arith) c.is_kept-new.ensures in
    (rw e (omega (arith, p)), omega (arith, bit_le c.is_kept-new.result))

pub returns : goal.returns
returns c =
    let l = c.loop-k in
    let a = c.args in
    omega (arith, ap length (kept-none a.shared (run_elems a.others) (elem_in a.row.column) a.row.from l.k (a.row.count - l.k) (omega arith)))
