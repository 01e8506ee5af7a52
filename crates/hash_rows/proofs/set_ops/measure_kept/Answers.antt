-- An element is counted where it is kept.
use Rattle.std.proofs.Common.{◌≡◌, ◌+◌, ◌-◌, length, ap, arith}
use Rattle.bitmap.proofs.BitLaws.{bit_le}
use Rattle.column.specs.Columns.{elem_in}
use Rattle.hash_tables.proofs.TableLaws.{table_none, table_before, within_none, within_more}
use Rattle.set_rows.specs.Runs.{run_elems}
use Rattle.set_rows.proofs.SetLaws.{kept_all, kept-none, length-kept}
use Rattle.hash_rows.proofs.set_ops.measure_kept.Goals as goal

pub loop-k-init : goal.loop-k-init
loop-k-init c =
    let a = c.args in
    let e : a.row.count - 0 ≡ a.row.count = omega arith in
    (rw e (omega (arith, ap length (kept_all a.shared (run_elems a.others) (elem_in a.row.column) a.row.from a.row.count))), omega arith, table_none _ _ _ _ _ c.requires.room c.requires.clean, within_none _)

pub is_kept-new-requires-clause-listed : goal.is_kept-new-requires-clause-listed
is_kept-new-requires-clause-listed c = table_before c.requires.listed c.loop-k.invariant.3 c.loop-k.auto.area

pub loop-k-preserved : goal.loop-k-preserved
loop-k-preserved c =
    let l = c.loop-k in
    let a = c.args in
    let n = a.row.count in
    let e : n - (l.k + 1) ≡ n - l.k - 1 = omega arith in
    let p = length-kept a.shared (run_elems a.others) (elem_in a.row.column) a.row.from l.k (n - l.k) (omega arith) c.is_kept-new.ensures.value in
    (rw e (omega (arith, p)), omega (arith, bit_le c.is_kept-new.result), c.is_kept-new.ensures.table_2, within_more l.invariant.3 c.is_kept-new.ensures.within)

pub returns-clause-value : goal.returns-clause-value
returns-clause-value c =
    let l = c.loop-k in
    let a = c.args in
    omega (arith, ap length (kept-none a.shared (run_elems a.others) (elem_in a.row.column) a.row.from l.k (a.row.count - l.k) (omega arith)))
