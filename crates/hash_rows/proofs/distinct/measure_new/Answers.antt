-- An element is counted where it is a first occurrence.
use Rattle.std.proofs.Common.{◌≡◌, ◌+◌, ◌-◌, length, ap, arith}
use Rattle.model.specs.Bitmap.{bit}
use Rattle.bitmap.proofs.BitLaws.{bit_le}
use Rattle.column.specs.Columns.{elem_in}
use Rattle.hash_tables.proofs.TableLaws.{table_none, table_all, within_none, within_more}
use Rattle.set_elements.proofs.ElementLaws.{later_all, later-none, length-later}
use Rattle.hash_rows.proofs.distinct.measure_new.Goals as goal

pub loop-k-init : goal.loop-k-init
loop-k-init c =
    let s = c.args.row in
    let e : s.count - 0 ≡ s.count = omega arith in
    (rw e (omega (arith, ap length (later_all (elem_in s.column) s.from s.count))), omega arith, table_none _ _ _ _ _ c.requires.room c.requires.clean, within_none _)

pub loop-k-preserved : goal.loop-k-preserved
loop-k-preserved c =
    let l = c.loop-k in
    let s = c.args.row in
    let e : s.count - (l.k + 1) ≡ s.count - l.k - 1 = omega arith in
    let b = ap bit c.enter-new.ensures.value in
    let p = length-later (elem_in s.column) s.from l.k (s.count - l.k) (omega arith) in
    (rw e (omega (arith, p, b)), omega (arith, bit_le c.enter-new.result), c.enter-new.ensures.table_2, within_more l.invariant.3 c.enter-new.ensures.within)

pub returns-clause-value : goal.returns-clause-value
returns-clause-value c =
    let l = c.loop-k in
    let s = c.args.row in
    omega (arith, ap length (later-none (elem_in s.column) s.from l.k (s.count - l.k) (omega arith)))

pub returns-clause-table : goal.returns-clause-table
returns-clause-table c = table_all c.loop-k.invariant.2 (omega arith)
