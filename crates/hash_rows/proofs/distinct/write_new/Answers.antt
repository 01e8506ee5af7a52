-- An element is written where it is a first occurrence.
use Rattle.std.proofs.Common.{◌≡◌, ◌+◌, ◌-◌, not, refl, sym, ap, ◌∙◌, arith}
use Rattle.column.specs.Columns.{elem_in}
use Rattle.column.proofs.SameLaws.{values_on}
use Rattle.column.proofs.WriteLaws.{begun, written, skipped, room, done}
use Rattle.hash_tables.proofs.TableLaws.{table_none, table_all, within_none, within_more, turned_back}
use Rattle.set_elements.proofs.ElementLaws.{later_all, later-none, later_new, later_old}
use Rattle.hash_rows.proofs.distinct.write_new.Goals as goal
use Rattle.hash_rows.proofs.distinct.write_new.Goals.{then-enter, else-enter}

pub loop-k-init : goal.loop-k-init
loop-k-init c =
    let s = c.args.row in
    let e : s.count - 0 ≡ s.count = omega arith in
    (rw e (begun _ (later_all (elem_in s.column) s.from s.count)), table_none _ _ _ _ _ c.requires.room c.requires.clean, within_none _, record { values = refl; bits = refl })

pub put_elem-requires-clause-k_in_bounds : goal.put_elem-requires-clause-k_in_bounds
put_elem-requires-clause-k_in_bounds c =
    let l = c.loop-k in
    let s = c.args.row in
    (room l.invariant.0 _ _ (later_new (elem_in s.column) s.from l.k (s.count - l.k) (omega arith) (sym (turned_back c.enter.ensures.value) ∙ ap not c.if-enter.true)) c.requires.place).0

pub put_elem-requires-clause-k_in_bounds_2 : goal.put_elem-requires-clause-k_in_bounds_2
put_elem-requires-clause-k_in_bounds_2 c =
    let l = c.loop-k in
    let s = c.args.row in
    (room l.invariant.0 _ _ (later_new (elem_in s.column) s.from l.k (s.count - l.k) (omega arith) (sym (turned_back c.enter.ensures.value) ∙ ap not c.if-enter.true)) c.requires.place).1

pub loop-k-preserved : goal.loop-k-preserved
loop-k-preserved c =
    let l = c.loop-k in
    let s = c.args.row in
    let E = elem_in s.column in
    let e : s.count - l.k - 1 ≡ s.count - (l.k + 1) = omega arith in
    let h = c.enter.ensures in
    let among = sym (turned_back h.value) in
    elim c.if-enter.branch [
      | then-enter w ↦
          rw (w.out-is, w.p-is)
          (written l.invariant.0 _ _ (rw e at (later_new E s.from l.k (s.count - l.k) (omega arith) (among ∙ ap not w.if-enter.true))) w.put_elem.ensures.values_after w.put_elem.ensures.bits_after, h.table_2, within_more l.invariant.2 h.within, values_on l.invariant.3 w.put_elem.ensures.same)
      | else-enter w ↦
          rw (w.out-is, w.p-is)
          (skipped l.invariant.0 _ (rw e at (later_old E s.from l.k (s.count - l.k) (omega arith) (among ∙ ap not w.if-enter.false))), h.table_2, within_more l.invariant.2 h.within, l.invariant.3)
    ]

pub returns-clause-writes : goal.returns-clause-writes
returns-clause-writes c =
    let l = c.loop-k in
    let s = c.args.row in
    record {
      written = done l.invariant.0 (later-none (elem_in s.column) s.from l.k (s.count - l.k) (omega arith));
      same = l.invariant.3;
    }

pub returns-clause-table : goal.returns-clause-table
returns-clause-table c = table_all c.loop-k.invariant.1 (omega arith)
