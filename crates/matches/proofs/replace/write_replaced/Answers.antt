use Rattle.std.proofs.Common.{arith, refl}
use Rattle.column.proofs.SameLaws.{values_on}
use Rattle.column.proofs.WriteLaws.{written, room}
use Rattle.matches.proofs.RowOpLaws.{replaced_spent, replaced_before, replaced_all, replaced-next}
use Rattle.column.specs.Columns.{elem_in}
use Rattle.rows.proofs.RunLaws.{run_room, run_written, last-room, last_written}
use Rattle.rows.specs.Cells.{elem_of}
use Rattle.matches.proofs.replace.write_replaced.Goals as goal

pub write_forward-k-requires-clause-room : goal.write_forward-k-requires-clause-room
write_forward-k-requires-clause-room c =
    let l = c.loop in
    let E = elem_in c.args.elements in
    let before = replaced_before (elem_of c.args.by.from) (elem_of c.args.by.to) E c.args.by.limit l.counter c.loop-test.true l.p l.left _ c.before_match-run.ensures in
    run_room l.invariant.0.0 _ _ before c.requires.room

pub returns-then-run-left : goal.returns-then-run-left
returns-then-run-left c =
    let l = c.loop in
    let E = elem_in c.args.elements in
    let all = replaced_all (elem_of c.args.by.from) (elem_of c.args.by.to) E c.args.by.limit l.counter c.loop-test.true l.p l.left _ c.before_match-run.ensures c.if-run-left.true in
    record { written = last_written l.invariant.0.0 _ all c.write_forward-k.ensures.written; same = values_on l.invariant.0.1 c.write_forward-k.ensures.same }

pub write_cell-requires : goal.write_cell-requires
write_cell-requires c =
    let l = c.loop in
    let E = elem_in c.args.elements in
    let next = replaced-next (elem_of c.args.by.from) (elem_of c.args.by.to) E c.args.by.limit l.counter c.loop-test.true l.p l.left _ c.before_match-run.ensures c.if-run-left.false in
    let fits = room (run_written l.invariant.0.0 _ _ next c.write_forward-k.ensures.written) _ _ refl c.requires.room in
    record { k_in_bounds = fits.0; k_in_bounds_2 = fits.1 }

pub overflow_add-k : goal.overflow_add-k
overflow_add-k c =
    let l = c.loop in
    let E = elem_in c.args.elements in
    let next = replaced-next (elem_of c.args.by.from) (elem_of c.args.by.to) E c.args.by.limit l.counter c.loop-test.true l.p l.left _ c.before_match-run.ensures c.if-run-left.false in
    let w = run_written l.invariant.0.0 _ _ next c.write_forward-k.ensures.written in
    omega (arith, (room w _ _ refl c.requires.room).0, w.lv, c)

pub loop-preserved : goal.loop-preserved
loop-preserved c =
    let l = c.loop in
    let E = elem_in c.args.elements in
    let next = replaced-next (elem_of c.args.by.from) (elem_of c.args.by.to) E c.args.by.limit l.counter c.loop-test.true l.p l.left _ c.before_match-run.ensures c.if-run-left.false in
    let w = run_written l.invariant.0.0 _ _ next c.write_forward-k.ensures.written in
    ((written w _ _ refl c.write_cell.ensures.values_after c.write_cell.ensures.bits_after, values_on (values_on l.invariant.0.1 c.write_forward-k.ensures.same) c.write_cell.ensures.same), omega (arith, c.before_match-run.ensures.inside, c.if-run-left.false, l.invariant.1))

pub write_forward-requires-clause-room : goal.write_forward-requires-clause-room
write_forward-requires-clause-room c =
    let l = c.loop in
    last-room l.invariant.0.0 _ (replaced_spent (elem_of c.args.by.from) (elem_of c.args.by.to) c.args.by.limit l.counter _ c.loop-test.false) c.requires.room

pub returns : goal.returns
returns c =
    let l = c.loop in
    let w = c.write_forward.ensures in
    record { written = last_written l.invariant.0.0 _ (replaced_spent (elem_of c.args.by.from) (elem_of c.args.by.to) c.args.by.limit l.counter _ c.loop-test.false) w.written; same = values_on l.invariant.0.1 w.same }
