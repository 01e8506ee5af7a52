use Rattle.std.proofs.Common.{arith}
use Rattle.matches.proofs.RowOpLaws.{removed_spent, removed_before, removed_all, removed-next}
use Rattle.column.proofs.SameLaws.{values_on}
use Rattle.column.specs.Columns.{elem_in}
use Rattle.rows.proofs.RunLaws.{run_room, run_written, last-room, last_written}
use Rattle.rows.specs.Cells.{elem_of}
use Rattle.matches.proofs.remove.write_removed.Goals as goal

pub write_forward-k-requires-clause-room : goal.write_forward-k-requires-clause-room
write_forward-k-requires-clause-room c =
    let l = c.loop in
    let E = elem_in c.args.elements in
    let before = removed_before (elem_of c.args.by.element) E c.args.by.limit l.counter c.loop-test.true l.p l.left _ c.before_match-run.ensures in
    run_room l.invariant.0.0 _ _ before c.requires.room

pub returns-then-run-left : goal.returns-then-run-left
returns-then-run-left c =
    let l = c.loop in
    let E = elem_in c.args.elements in
    let all = removed_all (elem_of c.args.by.element) E c.args.by.limit l.counter c.loop-test.true l.p l.left _ c.before_match-run.ensures c.if-run-left.true in
    record { written = last_written l.invariant.0.0 _ all c.write_forward-k.ensures.written; same = values_on l.invariant.0.1 c.write_forward-k.ensures.same }

pub loop-preserved : goal.loop-preserved
loop-preserved c =
    let l = c.loop in
    let E = elem_in c.args.elements in
    let next = removed-next (elem_of c.args.by.element) E c.args.by.limit l.counter c.loop-test.true l.p l.left _ c.before_match-run.ensures c.if-run-left.false in
    ((run_written l.invariant.0.0 _ _ next c.write_forward-k.ensures.written, values_on l.invariant.0.1 c.write_forward-k.ensures.same), omega (arith, c.before_match-run.ensures.inside, c.if-run-left.false, l.invariant.1))

pub write_forward-requires-clause-room : goal.write_forward-requires-clause-room
write_forward-requires-clause-room c =
    let l = c.loop in
    last-room l.invariant.0.0 _ (removed_spent (elem_of c.args.by.element) c.args.by.limit l.counter _ c.loop-test.false) c.requires.room

pub returns : goal.returns
returns c =
    let l = c.loop in
    let w = c.write_forward.ensures in
    record { written = last_written l.invariant.0.0 _ (removed_spent (elem_of c.args.by.element) c.args.by.limit l.counter _ c.loop-test.false) w.written; same = values_on l.invariant.0.1 w.same }
