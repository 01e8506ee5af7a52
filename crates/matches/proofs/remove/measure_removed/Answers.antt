use Rattle.std.proofs.Common.{◌+◌, ◌-◌, ap, arith, length, length-append}
use Rattle.matches.proofs.RowOpLaws.{removed_spent, removed_all, removed-next}
use Rattle.model.proofs.TabLaws.{length-tab}
use Rattle.model.specs.Basics.{tab}
use Rattle.column.specs.Columns.{elem_in}
use Rattle.model.specs.Elements.{removed}
use Rattle.rows.specs.Cells.{elem_of}
use Rattle.matches.proofs.remove.measure_removed.Goals as goal

pub returns-then-run-left : goal.returns-then-run-left
returns-then-run-left c =
    let l = c.loop in
    let E = elem_in c.args.elements in
    let all = removed_all (elem_of c.args.by.element) E c.args.by.limit l.counter c.loop-test.true l.p l.left _ c.before_match-run.ensures c.if-run-left.true in
    omega (arith, ap length all, length-tab E l.p c.before_match-run.result, l.invariant.0)

pub loop-preserved : goal.loop-preserved
loop-preserved c =
    let l = c.loop in
    let E = elem_in c.args.elements in
    let run = c.before_match-run.result in
    let left = c.args.by.limit - (l.counter + 1) in
    let F = elem_of c.args.by.element in
    let next = removed-next F E c.args.by.limit l.counter c.loop-test.true l.p l.left _ c.before_match-run.ensures c.if-run-left.false in
    (omega (arith, ap length next, length-append (tab E l.p run) (removed left F (tab E (l.p + (run + 1)) (l.left - (run + 1)))), length-tab E l.p run, l.invariant.0), omega (arith, c.before_match-run.ensures.inside, c.if-run-left.false, l.invariant.1), omega (arith, c.before_match-run.ensures.inside, c.if-run-left.false, l.invariant.2))

pub returns : goal.returns
returns c =
    let l = c.loop in
    let E = elem_in c.args.elements in
    let rest = tab E l.p l.left in
    let spent = removed_spent (elem_of c.args.by.element) c.args.by.limit l.counter rest c.loop-test.false in
    omega (arith, l.invariant.0, ap length spent, length-tab E l.p l.left)
