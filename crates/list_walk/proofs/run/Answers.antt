use Rattle.std.proofs.Common.{refl}
use Rattle.column.specs.Outputs.{room_in}
use Rattle.column.specs.Columns.{column_in, values_in}
use Rattle.checks.proofs.RefusedLaws.{handed_on, number_positive}
use Rattle.column.proofs.AnswerLaws.{list-refused}
use Rattle.made_rows.proofs.CallLaws.{run_early, run_goes}
use Rattle.list_walk.proofs.run.Goals as goal

pub returns-in_err-early : goal.returns-in_err-early
returns-in_err-early g c =
    let a = c.args in
    let col = column_in g.O.Offset.numbers a.list in
    let x = values_in a.xs in
    let y = values_in a.ys in
    let z = values_in a.zs in
    let lim = g.O.Offset.LIMITS in
    let l = room_in a.out.now in
    rw (handed_on _ _ c.from_residual.ensures)
    (record { meets = list-refused _ (run_early lim a.op col x y z _ c.in_err-early.ensures.value l (number_positive c.in_err-early.field-0.0)); same = record { offsets = refl; rows = refl; elements = refl; values = refl; bits = refl } })

pub returns : goal.returns
returns g c =
    let a = c.args in
    let col = column_in g.O.Offset.numbers a.list in
    let x = values_in a.xs in
    let y = values_in a.ys in
    let z = values_in a.zs in
    let lim = g.O.Offset.LIMITS in
    let l = room_in a.out.now in
    let e = run_goes lim a.op col x y z _ c.in_ok-early.ensures.value l refl in
    record { meets = rw e c.after_three.ensures.meets; same = c.after_three.ensures.same }
