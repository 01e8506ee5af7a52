use Rattle.std.proofs.Common.{refl, ℕ, sym, ◌∙◌}
use Rattle.column.specs.Outputs.{room_in}
use Rattle.column.specs.Columns.{column_in, values_in}
use Rattle.model.specs.Outcome.{made, fitted}
use Rattle.made_rows.specs.Made.{call_rows}
use Rattle.checks.proofs.RefusedLaws.{handed_on}
use Rattle.column.proofs.AnswerLaws.{list-refused}
use Rattle.sums.specs.Sums.{measured, let_through}
use Rattle.made_rows.proofs.CallLaws as laws
use Rattle.list_walk.proofs.after_three.Goals as goal

pub returns-in_err-m : goal.returns-in_err-m
unfolding measured
returns-in_err-m g c =
    let a = c.args in
    let col = column_in g.O.Offset.numbers a.list in
    let x = values_in a.xs in
    let y = values_in a.ys in
    let z = values_in a.zs in
    let lim = g.O.Offset.LIMITS in
    let l = room_in a.out.now in
    rw (handed_on _ _ c.from_residual.ensures)
    (record { meets = list-refused _ (laws.after_three_lem lim a.op col x y z l c.requires.arguments ∙ laws.measure_refused _ _ _ _ (sym (c.in_err-m.ensures.value ∙ laws.measured lim a.op col x y z c.requires.arguments))); same = record { offsets = refl; rows = refl; elements = refl; values = refl; bits = refl } })

pub write_fitting-requires-clause-made : goal.write_fitting-requires-clause-made
unfolding measured
write_fitting-requires-clause-made g c =
    let a = c.args in
    let col = column_in g.O.Offset.numbers a.list in
    let x = values_in a.xs in
    let y = values_in a.ys in
    let z = values_in a.zs in
    let lim = g.O.Offset.LIMITS in
    (laws.measure_sum {A = ℕ} _ _ _ (made 0) (sym (c.in_ok-m.ensures.value ∙ laws.measured lim a.op col x y z c.requires.arguments))).1

pub write_fitting-requires-clause-small : goal.write_fitting-requires-clause-small
unfolding let_through
write_fitting-requires-clause-small g c =
    c.in_ok-m.ensures.result_bound

pub returns : goal.returns
unfolding measured
returns g c =
    let a = c.args in
    let col = column_in g.O.Offset.numbers a.list in
    let x = values_in a.xs in
    let y = values_in a.ys in
    let z = values_in a.zs in
    let lim = g.O.Offset.LIMITS in
    let l = room_in a.out.now in
    let m = laws.measure_sum _ _ _ (fitted (call_rows lim a.op col x y z) l) (sym (c.in_ok-m.ensures.value ∙ laws.measured lim a.op col x y z c.requires.arguments)) in
    let w = c.write_fitting.ensures in
    record { meets = rw (laws.after_three_lem lim a.op col x y z l c.requires.arguments, m.0) w.meets; same = w.same }
