use Rattle.std.proofs.Common.{refl, ℕ, sym, ap, ◌∙◌, length}
use Rattle.model.specs.Column.{row_count}
use Rattle.model.specs.Form.{flat}
use Rattle.column.specs.Columns.{column_in, values_in}
use Rattle.model.specs.Outcome.{made}
use Rattle.made_rows.specs.Made.{call_rows}
use Rattle.checks.proofs.RefusedLaws.{handed_on, number_positive}
use Rattle.model.specs.Asked.{asked_list}
use Rattle.model.specs.Lengths.{room_for}
use Rattle.sums.specs.Sums.{measured}
use Rattle.made_rows.proofs.CallLaws.{measure_refused, measure_sum, lengths_early, lengths_go}
use Rattle.made_rows.proofs.CallLaws as laws
use Rattle.list_walk.proofs.lengths.Goals as goal

pub returns-in_err-early : goal.returns-in_err-early
unfolding asked_list
returns-in_err-early g c =
    let a = c.args in
    let col = column_in g.O.Offset.numbers a.list in
    let x = values_in a.xs in
    let y = values_in a.ys in
    let z = values_in a.zs in
    let lim = g.O.Offset.LIMITS in
    rw (handed_on _ _ c.from_residual.ensures)
    (lengths_early lim a.op col x y z _ c.in_err-early.ensures.value (number_positive c.in_err-early.field-0.0))

pub returns-in_err-m : goal.returns-in_err-m
unfolding asked_list measured
returns-in_err-m g c =
    let a = c.args in
    let col = column_in g.O.Offset.numbers a.list in
    let x = values_in a.xs in
    let y = values_in a.ys in
    let z = values_in a.zs in
    let lim = g.O.Offset.LIMITS in
    let b = c.in_ok-early.ensures.begun refl in
    rw (handed_on _ _ c.from_residual-in_err-m.ensures)
    (sym (lengths_go lim a.op col x y z _ c.in_ok-early.ensures.value refl b.arguments ∙ measure_refused _ _ _ _ (sym (c.in_err-m.ensures.value ∙ laws.measured lim a.op col x y z b.arguments))))

pub returns : goal.returns
unfolding measured
returns g c =
    let a = c.args in
    let col = column_in g.O.Offset.numbers a.list in
    let x = values_in a.xs in
    let y = values_in a.ys in
    let z = values_in a.zs in
    let lim = g.O.Offset.LIMITS in
    let b = c.in_ok-early.ensures.begun refl in
    let m = measure_sum _ _ _ (made (room_for (row_count col.offsets) (length (flat (call_rows lim a.op col x y z))))) (sym (c.in_ok-m.ensures.value ∙ laws.measured lim a.op col x y z b.arguments)) in
    c.lengths_for.ensures
    ∙ ap (λ (n : ℕ). made (room_for n c.in_ok-m.m)) c.row_count.ensures
    ∙ ap (λ (n : ℕ). made (room_for (row_count col.offsets) n)) m.1
    ∙ sym (lengths_go lim a.op col x y z _ c.in_ok-early.ensures.value refl b.arguments ∙ m.0)
