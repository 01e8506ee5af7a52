use Rattle.std.proofs.Common.{sym, ◌∙◌}
use Rattle.model.specs.Column.{row_count}
use Rattle.column.specs.Columns.{column_in, values_in}
use Rattle.checks.proofs.RefusedLaws.{handed_on, number_positive}
use Rattle.column.proofs.WalkLaws.{readable}
use Rattle.arguments.proofs.TakenLaws.{served}
use Rattle.arguments.proofs.RefusalLaws.{call_starts, call_early, call-arguments}
use Rattle.list_walk.proofs.early.Goals as goal

pub returns-then-is_start_over-clause-value : goal.returns-then-is_start_over-clause-value
returns-then-is_start_over-clause-value g c =
    let a = c.args in
    let col = column_in g.O.Offset.numbers a.list in
    let x = values_in a.xs in
    let y = values_in a.ys in
    let z = values_in a.zs in
    call_starts a.op col x y z (sym c.is_start_over.ensures ∙ c.if-is_start_over.true)

pub returns-in_err-list_refusal-clause-value : goal.returns-in_err-list_refusal-clause-value
returns-in_err-list_refusal-clause-value g c =
    let a = c.args in
    let col = column_in g.O.Offset.numbers a.list in
    let x = values_in a.xs in
    let y = values_in a.ys in
    let z = values_in a.zs in
    let p = number_positive c.in_err-list_refusal.field-0.0 in
    rw (handed_on _ _ c.from_residual.ensures)
    (call_early a.op col x y z (sym c.is_start_over.ensures ∙ c.if-is_start_over.false) _ c.in_err-list_refusal.ensures p)

pub returns-clause-value : goal.returns-clause-value
returns-clause-value g c =
    let a = c.args in
    let col = column_in g.O.Offset.numbers a.list in
    let x = values_in a.xs in
    let y = values_in a.ys in
    let z = values_in a.zs in
    call-arguments a.op col x y z (sym c.is_start_over.ensures ∙ c.if-is_start_over.false) (sym c.in_ok-list_refusal.ensures) _ (rw (← c.row_count.ensures) c.arguments_refusal.ensures)

pub returns-clause-begun : goal.returns-clause-begun
returns-clause-begun g c =
    let a = c.args in
    let col = column_in g.O.Offset.numbers a.list in
    let x = values_in a.xs in
    let y = values_in a.ys in
    let z = values_in a.zs in
    let e = sym c.in_ok-list_refusal.ensures in
    λ h. record {
      column = readable col e;
      arguments = served a.op (row_count col.offsets) x y z (sym c.is_start_over.ensures ∙ c.if-is_start_over.false) (rw (← c.row_count.ensures) (sym c.arguments_refusal.ensures) ∙ h);
    }
