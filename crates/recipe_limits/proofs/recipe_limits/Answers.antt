use Rattle.std.proofs.Common.{sym, length}
use Rattle.model.specs.Asked.{asked_recipe}
use Rattle.model.specs.Column.{refusal2ᵃ}
use Rattle.checks.proofs.RefusedLaws.{handed_on, number_positive}
use Rattle.column.specs.Columns.{column_in, values_in}
use Rattle.column.proofs.WalkLaws.{readable}
use Rattle.set_checks.proofs.RefusalLaws.{both_formed}
use Rattle.recipe_refusal.proofs.RefusalLaws.{passed}
use Rattle.recipe_limits.proofs.LimitedLaws.{all_steps, limits-refused, limits_copy, limits_steps}
use Rattle.recipe_limits.specs.Limited.{limits_in}
use Rattle.recipe_limits.proofs.recipe_limits.Goals as goal

pub returns-in_err-refusal : goal.returns-in_err-refusal
unfolding asked_recipe
returns-in_err-refusal g c =
    rw (handed_on _ _ c.from_residual.ensures)
    (limits-refused _ _ _ _ _ _ _ c.in_err-refusal.ensures (number_positive c.in_err-refusal.field-0.0))

pub measure_rows-came-requires : goal.measure_rows-came-requires
measure_rows-came-requires g c =
    let a = c.args in
    let C = column_in g.O.Offset.numbers a.inputs.list in
    let D = column_in g.O.Offset.numbers a.inputs.second in
    let p = passed a.recipe.numbers.now a.recipe.columns C D (values_in a.inputs.arguments) (sym c.in_ok-refusal.ensures) in
    record { column = readable C (both_formed C D p.lists).0 }

pub returns-then-steps-eq0 : goal.returns-then-steps-eq0
unfolding asked_recipe
returns-then-steps-eq0 g c =
    limits_copy _ _ _ _ _ _ (sym c.in_ok-refusal.ensures) _ c.measure_rows-came.ensures.value c.measure_rows-came.ensures.upper_bound c.if-steps-eq0.true

pub measure_rows-requires : goal.measure_rows-requires
measure_rows-requires g c =
    let a = c.args in
    let C = column_in g.O.Offset.numbers a.inputs.list in
    let D = column_in g.O.Offset.numbers a.inputs.second in
    let p = passed a.recipe.numbers.now a.recipe.columns C D (values_in a.inputs.arguments) (sym c.in_ok-refusal.ensures) in
    record { column = readable D (both_formed C D p.lists).1 }

pub steps_limits-requires : goal.steps_limits-requires
unfolding refusal2ᵃ
steps_limits-requires g c =
    let a = c.args in
    let C = column_in g.O.Offset.numbers a.inputs.list in
    let D = column_in g.O.Offset.numbers a.inputs.second in
    let p = passed a.recipe.numbers.now a.recipe.columns C D (values_in a.inputs.arguments) (sym c.in_ok-refusal.ensures) in
    record {
      covered = record { rows = rw c.row_count.ensures (readable C (both_formed C D p.lists).0).rows; bits = record { small = p.small; long = p.long } };
      steps = rw c.row_count.ensures (all_steps a.recipe.numbers.now a.recipe.columns _ (length a.inputs.arguments.values.now) p.formed p.many c.if-steps-eq0.false);
      small = rw c.LIMITS.ensures c.measure_rows-came.ensures.upper_bound;
    }

pub returns : goal.returns
unfolding asked_recipe
returns g c =
    let m = c.measure_rows-came.ensures in
    limits_steps _ _ _ _ _ _ (sym c.in_ok-refusal.ensures) _ m.value m.upper_bound c.row_count.result _ (limits_in c.steps_limits.result) c.row_count.ensures c.measure_rows.ensures.value c.if-steps-eq0.false (rw c.LIMITS.ensures at c.steps_limits.ensures)
