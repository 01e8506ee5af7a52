use Rattle.std.proofs.Common.{◌∙◌, sym, ap, subst, length, arith}
use Rattle.bitmap.specs.Reads.{bits_in}
use Rattle.column.specs.Columns.{values_in}
use Rattle.model.specs.Recipe.{Step}
use Rattle.recipe_limits.specs.Limited.{Counted, limit_at}
use Rattle.recipe_limits.proofs.LimitedLaws.{limit_le, limits-last, limits-next, none_left, more_left, next_steps, step-counted}
use Rattle.recipe_limits.proofs.limits.Measured.+steps_limits.Goals as goal

pub step_limit-m-requires-clause-there : goal.step_limit-m-requires-clause-there
step_limit-m-requires-clause-there t c =
    let m = c.args.self in
    subst (λ (s : Step). Counted s m.row_count (length m.arguments.values.now)) (sym c.step_at.ensures) (step-counted c.requires.steps)

pub returns-then-left-eq1 : goal.returns-then-left-eq1
returns-then-left-eq1 t c =
    let m = c.args.self in
    let limit = c.step_limit-m.ensures ∙ ap (λ (s : Step). limit_at m.most (bits_in m.rows) m.row_count (values_in m.arguments) m.second s.code s.first c.args.came) c.step_at.ensures in
    limits-last _ _ _ _ _ _ _ _ limit _ (none_left c.requires.steps c.if-left-eq1.true)

pub steps_limits-later-requires : goal.steps_limits-later-requires
steps_limits-later-requires t c =
    let r = c.requires in
    (omega (arith, c.decreases, r.steps.some), (r.covered, (next_steps r.steps c.if-left-eq1.false, rw c.step_limit-m.ensures (limit_le _ _ _ _ _ _ _ _))))

pub returns : goal.returns
returns t c =
    let m = c.args.self in
    let limit = c.step_limit-m.ensures ∙ ap (λ (s : Step). limit_at m.most (bits_in m.rows) m.row_count (values_in m.arguments) m.second s.code s.first c.args.came) c.step_at.ensures in
    limits-next _ _ _ _ _ _ _ _ limit _ _ _ _ _ (more_left c.requires.steps c.if-left-eq1.false) c.steps_limits-later.ensures c.max.ensures
