use mathlib.Core.Path.{sym, ap, ◌∙◌}
use Rattle.codes.specs.Codes.{step_in}
use Rattle.column.specs.Columns.{column_in}
use Rattle.model.specs.Column.{rows_of}
use Rattle.model.specs.Recipe.{step_at}
use Rattle.one_list.specs.Uses.{columns_in}
use Rattle.step.specs.Step.{front_in}
use Rattle.step.proofs.StepLaws.{taken-first, taken-later, step_told, front_rows}
use Rattle.step.proofs.step_at.Goals as goal

pub take_step-requires : goal.take_step-requires
take_step-requires g c =
    let r = c.requires in
    record {
      column = r.taken.first c.if-k-eq0.true;
      rows = r.taken.rows c.if-k-eq0.true;
      beside = r.beside;
      fits = rw c.step_at-step.ensures r.fits;
    }

pub returns-then-k-eq0 : goal.returns-then-k-eq0
returns-then-k-eq0 g c =
    let a = c.args in
    let numbers = g.O.Offset.numbers in
    let list = column_in numbers a.inputs.list in
    step_told numbers g.O.Offset.LIMITS (rows_of (column_in numbers a.inputs.second)) (columns_in a.inputs.args) (step_in c.step_at-step.result) (step_at a.inputs.recipe.now a.k) (rows_of list) _
    c.step_at-step.ensures
    (sym (taken-first a.k list (front_in numbers a.inputs.args.rows a.m a.from.now) c.if-k-eq0.true)) c.take_step.ensures

pub front-carried-requires : goal.front-carried-requires
front-carried-requires g c = c.requires.taken.later c.if-k-eq0.false

pub take_step-requires-2 : goal.take_step-requires-2
take_step-requires-2 g c =
    let r = c.requires in
    let held = r.taken.later c.if-k-eq0.false in
    record {
      column = rw c.front-carried.ensures held.formed;
      rows = front_rows held c.front-carried.ensures;
      beside = r.beside;
      fits = rw c.step_at-step.ensures r.fits;
    }

pub returns : goal.returns
returns g c =
    let a = c.args in
    let numbers = g.O.Offset.numbers in
    let tray = front_in numbers a.inputs.args.rows a.m a.from.now in
    step_told numbers g.O.Offset.LIMITS (rows_of (column_in numbers a.inputs.second)) (columns_in a.inputs.args) (step_in c.step_at-step.result) (step_at a.inputs.recipe.now a.k) (rows_of (column_in numbers c.front-carried.result)) _
    c.step_at-step.ensures
    (ap rows_of c.front-carried.ensures ∙ sym (taken-later a.k (column_in numbers a.inputs.list) tray c.if-k-eq0.false)) c.take_step-2.ensures
