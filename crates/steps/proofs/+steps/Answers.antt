use Rattle.std.proofs.Common.{refl, ◌∙◌}
use native.Mathlib.Omega.{arith}
use Rattle.column.specs.Columns.{column_in}
use Rattle.column.proofs.SameLaws.{lists_on}
use Rattle.column.proofs.AnswerLaws.{list-refused}
use Rattle.checks.proofs.RefusedLaws.{handed_on}
use Rattle.model.specs.Column.{rows_of}
use Rattle.model.specs.Recipe.{step_at}
use Rattle.one_list.specs.Uses.{columns_in}
use Rattle.step.specs.Step.{front_in, rows_taken}
use Rattle.steps.proofs.ChainLaws.{answer-refused, chain_last, chain_refused, chain_on, tray_left, taken-rows, taken_next, next-rows, same_room, left_alone, step_fits, none_left, more_left, next_steps}
use Rattle.steps.proofs.+steps.Goals as goal

pub step_at-requires-clause-fits : goal.step_at-requires-clause-fits
step_at-requires-clause-fits g t c = step_fits c.requires.steps

pub step_at-requires-2-clause-fits : goal.step_at-requires-2-clause-fits
step_at-requires-2-clause-fits g t c = step_fits c.requires.steps

-- the last step
pub returns-then-left-eq1-clause-answers : goal.returns-then-left-eq1-clause-answers
returns-then-left-eq1-clause-answers g t c =
    let s = c.step_at.ensures in
    record { meets = rw (chain_last _ _ _ _ _ _ _ _ _ (none_left c.requires.steps c.if-left-eq1.true)) s.meets; same = s.same }

-- a step before others: its tray holds what the next one takes
pub steps-requires : goal.steps-requires
steps-requires g t c =
    let a = c.args in
    let r = c.requires in
    let numbers = g.O.Offset.numbers in
    let N = g.O.Offset.LIMITS in
    let i = a.inputs in
    let list = column_in numbers i.list in
    let s = step_at i.recipe.now a.k in
    let ws = rows_taken a.k list (front_in numbers i.args.rows a.m a.from.now) in
    let rs = rows_of (column_in numbers i.second) in
    let tray = a.to.now in
    let carried = tray_left N s ws rs (columns_in i.args) _ i.args.rows _ (g.met.O.Offset.numbers_length tray.offsets.now) (taken-rows r.taken) c.step_at-2.ensures.meets c.in_ok-made.was in
    λ κs h. (omega (arith, c.decreases, r.steps.some), (h, (next_steps r.steps c.if-left-eq1.false, (taken_next a.k list carried.at_front, r.beside))))

pub returns-in_err-made-clause-answers : goal.returns-in_err-made-clause-answers
returns-in_err-made-clause-answers g t c =
    rw (handed_on _ _ c.from_residual.ensures)
    (record {
      meets = list-refused _ (chain_refused _ _ _ _ _ _ _ _ _ _ _ _ (more_left c.requires.steps c.if-left-eq1.false) (answer-refused _ _ _ c.in_err-made.was c.step_at-2.ensures.meets.answer));
      same = record { offsets = refl; rows = refl; elements = refl; values = refl; bits = refl };
    })

pub returns-in_err-made-clause-to_room : goal.returns-in_err-made-clause-to_room
returns-in_err-made-clause-to_room g t c =
    let m = c.step_at-2.ensures.meets in
    let long = g.met.O.Offset.numbers_length in
    let kept = left_alone _ m (answer-refused _ _ _ c.in_err-made.was m.answer) in
    rw (← long c.step_at-2.new.out.offsets.now, ← long c.args.to.now.offsets.now) kept

pub returns : goal.returns
returns g t c =
    let a = c.args in
    let r = c.requires in
    let numbers = g.O.Offset.numbers in
    let N = g.O.Offset.LIMITS in
    let i = a.inputs in
    let list = column_in numbers i.list in
    let s = step_at i.recipe.now a.k in
    let ws = rows_taken a.k list (front_in numbers i.args.rows a.m a.from.now) in
    let rs = rows_of (column_in numbers i.second) in
    let tray = a.to.now in
    let long = g.met.O.Offset.numbers_length in
    let carried = tray_left N s ws rs (columns_in i.args) _ i.args.rows _ (long tray.offsets.now) (taken-rows r.taken) c.step_at-2.ensures.meets c.in_ok-made.was in
    let kept = same_room (omega (arith, long c.step_at-2.new.out.offsets.now, carried.lo, long tray.offsets.now)) carried.lr carried.lv carried.le in
    record {
      answers = record {
        meets = chain_on _ _ _ _ _ _ _ _ _ _ _ (more_left r.steps c.if-left-eq1.false) carried.is (next-rows a.k list _ ∙ carried.shown) kept c.steps.ensures.answers.meets;
        same = c.steps.ensures.answers.same;
      };
      from_same = c.steps.ensures.to_same;
      from_room = c.steps.ensures.to_room;
      to_same = lists_on c.step_at-2.ensures.same c.steps.ensures.from_same;
      to_room = c.steps.ensures.from_room ∙ kept;
    }
