-- The recipe, run for its station or for none, its answer told or 12 or 9, and what it made graded.
use Rattle.std.proofs.Common.{length}
use Rattle.grades.specs.Graded.{column_of}
use Rattle.grades.proofs.LengthLaws.{recipe-rows}
use Rattle.grades.proofs.CallLaws.{early_is, graded_meets, graded-tally, counted, graded-front, has_places}
use Rattle.grades.proofs.grade_recipe.Goals as goal

pub grade_front-requires : goal.grade_front-requires
grade_front-requires c =
    let a = c.args in
    let e = early_is a.k (column_of a.inputs.list) (length a.grades.now) c.early_refusal-early.ensures in
    counted _ _ _ _ (graded_meets _ _ _ _ _ _ e c.station_for-station.ensures c.answer_for-answer.ensures c.run_recipe-done.ensures.list_answers.meets) (has_places _ _ _ _ (recipe-rows _ _ _ _ _ _ _ _ _))

pub returns : goal.returns
returns c =
    let a = c.args in
    let e = early_is a.k (column_of a.inputs.list) (length a.grades.now) c.early_refusal-early.ensures in
    let m = c.run_recipe-done.ensures in
    let w = graded_meets _ _ _ _ _ _ e c.station_for-station.ensures c.answer_for-answer.ensures m.list_answers.meets in
    record {
      list_answers = record { meets = w; same = m.list_answers.same };
      clears = m.clears;
      clears_2 = m.clears_2;
      tally_value = graded-tally _ _ _ _ _ _ e _ c.station_for-station.ensures m.tally_value;
      grades_lent = graded-front _ _ _ w c.grade_front.ensures;
    }
