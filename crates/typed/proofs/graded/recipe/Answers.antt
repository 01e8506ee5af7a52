-- The recipe graded, its answer told and its tally put; or 100.
use mathlib.Core.Path.{refl}
use lib.Dec.{ltb}
use lib.ListN.{length}
use mathlib.Core.Bool.{◌||◌}
use Rattle.typed.proofs.GradedLaws.{graded-told, grades-told, tally-told}
use Rattle.typed.proofs.graded.recipe.Goals as goal

pub returns-clause-graded_served : goal.returns-clause-graded_served
returns-clause-graded_served c =
    let a = c.args in
    let m = c.grade_recipe-done.ensures in
    let s = c.settle.ensures in
    let h = c.k_for-by.ensures in
    record {
      served =
          record {
            list = graded-told _ _ _ _ _ _ refl _ h m.list_answers.meets s.told;
            grades = grades-told _ _ _ _ _ _ refl _ h m.grades_lent;
            tally = tally-told _ _ _ a.k (ltb (length a.counts.now) 4 || ltb (length a.tally.now) 32) _ h s.tally m.tally_value c.get_tally-before.ensures;
          };
      same = m.list_answers.same;
    }
