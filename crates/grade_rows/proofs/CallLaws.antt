-- What a grading decides by numbers and answers, test by test.
use mathlib.Core.Path.{◌≡◌}
use mathlib.Core.Bool.{true, false}
use Rattle.std.specs.Prelude.{Ok, Err}
use Rattle.model.specs.declared.Refusal.{Refusal}
use Rattle.model.specs.declared.ListCounts.{ListCounts}
use Rattle.model.specs.Answers.{ListAnswer}
use Rattle.grade_rows.specs.Grades.{is_made, rows_in, elements_in}

module _ {a : ListAnswer} {k : Refusal} (e : a ≡ Err k) where
  pub none_made : is_made a ≡ false
  unfolding is_made
  none_made = rw e

module _ {a : ListAnswer} {c : ListCounts} (e : a ≡ Ok c) where
  pub some-made : is_made a ≡ true
  unfolding is_made
  some-made = rw e

  pub rows_are : c.rows ≡ rows_in a
  unfolding rows_in
  rows_are = rw e

  pub elements_are : c.elements ≡ elements_in a
  unfolding elements_in
  elements_are = rw e
