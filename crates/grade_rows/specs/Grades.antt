-- What grading states of numbers and answers, and the grades of the rows at the front of an output.
use Rattle.std.specs.Prelude.{ℕ, ◌+◌, ◌<◌, ◌≤◌, ◌≡◌, Bool, true, false, ◌&&◌, List, [], ltb, eqb, ℤ, Result, Ok, Err}
use Rattle.model.specs.Basics.{pick}
use Rattle.model.specs.Column.{rows_of}
use Rattle.model.specs.Elements.{eq_z}
use Rattle.model.specs.Grade.{grades_of}
use Rattle.model.specs.Answers.{number_of, ListAnswer, ValueLengths}
use Rattle.model.specs.declared.Refusal.{Refusal}
use Rattle.column.specs.Front.{front, AtFront}

-- 12 and 9 of a grading by k, of n rows into a slice of g grades
unfoldable pub early_of : ℕ → ℕ → ℕ → ℕ
early_of k n g = pick (eqb k 0) 12 (pick (ltb g n) 9 0)

-- how long the run is that an element ends: w is its number, where it is valid (b), v the number before it, which ends a run of r
unfoldable pub run_after : ℕ → ℤ → Bool → ℤ → ℕ
run_after r v b w = pick b (pick (ltb 0 r && eq_z v w) (r + 1) 1) 0

-- the answer of a graded recipe, which `early` refuses by 12 or 9, and of which a is what its run answered
unfoldable pub answered : Result (Unit {0}) Refusal → ListAnswer → ListAnswer
answered (Ok u) a = a
answered (Err k) a = Err k

-- what an answer counts, and whether it counts at all
unfoldable pub is_made : ListAnswer → Bool
is_made (Ok c) = true
is_made (Err k) = false

unfoldable pub rows_in : ListAnswer → ℕ
rows_in (Ok c) = c.rows
rows_in (Err k) = 0

unfoldable pub elements_in : ListAnswer → ℕ
elements_in (Ok c) = c.elements
elements_in (Err k) = 0

-- what refuses a measure, and the rows that it measured
unfoldable pub refusal_in : ValueLengths → ℕ
refusal_in (Ok l) = 0
refusal_in (Err k) = number_of k

unfoldable pub rows_measured : ValueLengths → ℕ
rows_measured (Ok l) = l.values
rows_measured (Err k) = 0

-- the rows that an answer counts are at the front of an output, and have places in a slice of g grades
pub record Counted (k : ℕ) (a : ListAnswer) (o : List ℤ) (r : List ℕ) (v : List ℤ) (e : List ℕ) (g : ℕ) : Type 0 where
  pub positive : is_made a ≡ true → 0 < k
  pub front : is_made a ≡ true → AtFront (rows_in a) (elements_in a) o r v e
  pub room : is_made a ≡ true → rows_in a ≤ g

-- their grades; a refusal has none
unfoldable pub front_grades : ℕ → ListAnswer → List ℤ → List ℕ → List ℤ → List ℕ → List ℕ
front_grades k a o r v e = pick (is_made a) (grades_of k (rows_of (front o r v e (rows_in a) (elements_in a)))) []
