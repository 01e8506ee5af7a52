-- Grades: one byte a row.
use Rattle.std.specs.Prelude.{ℕ, ◌+◌, Bool, true, false, not, ◌||◌, List, [], ◌∷◌, map, length, ℤ, ltb, leb, eqb}
use Rattle.model.specs.Basics.{pick, any}
use Rattle.model.specs.Column.{Elem, nul, val, Row, null_row, list_row, Column, rows_of}
use Rattle.model.specs.Form.{is_val}
use Rattle.model.specs.Elements.{eq_z}
use Rattle.model.specs.Outcome.{Outcome, made, gate, columns_refusal}
use Rattle.model.specs.Tally.{Move, nobody}

-- how many elements at the front are valid and equal to v; "a null ends a run"
unfoldable pub run_of : ℤ → List Elem → ℕ
run_of v [] = 0
run_of v (nul ∷ es) = 0
run_of v (val w ∷ es) = pick (eq_z v w) (run_of v es + 1) 0

-- a run of at least k begins with the first element
unfoldable pub begins_run : ℕ → List Elem → Bool
begins_run k [] = false
begins_run k (nul ∷ es) = false
begins_run k (val v ∷ es) = leb k (run_of v es + 1)

-- "some run of at least k adjacent valid equal elements, where a null ends a run"
unfoldable pub some_run : ℕ → List Elem → Bool
some_run k [] = false
some_run k (e ∷ es) = begins_run k (e ∷ es) || some_run k es

-- "Grade 0: null row. 1: no valid element. 2: some run of at least k adjacent valid equal elements, where a null ends a run. 3: all else. A row
-- takes the lowest grade that fits."
unfoldable pub grade_of : ℕ → Row → ℕ
grade_of k null_row = 0
grade_of k (list_row es) = pick (not (any is_val es)) 1 (pick (some_run k es) 2 3)

-- "one grade byte a row"
abbrev pub grades_of : ℕ → List Row → List ℕ
grades_of k ws = map (grade_of k) ws

-- "Answers: 12, k is 0, tested before any other refusal." "A grade slice shorter than the first list's rows gives 9 right after 12": ws are the
-- first list's rows and g is the length of the grade slice; 0 where neither applies
unfoldable pub grade_refusal : ℕ → List Row → ℕ → ℕ
grade_refusal k ws g = pick (eqb k 0) 12 (pick (ltb g (length ws)) 9 0)

-- what is graded comes to x by itself: the column, or "a recipe, whose result it grades"
unfoldable pub graded : ℕ → List Row → ℕ → Outcome (List Row) → Outcome (List Row)
graded k ws g x = gate (grade_refusal k ws g) x

-- a column graded, on the rows that it shows, and on the column lent: 12 and 9, then its own refusals 13, 1 and 2
unfoldable pub grade_shown : ℕ → List Row → ℕ → Outcome (List Row)
grade_shown k ws g = graded k ws g (made ws)

unfoldable pub grade_outcome : ℕ → Column → ℕ → Outcome (List Row)
grade_outcome k c g = graded k (rows_of c) g (gate (columns_refusal (c ∷ []) []) (made (rows_of c)))

-- "A recipe graded .. moves the tally .. as its run would; 12 and a short grade slice change neither tally nor output": m is what the run does to
-- the tally
unfoldable pub graded_move : ℕ → List Row → ℕ → Move → Move
graded_move k ws g m = pick (eqb (grade_refusal k ws g) 0) m nobody
