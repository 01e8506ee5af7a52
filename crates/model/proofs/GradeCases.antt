-- Grades by examples, two theorems over tables: rows and their grades, and what refuses a column that is graded.
use Prim.Native.Nat.{ℕ}
use mathlib.Core.Path.{◌≡◌, refl}
use mathlib.Core.List.{List, [], ◌∷◌, map}
use lib.IntN.{ℤ, pos, negsuc}
use Rattle.model.specs.Basics.{tab, any}
use Rattle.model.specs.Limits.{narrow}
use Rattle.model.specs.Bitmap.{from, valid_at, short_bits}
use Rattle.model.specs.Column.{Elem, nul, val, Row, null_row, list_row, Column, column, count, elem_at, row_at, rows_of, falls, bad_offsets, refusal13, refusal2}
use Rattle.model.specs.Form.{is_val, under_null}
use Rattle.model.specs.Elements.{eq_z}
use Rattle.model.specs.Outcome.{gate, columns_refusal}
use Rattle.model.specs.Grade.{run_of, begins_run, some_run, grade_of, grade_refusal, graded, grade_outcome}
use Rattle.model.specs.Call.{grade_column, Answer, refusal, counts, answer_of, written, end, grade_end}
use Rattle.model.proofs.Cases.{lists}

-- a row graded by k
pub record Graded : Type 0 where
  pub k : ℕ
  pub row : Row
  pub grade : ℕ

abbrev grades : ℕ → List Elem → ℕ → Graded
grades k es g = record { k = k; row = list_row es; grade = g }

abbrev four : Elem
four = val (pos 4)

pub table : List Graded
table =
    record { k = 3; row = null_row; grade = 0 }
    -- no valid element: an empty row, and one of nulls
    ∷ grades 3 [] 1
    ∷ grades 1 (nul ∷ nul ∷ []) 1
    -- a null ends a run
    ∷ grades 3 (four ∷ four ∷ nul ∷ four ∷ []) 3
    ∷ grades 3 (four ∷ nul ∷ four ∷ four ∷ four ∷ []) 2
    -- at least k
    ∷ grades 3 (four ∷ four ∷ []) 3
    ∷ grades 3 (four ∷ four ∷ four ∷ four ∷ []) 2
    -- adjacent
    ∷ grades 2 (four ∷ val (pos 5) ∷ four ∷ val (pos 5) ∷ []) 3
    ∷ grades 2 (four ∷ val (pos 5) ∷ val (pos 5) ∷ []) 2
    -- 1 is reached by any valid element
    ∷ grades 1 (nul ∷ four ∷ []) 2
    ∷ grades 18446744073709551615 (four ∷ []) 3
    -- the number that a null slot holds, as a level
    ∷ grades 2 (val under_null ∷ nul ∷ val under_null ∷ []) 3
    ∷ grades 2 (val (negsuc 3) ∷ val (negsuc 3) ∷ []) 2
    ∷ []

pub row_grades : map (λ (x : Graded). grade_of x.k x.row) table ≡ map (λ (x : Graded). x.grade) table
unfolding table grade_of some_run begins_run run_of any is_val eq_z
row_grades = refl

-- a column graded by k into a slice of g grades, and its answer and grades
pub record GradedColumn : Type 0 where
  pub k : ℕ
  pub list : Column
  pub g : ℕ
  pub answers : Answer
  pub grades : List ℕ

abbrev refuses : ℕ → Column → ℕ → ℕ → GradedColumn
refuses k c g n = record { k = k; list = c; g = g; answers = refusal n; grades = [] }

-- falling offsets, and a starting bit of 9
abbrev worst : Column
worst = column (pos 3 ∷ pos 2 ∷ []) (from 9 []) [] (from 0 [])

-- [4,4], null, []: the null row lies over 4, 4
abbrev three : Column
three = lists (0 ∷ 2 ∷ 4 ∷ 4 ∷ []) (5 ∷ []) (4 ∷ 4 ∷ 4 ∷ 4 ∷ []) []

pub columns : List GradedColumn
columns =
    -- 12 before all else, 9 right after it, then 13, 1 and 2
    refuses 0 worst 0 12
    ∷ refuses 1 worst 0 9
    ∷ refuses 1 worst 1 13
    ∷ refuses 1 (lists (3 ∷ 2 ∷ []) [] [] []) 1 1
    ∷ refuses 1 (lists (0 ∷ 1 ∷ []) [] (1 ∷ 1 ∷ 1 ∷ 1 ∷ 1 ∷ 1 ∷ 1 ∷ 1 ∷ 1 ∷ []) (255 ∷ [])) 1 2
    -- no offsets are no rows
    ∷ record { k = 1; list = lists [] [] [] []; g = 0; answers = counts (0 ∷ []); grades = [] }
    ∷ record { k = 2; list = three; g = 3; answers = counts (3 ∷ []); grades = 2 ∷ 0 ∷ 1 ∷ [] }
    ∷ []

abbrev answered : GradedColumn → Answer
answered x = (end narrow (grade_column x.k x.list x.g)).answer

abbrev writes : GradedColumn → List ℕ
writes x = (end narrow (grade_column x.k x.list x.g)).grades

pub column-grades : (map answered columns ≡ map (λ (x : GradedColumn). x.answers) columns) × (map writes columns ≡ map (λ (x : GradedColumn). x.grades) columns)
unfolding columns end grade_end grade_outcome graded grade_refusal gate answer_of written columns_refusal
    grade_of some_run begins_run run_of any is_val eq_z
    tab valid_at short_bits count elem_at row_at rows_of falls bad_offsets refusal13 refusal2
column-grades = (refl, refl)
