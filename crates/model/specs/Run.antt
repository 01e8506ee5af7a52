-- A run of a call: what a public function's contract says of its answer and its slices, and what the run ends in, read off that
-- answer and the slices as the function returns.
use Rattle.std.specs.Prelude.{Ok, Err, ℕ, ◌+◌, List, [], ◌∷◌, take, ℤ, ◌≡◌}
use Rattle.model.specs.Basics.{Lent, absent, given}
use Rattle.model.specs.Bitmap.{bytes_for}
use Rattle.model.specs.Limits.{Limits}
use Rattle.model.specs.Column.{Column, Arguments, rows_of}
use Rattle.model.specs.View.{View, ViewRoom, import_outcome, export_outcome}
use Rattle.model.specs.Hash.{Hashed, hashed_outcome}
use Rattle.model.specs.Form.{Room, ValueRoom, RepeatRoom}
use Rattle.model.specs.Rows.{ListCall}
use Rattle.model.specs.Outcome.{list_outcome, any_value_outcome, element_outcome, repeat_outcome}
use Rattle.model.specs.Call.{Call, list, any_value, element, list_repeat, recipe, measure_list, measure_any_value, measure_element, measure_repeat, limit_recipe, window, import_view, export_view, End, refusal, counts, operation_end, measure_end, grade_column, grade_recipe, grades_end, hashed}
use Rattle.model.specs.Contract.{ListMeets, ViewMeets, ValueMeets, RepeatMeets, Zeroed, told_lengths, told_value_lengths, told_repeat_lengths, told_limits, ListMeasures, ValueMeasures, RepeatMeasures, RecipeLimited, GradeMeets, Grades, HashMeets}
use Rattle.model.specs.Lengths.{list_lengths, any_value_lengths, element_lengths, repeat_lengths, recipe_limits}
use Rattle.model.specs.Recipe.{Recipe, recipe_outcome, stationed}
use Rattle.model.specs.Window.{window_outcome}
use Rattle.model.specs.Tally.{Tally, tallied, moved, move_of}
use Rattle.model.specs.Grade.{graded, grade_outcome, graded_move}
use Rattle.model.specs.Answers.{number_of, ListAnswer, GradeAnswer, RepeatAnswer, ValueAnswer, ListLengths, RecipeLimits, RepeatLengths, ValueLengths}

-- "The written results are the slots of each output slice before those; a refused call has none.": as many slots of the offsets,
-- row bitmap, values and element bitmap as the answer counts
unfoldable pub list_run_end : ListAnswer → List ℤ → List ℕ → List ℤ → List ℕ → End
list_run_end (Err k) o r v e = operation_end (refusal (number_of k)) ([] ∷ [] ∷ []) ([] ∷ [] ∷ [])
list_run_end (Ok c) o r v e =
    operation_end (counts (c.rows ∷ c.elements ∷ c.null_rows ∷ c.null_elements ∷ [])) (take (c.rows + 1) o ∷ take c.elements v ∷ []) (take (bytes_for c.rows) r ∷ take (bytes_for c.elements) e ∷ [])

unfoldable pub value_run_end : ValueAnswer → List ℤ → List ℕ → End
value_run_end (Err k) v r = operation_end (refusal (number_of k)) ([] ∷ []) ([] ∷ [])
value_run_end (Ok c) v r = operation_end (counts (c.rows ∷ c.null_rows ∷ [])) (take c.rows v ∷ []) (take (bytes_for c.rows) r ∷ [])

unfoldable pub repeat_run_end : RepeatAnswer → List ℤ → List ℕ → List ℤ → List ℕ → List ℤ → List ℕ → End
repeat_run_end (Err k) o r io ir v e = operation_end (refusal (number_of k)) ([] ∷ [] ∷ [] ∷ []) ([] ∷ [] ∷ [] ∷ [])
repeat_run_end (Ok c) o r io ir v e =
    operation_end (counts (c.rows ∷ c.elements ∷ c.null_rows ∷ c.null_elements ∷ c.inner_rows ∷ c.null_inner_rows ∷ [])) (take (c.rows + 1) o ∷ take (c.inner_rows + 1) io ∷ take c.elements v ∷ []) (take (bytes_for c.rows) r ∷ take (bytes_for c.inner_rows) ir ∷ take (bytes_for c.elements) e ∷ [])

-- a view's: its offsets, sizes and values, and the two bitmaps
unfoldable pub view_run_end : ListAnswer → List ℤ → List ℤ → List ℕ → List ℤ → List ℕ → End
view_run_end (Err k) o s r v e = operation_end (refusal (number_of k)) ([] ∷ [] ∷ [] ∷ []) ([] ∷ [] ∷ [])
view_run_end (Ok c) o s r v e =
    operation_end (counts (c.rows ∷ c.elements ∷ c.null_rows ∷ c.null_elements ∷ [])) (take c.rows o ∷ take c.rows s ∷ take c.elements v ∷ []) (take (bytes_for c.rows) r ∷ take (bytes_for c.elements) e ∷ [])

-- a recipe's: the list answer and output, then the trays, all their slots, and the tally that came back, if one did
unfoldable pub recipe_run_end : ListAnswer → List ℤ → List ℕ → List ℤ → List ℕ → List ℤ → List ℕ → List ℤ → List ℕ → List ℤ → List ℕ → List ℤ → List ℕ → Lent Tally → End
recipe_run_end a o r v e ao ar av ae bo br bv be t =
    let l = list_run_end a o r v e in
    record {
      answer = l.answer;
      numbers = l.numbers;
      bitmaps = l.bitmaps;
      tray_numbers = ao ∷ av ∷ bo ∷ bv ∷ [];
      tray_bitmaps = ar ∷ ae ∷ br ∷ be ∷ [];
      tally = t;
      grades = [];
      area = absent;
    }

-- a graded column's: as many grades as its answer counts rows
unfoldable pub grade_run_end : GradeAnswer → List ℕ → End
grade_run_end (Err k) g = grades_end (refusal (number_of k)) []
grade_run_end (Ok n) g = grades_end (counts (n ∷ [])) (take n g)

-- a graded recipe's: its recipe's, and as many grades as its answer counts rows
unfoldable pub grades_taken : ListAnswer → List ℕ → List ℕ
grades_taken (Err k) g = []
grades_taken (Ok c) g = take c.rows g

unfoldable pub graded_run_end : ListAnswer → List ℤ → List ℕ → List ℤ → List ℕ → List ℤ → List ℕ → List ℤ → List ℕ → List ℤ → List ℕ → List ℤ → List ℕ → Tally → List ℕ → End
graded_run_end a o r v e ao ar av ae bo br bv be t g =
    let y = recipe_run_end a o r v e ao ar av ae bo br bv be (given t) in
    record {
      answer = y.answer;
      numbers = y.numbers;
      bitmaps = y.bitmaps;
      tray_numbers = y.tray_numbers;
      tray_bitmaps = y.tray_bitmaps;
      tally = y.tally;
      grades = grades_taken a g;
      area = absent;
    }

-- the list answer and output of an operation with a work area, and that area, all its slots
unfoldable pub hashed_run_end : ListAnswer → List ℤ → List ℕ → List ℤ → List ℕ → List ℕ → End
hashed_run_end a o r v e w =
    let l = list_run_end a o r v e in
    record { answer = l.answer; numbers = l.numbers; bitmaps = l.bitmaps; tray_numbers = []; tray_bitmaps = []; tally = absent; grades = []; area = given w }

-- a run of a call that ended so: the contract of its function holds of it
pub data Run (L : Limits) : Call Column Arguments View → End → Type 0 where
  list_run : {q : ListCall Column Arguments} {l : Room} {a : ListAnswer} {o o' : List ℤ} {r r' : List ℕ} {v v' : List ℤ} {e e' : List ℕ}
      → ListMeets (list_outcome L q l) a o o' r r' v v' e e' → Run L (list q l) (list_run_end a o' r' v' e')
  any_value_run : {c : Column} {l : ValueRoom} {a : ValueAnswer} {v v' : List ℤ} {r r' : List ℕ}
      → ValueMeets (any_value_outcome c l) a v v' r r' → Run L (any_value c l) (value_run_end a v' r')
  element_run : {c : Column} {x : Arguments} {l : ValueRoom} {a : ValueAnswer} {v v' : List ℤ} {r r' : List ℕ}
      → ValueMeets (element_outcome L c x l) a v v' r r' → Run L (element c x l) (value_run_end a v' r')
  repeat_run : {c : Column} {x : Arguments} {l : RepeatRoom} {a : RepeatAnswer} {o o' : List ℤ} {r r' : List ℕ} {io io' : List ℤ} {ir ir' : List ℕ} {v v' : List ℤ} {e e' : List ℕ}
      → RepeatMeets (repeat_outcome L c x l) a o o' r r' io io' ir ir' v v' e e' → Run L (list_repeat c x l) (repeat_run_end a o' r' io' ir' v' e')
  recipe_run : {s : ℕ} {p : Recipe} {c d : Column} {x : Arguments} {l m n : Room} {t t' : Tally} {a : ListAnswer} {o o' : List ℤ} {r r' : List ℕ} {v v' : List ℤ} {e e' : List ℕ} {ao : List ℤ} {ar : List ℕ} {av : List ℤ} {ae : List ℕ} {bo : List ℤ} {br : List ℕ} {bv : List ℤ} {be : List ℕ}
      → ListMeets (stationed s (recipe_outcome L p c d x l m n)) a o o' r r' v v' e e' → Zeroed l ao ar av ae → Zeroed m bo br bv be → t' ≡ tallied s (stationed s (recipe_outcome L p c d x l m n)) t
      → Run L (recipe s p c d x l m n t) (recipe_run_end a o' r' v' e' ao ar av ae bo br bv be (given t'))
  -- a measure writes nothing: its answer is all that its run ends in
  measure_list_run : {q : ListCall Column Arguments} {a : ListLengths} → ListMeasures (list_lengths L q) a → Run L (measure_list q) (measure_end (told_lengths a))
  measure_any_value_run : {c : Column} {a : ValueLengths} → ValueMeasures (any_value_lengths c) a → Run L (measure_any_value c) (measure_end (told_value_lengths a))
  measure_element_run : {c : Column} {x : Arguments} {a : ValueLengths} → ValueMeasures (element_lengths L c x) a → Run L (measure_element c x) (measure_end (told_value_lengths a))
  measure_repeat_run : {c : Column} {x : Arguments} {a : RepeatLengths} → RepeatMeasures (repeat_lengths L c x) a → Run L (measure_repeat c x) (measure_end (told_repeat_lengths a))
  limit_recipe_run : {p : Recipe} {c d : Column} {x : Arguments} {a : RecipeLimits} → RecipeLimited (recipe_limits L p c d x) a → Run L (limit_recipe p c d x) (measure_end (told_limits a))
  window_run : {p : Recipe} {x y : ℕ} {c d : Column} {z : Arguments} {l m n : Room} {a : ListAnswer} {o o' : List ℤ} {r r' : List ℕ} {v v' : List ℤ} {e e' : List ℕ} {ao : List ℤ} {ar : List ℕ} {av : List ℤ} {ae : List ℕ} {bo : List ℤ} {br : List ℕ} {bv : List ℤ} {be : List ℕ}
      → ListMeets (window_outcome L p x y c d z l m n) a o o' r r' v v' e e' → Zeroed l ao ar av ae → Zeroed m bo br bv be
      → Run L (window p x y c d z l m n) (recipe_run_end a o' r' v' e' ao ar av ae bo br bv be absent)
  import_run : {c : View} {l : Room} {a : ListAnswer} {o o' : List ℤ} {r r' : List ℕ} {v v' : List ℤ} {e e' : List ℕ}
      → ListMeets (import_outcome L c l) a o o' r r' v v' e e' → Run L (import_view c l) (list_run_end a o' r' v' e')
  export_run : {c : Column} {l : ViewRoom} {a : ListAnswer} {o o' s s' : List ℤ} {r r' : List ℕ} {v v' : List ℤ} {e e' : List ℕ}
      → ViewMeets (export_outcome c l) a o o' s s' r r' v v' e e' → Run L (export_view c l) (view_run_end a o' s' r' v' e')
  grade_column_run : {k : ℕ} {c : Column} {j : ℕ} {a : GradeAnswer} {g g' : List ℕ} → GradeMeets k (grade_outcome k c j) a g g' → Run L (grade_column k c j) (grade_run_end a g')
  -- a graded recipe, the grades at entry and at exit being g and g', of which j are lent
  grade_recipe_run : {k s : ℕ} {p : Recipe} {c d : Column} {x : Arguments} {l m n : Room} {j : ℕ} {t t' : Tally} {a : ListAnswer} {o o' : List ℤ} {r r' : List ℕ} {v v' : List ℤ} {e e' : List ℕ} {ao : List ℤ} {ar : List ℕ} {av : List ℤ} {ae : List ℕ} {bo : List ℤ} {br : List ℕ} {bv : List ℤ} {be : List ℕ} {g g' : List ℕ}
      → ListMeets (graded k (rows_of c) j (stationed s (recipe_outcome L p c d x l m n))) a o o' r r' v v' e e' → Zeroed l ao ar av ae → Zeroed m bo br bv be
      → t' ≡ moved (graded_move k (rows_of c) j (move_of s (stationed s (recipe_outcome L p c d x l m n)))) t → Grades k (graded k (rows_of c) j (stationed s (recipe_outcome L p c d x l m n))) g g'
      → Run L (grade_recipe k s p c d x l m n j t) (graded_run_end a o' r' v' e' ao ar av ae bo br bv be t' g')
  hashed_run : {h : Hashed Column} {n : ℕ} {l : Room} {a : ListAnswer} {o o' : List ℤ} {r r' : List ℕ} {v v' : List ℤ} {e e' w : List ℕ}
      → HashMeets (hashed_outcome L h n l) n a o o' r r' v v' e e' w → Run L (hashed h n l) (hashed_run_end a o' r' v' e' w)
