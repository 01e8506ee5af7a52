-- How a contract names a call: the outputs at entry and at exit. The columns that slices hold as the call begins are in Inner.
use Rattle.std.specs.Prelude.{Ok, Err, ℕ, ◌≡◌, List, [], ◌∷◌, map, length, replicate, ℤ, pos}
use Rattle.std.specs.Borrow.{Bor, MutBor}
use denote.Triple.Both.{Both}
use Rattle.model.specs.Bitmap.{pack}
use Rattle.model.specs.Column.{Elem, Row, Arguments}
use Rattle.model.specs.Form.{Room, ValueRoom, RepeatRoom, Outer, is_outer, outer_length, inner, flat, over, offsets_from, form_offsets, form_rows, form_values, form_elements}
use Rattle.model.specs.Outcome.{Outcome}
use Rattle.model.specs.Lengths.{TrayLimits}
use Rattle.model.specs.View.{ViewRoom, view_offsets, view_sizes}
use Rattle.model.specs.Grade.{grades_of}
use Rattle.model.specs.Call.{Answer, refusal, counts, answer_of, written, list_counts, value_counts, repeat_counts, row_counts, room_counts, value_room_counts, repeat_room_counts, limit_counts}
use Rattle.model.specs.Answers.{number_of, ListAnswer, GradeAnswer, RepeatAnswer, ValueAnswer, ListLengths, RecipeLimits, RepeatLengths, ValueLengths}

-- a slice that is read, at entry and at exit
abbrev pub Slice : Type 0 → Type 0
Slice A = Both (Bor (List A)) (Bor (List A))

-- a slice that is written
abbrev pub MutSlice : Type 0 → Type 0
MutSlice A = Both (MutBor (List A)) (MutBor (List A))

-- the number and the values for each case of an answer
unfoldable pub told : ListAnswer → Answer
told (Ok c) = counts (c.rows ∷ c.elements ∷ c.null_rows ∷ c.null_elements ∷ [])
told (Err k) = refusal (number_of k)

unfoldable pub told_value : ValueAnswer → Answer
told_value (Ok c) = counts (c.rows ∷ c.null_rows ∷ [])
told_value (Err k) = refusal (number_of k)

unfoldable pub told_repeat : RepeatAnswer → Answer
told_repeat (Ok c) = counts (c.rows ∷ c.elements ∷ c.null_rows ∷ c.null_elements ∷ c.inner_rows ∷ c.null_inner_rows ∷ [])
told_repeat (Err k) = refusal (number_of k)

unfoldable pub told_grade : GradeAnswer → Answer
told_grade (Ok rows) = counts (rows ∷ [])
told_grade (Err k) = refusal (number_of k)

-- the lengths of a measure, and a recipe's limits
unfoldable pub told_lengths : ListLengths → Answer
told_lengths (Ok l) = counts (l.offsets ∷ l.rows ∷ l.values ∷ l.elements ∷ [])
told_lengths (Err k) = refusal (number_of k)

unfoldable pub told_value_lengths : ValueLengths → Answer
told_value_lengths (Ok l) = counts (l.values ∷ l.rows ∷ [])
told_value_lengths (Err k) = refusal (number_of k)

unfoldable pub told_repeat_lengths : RepeatLengths → Answer
told_repeat_lengths (Ok l) = counts (l.offsets ∷ l.rows ∷ l.inner_offsets ∷ l.inner_rows ∷ l.values ∷ l.elements ∷ [])
told_repeat_lengths (Err k) = refusal (number_of k)

unfoldable pub told_limits : RecipeLimits → Answer
told_limits (Ok l) = counts (l.one ∷ l.two ∷ l.output ∷ [])
told_limits (Err k) = refusal (number_of k)

-- an output slice after the call: "Slots past the result keep their content.", and a refused call writes none
abbrev pub after : {A B : Type 0} → (A → List B) → Outcome A → List B → List B
after f x d = over (written f x) d

-- the lengths of four output slices
abbrev pub room : ℕ → ℕ → ℕ → ℕ → Room
room o r v e = record { offsets = o; rows = r; values = v; elements = e }

-- those that four slices have as the call begins
abbrev pub room_of : MutSlice ℤ → MutSlice ℕ → MutSlice ℤ → MutSlice ℕ → Room
room_of o r v e = room (length o.entry.now) (length r.entry.now) (length v.entry.now) (length e.entry.now)

abbrev pub value_room : ℕ → ℕ → ValueRoom
value_room v r = record { values = v; rows = r }

abbrev pub repeat_room : ℕ → ℕ → ℕ → ℕ → ℕ → ℕ → RepeatRoom
repeat_room o r io ir v e = record { outer-offsets = o; outer_rows = r; lists = room io ir v e }

abbrev pub repeat_room_of : MutSlice ℤ → MutSlice ℕ → MutSlice ℤ → MutSlice ℕ → MutSlice ℤ → MutSlice ℕ → RepeatRoom
repeat_room_of o r io ir v e = record { outer-offsets = length o.entry.now; outer_rows = length r.entry.now; lists = room_of io ir v e }

-- the answer and the four outputs, at entry and at exit, are those of the outcome
pub record ListMeets (x : Outcome (List Row)) (a : ListAnswer) (o o' : List ℤ) (r r' : List ℕ) (v v' : List ℤ) (e e' : List ℕ) : Type 0 where
  pub answer : told a ≡ answer_of list_counts x
  pub offsets : o' ≡ after form_offsets x o
  pub rows : r' ≡ after form_rows x r
  pub values : v' ≡ after (λ ws. form_values (flat ws)) x v
  pub elements : e' ≡ after (λ ws. form_elements (flat ws)) x e

pub record ValueMeets (x : Outcome (List Elem)) (a : ValueAnswer) (v v' : List ℤ) (r r' : List ℕ) : Type 0 where
  pub answer : told_value a ≡ answer_of value_counts x
  pub values : v' ≡ after form_values x v
  pub rows : r' ≡ after form_elements x r

-- outer offsets and rows, inner offsets and rows, values and elements
pub record RepeatMeets (x : Outcome (List Outer)) (a : RepeatAnswer) (o o' : List ℤ) (r r' : List ℕ) (io io' : List ℤ) (ir ir' : List ℕ) (v v' : List ℤ) (e e' : List ℕ) : Type 0 where
  pub answer : told_repeat a ≡ answer_of repeat_counts x
  pub offsets : o' ≡ after (λ os. offsets_from 0 (map outer_length os)) x o
  pub rows : r' ≡ after (λ os. pack (map is_outer os)) x r
  pub inner-offsets : io' ≡ after (λ os. form_offsets (inner os)) x io
  pub inner-rows : ir' ≡ after (λ os. form_rows (inner os)) x ir
  pub values : v' ≡ after (λ os. form_values (flat (inner os))) x v
  pub elements : e' ≡ after (λ os. form_elements (flat (inner os))) x e

-- the contract of a list operation: the answer and the outputs are what f gives for the lengths lent
abbrev pub ListAnswers : (Room → Outcome (List Row)) → ListAnswer → MutSlice ℤ → MutSlice ℕ → MutSlice ℤ → MutSlice ℕ → Type 0
ListAnswers f a o r v e =
    ListMeets (f (room_of o r v e)) a
    o.entry.now o.exit.now r.entry.now r.exit.now v.entry.now v.exit.now e.entry.now e.exit.now

-- the same with a work area, which had so many slots: they are 0 as the call returns
pub record HashMeets (x : Outcome (List Row)) (n : ℕ) (a : ListAnswer) (o o' : List ℤ) (r r' : List ℕ) (v v' : List ℤ) (e e' w : List ℕ) : Type 0 where
  pub list : ListMeets x a o o' r r' v v' e e'
  pub area : w ≡ replicate n 0

-- what f gives for the slots of the work area and the lengths lent
abbrev pub HashAnswers : (ℕ → Room → Outcome (List Row)) → ListAnswer → MutSlice ℤ → MutSlice ℕ → MutSlice ℤ → MutSlice ℕ → MutSlice ℕ → Type 0
HashAnswers f a o r v e w =
    HashMeets (f (length w.entry.now) (room_of o r v e)) (length w.entry.now) a
    o.entry.now o.exit.now r.entry.now r.exit.now v.entry.now v.exit.now e.entry.now e.exit.now w.exit.now

-- the contract of an operation that gives one value a row
abbrev pub ValueAnswers : (ValueRoom → Outcome (List Elem)) → ValueAnswer → MutSlice ℤ → MutSlice ℕ → Type 0
ValueAnswers f a v r =
    ValueMeets (f (value_room (length v.entry.now) (length r.entry.now))) a v.entry.now v.exit.now r.entry.now r.exit.now

-- the contract of list-repeat
abbrev pub RepeatAnswers : (RepeatRoom → Outcome (List Outer)) → RepeatAnswer → MutSlice ℤ → MutSlice ℕ → MutSlice ℤ → MutSlice ℕ → MutSlice ℤ → MutSlice ℕ → Type 0
RepeatAnswers f a o r io ir v e =
    RepeatMeets (f (repeat_room_of o r io ir v e)) a
    o.entry.now o.exit.now r.entry.now r.exit.now io.entry.now io.exit.now ir.entry.now ir.exit.now v.entry.now v.exit.now e.entry.now e.exit.now

-- "Trays are all zero after any call.": the four slices of a tray of these lengths, as the call returns
pub record Zeroed (l : Room) (o : List ℤ) (r : List ℕ) (v : List ℤ) (e : List ℕ) : Type 0 where
  pub offsets : o ≡ replicate l.offsets (pos 0)
  pub rows : r ≡ replicate l.rows 0
  pub values : v ≡ replicate l.values (pos 0)
  pub elements : e ≡ replicate l.elements 0

-- the same of slices that had those lengths as the call began
abbrev pub Clears : MutSlice ℤ → MutSlice ℕ → MutSlice ℤ → MutSlice ℕ → Type 0
Clears o r v e =
    Zeroed (room_of o r v e) o.exit.now r.exit.now v.exit.now e.exit.now

-- the contracts of the measures and of a recipe's limits: the answer is that of the outcome
pub record ListMeasures (x : Outcome Room) (a : ListLengths) : Type 0 where
  pub answer : told_lengths a ≡ answer_of room_counts x

pub record ValueMeasures (x : Outcome ValueRoom) (a : ValueLengths) : Type 0 where
  pub answer : told_value_lengths a ≡ answer_of value_room_counts x

pub record RepeatMeasures (x : Outcome RepeatRoom) (a : RepeatLengths) : Type 0 where
  pub answer : told_repeat_lengths a ≡ answer_of repeat_room_counts x

pub record RecipeLimited (x : Outcome TrayLimits) (a : RecipeLimits) : Type 0 where
  pub answer : told_limits a ≡ answer_of limit_counts x

-- the answer and the five outputs of a view, at entry and at exit, are those of the outcome
pub record ViewMeets (x : Outcome (List Row)) (a : ListAnswer) (o o' s s' : List ℤ) (r r' : List ℕ) (v v' : List ℤ) (e e' : List ℕ) : Type 0 where
  pub answer : told a ≡ answer_of list_counts x
  pub offsets : o' ≡ after view_offsets x o
  pub sizes : s' ≡ after view_sizes x s
  pub rows : r' ≡ after form_rows x r
  pub values : v' ≡ after (λ ws. form_values (flat ws)) x v
  pub elements : e' ≡ after (λ ws. form_elements (flat ws)) x e

abbrev pub view_room : ℕ → ℕ → ℕ → ℕ → ℕ → ViewRoom
view_room o s r v e = record { offsets = o; sizes = s; rows = r; values = v; elements = e }

-- the contract of export: the answer and the outputs are what f gives for the lengths lent
abbrev pub ViewAnswers : (ViewRoom → Outcome (List Row)) → ListAnswer → MutSlice ℤ → MutSlice ℤ → MutSlice ℕ → MutSlice ℤ → MutSlice ℕ → Type 0
ViewAnswers f a o s r v e =
    ViewMeets (f (view_room (length o.entry.now) (length s.entry.now) (length r.entry.now) (length v.entry.now) (length e.entry.now))) a
    o.entry.now o.exit.now s.entry.now s.exit.now r.entry.now r.exit.now v.entry.now v.exit.now e.entry.now e.exit.now

-- the grades by k, at entry and at exit, of what comes to x: those past the rows are kept, and a refusal writes none
pub record Grades (k : ℕ) (x : Outcome (List Row)) (g g' : List ℕ) : Type 0 where
  pub grades : g' ≡ after (grades_of k) x g

abbrev pub GradesLent : ℕ → Outcome (List Row) → MutSlice ℕ → Type 0
GradesLent k x g = Grades k x g.entry.now g.exit.now

-- the answer of a column graded by k, and its grades, are those of the outcome
pub record GradeMeets (k : ℕ) (x : Outcome (List Row)) (a : GradeAnswer) (g g' : List ℕ) : Type 0 where
  pub answer : told_grade a ≡ answer_of row_counts x
  pub grades : g' ≡ after (grades_of k) x g

-- the contract of grading a column: the answer and the grades are what f gives for the length lent
abbrev pub GradeAnswers : ℕ → (ℕ → Outcome (List Row)) → GradeAnswer → MutSlice ℕ → Type 0
GradeAnswers k f a g = GradeMeets k (f (length g.entry.now)) a g.entry.now g.exit.now
