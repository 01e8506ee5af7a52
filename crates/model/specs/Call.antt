-- Any call, what it ends in, and when two calls are alike.
use Rattle.std.specs.Prelude.{ℕ, Bool, true, false, not, ◌&&◌, List, [], ◌∷◌, map, ◌≡◌, length, replicate, ℤ, pos, ltb, eqb}
use Rattle.model.specs.Basics.{Lent, absent, given, All}
use Rattle.model.specs.Limits.{Limits}
use Rattle.model.specs.Column.{Elem, Row, Column, Arguments, rows_of, shown_by, WellFormed, WellFormedᵃ, EqualRows, EqualArguments}
use Rattle.model.specs.View.{View, ViewRoom, view_rows, view_offsets, view_sizes, WellFormedᵛ, EqualViews, import_shown, import_outcome, export_shown, export_outcome}
use Rattle.model.specs.Hash.{Hashed, distinct_of, set_of, on_hashed, lists_hashed, hashed_shown, hashed_outcome}
use Rattle.model.specs.Form.{Room, ValueRoom, RepeatRoom, Outer, is_outer, outer_length, inner, flat, offsets_from, form_offsets, form_rows, form_values, form_elements, null_rows, null_elems}
use Rattle.model.specs.Bitmap.{bit, pack, nulls}
use Rattle.model.specs.Rows.{ListCall, unary, set_op_call, slice, resize, replace, remove, on_call, lists_in, arguments_in}
use Rattle.model.specs.Outcome.{Outcome, refused, made, list_outcome, list_shown, any_value_outcome, any_value_shown, element_outcome, element_shown, repeat_outcome, repeat_shown}
use Rattle.model.specs.Recipe.{Recipe, recipe_outcome, recipe_shown, stationed}
use Rattle.model.specs.Window.{window_outcome, window_shown}
use Rattle.model.specs.Tally.{Tally, Move, nobody, move_of, tallied, moved}
use Rattle.model.specs.Grade.{grades_of, grade_refusal, graded, grade_shown, grade_outcome, graded_move}
use Rattle.model.specs.Lengths.{TrayLimits, list_lengths, list_lengths_shown, any_value_lengths, any_value_lengths_shown, element_lengths, element_lengths_shown, repeat_lengths, repeat_lengths_shown, recipe_limits, recipe_limits_shown}
use Rattle.model.specs.declared.Unary.{Unary}
use Rattle.model.specs.declared.SetOp.{SetOp}

-- a call: its operation with the lists and argument columns it takes, the lengths lent for results and trays, and a recipe's
-- station and tally
pub data Call (C A W : Type 0) : Type 0 where
  list : ListCall C A → Room → Call C A W
  any_value : C → ValueRoom → Call C A W
  element : C → A → ValueRoom → Call C A W
  list_repeat : C → A → RepeatRoom → Call C A W
  -- station, recipe, first list, second list, argument columns, tray one, tray two, output
  recipe : ℕ → Recipe → C → C → A → Room → Room → Room → Tally → Call C A W
  -- how much to lend: what a list operation, any-value, element and list-repeat need, and a recipe's limits
  measure_list : ListCall C A → Call C A W
  measure_any_value : C → Call C A W
  measure_element : C → A → Call C A W
  measure_repeat : C → A → Call C A W
  limit_recipe : Recipe → C → C → A → Call C A W
  -- a recipe looked at for rows a up to b: the recipe, a, b, then as a recipe without station and tally
  window : Recipe → ℕ → ℕ → C → C → A → Room → Room → Room → Call C A W
  -- a ListView column read into a list column, and a list column written as one
  import_view : W → Room → Call C A W
  export_view : C → ViewRoom → Call C A W
  -- a list column graded, by k into a slice of g grades, and a recipe whose result is graded
  grade_column : ℕ → C → ℕ → Call C A W
  grade_recipe : ℕ → ℕ → Recipe → C → C → A → Room → Room → Room → ℕ → Tally → Call C A W
  -- distinct, union or intersect with a work area of so many slots
  hashed : Hashed C → ℕ → Room → Call C A W

-- what is shown of a call
unfoldable pub shown : Call Column Arguments View → Call (List Row) (List Elem) (List Row)
shown (list q l) = list (on_call rows_of shown_by q) l
shown (any_value c l) = any_value (rows_of c) l
shown (element c a l) = element (rows_of c) (shown_by a) l
shown (list_repeat c a l) = list_repeat (rows_of c) (shown_by a) l
shown (recipe s p c d e a b o t) = recipe s p (rows_of c) (rows_of d) (shown_by e) a b o t
shown (measure_list q) = measure_list (on_call rows_of shown_by q)
shown (measure_any_value c) = measure_any_value (rows_of c)
shown (measure_element c a) = measure_element (rows_of c) (shown_by a)
shown (measure_repeat c a) = measure_repeat (rows_of c) (shown_by a)
shown (limit_recipe p c d e) = limit_recipe p (rows_of c) (rows_of d) (shown_by e)
shown (window p x y c d e a b o) = window p x y (rows_of c) (rows_of d) (shown_by e) a b o
shown (import_view v l) = import_view (view_rows v) l
shown (export_view c l) = export_view (rows_of c) l
shown (grade_column k c g) = grade_column k (rows_of c) g
shown (grade_recipe k s p c d e a b o g t) = grade_recipe k s p (rows_of c) (rows_of d) (shown_by e) a b o g t
shown (hashed h n l) = hashed (on_hashed rows_of h) n l

unfoldable pub lists_of : {C A W : Type 0} → Call C A W → List C
lists_of (list q l) = lists_in q
lists_of (any_value c l) = c ∷ []
lists_of (element c a l) = c ∷ []
lists_of (list_repeat c a l) = c ∷ []
lists_of (recipe s p c d e a b o t) = c ∷ d ∷ []
lists_of (measure_list q) = lists_in q
lists_of (measure_any_value c) = c ∷ []
lists_of (measure_element c a) = c ∷ []
lists_of (measure_repeat c a) = c ∷ []
lists_of (limit_recipe p c d e) = c ∷ d ∷ []
lists_of (window p x y c d e a b o) = c ∷ d ∷ []
lists_of (import_view v l) = []
lists_of (export_view c l) = c ∷ []
lists_of (grade_column k c g) = c ∷ []
lists_of (grade_recipe k s p c d e a b o g t) = c ∷ d ∷ []
lists_of (hashed h n l) = lists_hashed h

unfoldable pub arguments_of : {C A W : Type 0} → Call C A W → List A
arguments_of (list q l) = arguments_in q
arguments_of (any_value c l) = []
arguments_of (element c a l) = a ∷ []
arguments_of (list_repeat c a l) = a ∷ []
arguments_of (recipe s p c d e a b o t) = e ∷ []
arguments_of (measure_list q) = arguments_in q
arguments_of (measure_any_value c) = []
arguments_of (measure_element c a) = a ∷ []
arguments_of (measure_repeat c a) = a ∷ []
arguments_of (limit_recipe p c d e) = e ∷ []
arguments_of (window p x y c d e a b o) = e ∷ []
arguments_of (import_view v l) = []
arguments_of (export_view c l) = []
arguments_of (grade_column k c g) = []
arguments_of (grade_recipe k s p c d e a b o g t) = e ∷ []
arguments_of (hashed h n l) = []

unfoldable pub views_of : {C A W : Type 0} → Call C A W → List W
views_of (list q l) = []
views_of (any_value c l) = []
views_of (element c a l) = []
views_of (list_repeat c a l) = []
views_of (recipe s p c d e a b o t) = []
views_of (measure_list q) = []
views_of (measure_any_value c) = []
views_of (measure_element c a) = []
views_of (measure_repeat c a) = []
views_of (limit_recipe p c d e) = []
views_of (window p x y c d e a b o) = []
views_of (import_view v l) = v ∷ []
views_of (export_view c l) = []
views_of (grade_column k c g) = []
views_of (grade_recipe k s p c d e a b o g t) = []
views_of (hashed h n l) = []

-- an answer: the number of a refusal, or all counts
pub data Answer : Type 0 where
  refusal : ℕ → Answer
  counts : List ℕ → Answer

-- "An accepted list answer holds the row and element counts and the number of null rows and of null elements"
abbrev pub list_counts : List Row → List ℕ
list_counts ws = length ws ∷ length (flat ws) ∷ null_rows ws ∷ null_elems (flat ws) ∷ []

-- "a value answer, the first and third"
abbrev pub value_counts : List Elem → List ℕ
value_counts es = length es ∷ null_elems es ∷ []

-- "List-repeat's adds the inner row count and the number of null inner rows."
abbrev pub repeat_counts : List Outer → List ℕ
repeat_counts os =
    length os ∷ length (flat (inner os)) ∷ nulls (map is_outer os) ∷ null_elems (flat (inner os)) ∷ length (inner os) ∷ null_rows (inner os) ∷ []

-- "An accepted column answers its row count."
abbrev pub row_counts : List Row → List ℕ
row_counts ws = length ws ∷ []

-- a measure's counts are the lengths that are needed, slice by slice, and a recipe's limits those of tray one, tray two and the output
abbrev pub room_counts : Room → List ℕ
room_counts l = l.offsets ∷ l.rows ∷ l.values ∷ l.elements ∷ []

abbrev pub value_room_counts : ValueRoom → List ℕ
value_room_counts l = l.values ∷ l.rows ∷ []

abbrev pub repeat_room_counts : RepeatRoom → List ℕ
repeat_room_counts l = l.outer-offsets ∷ l.outer_rows ∷ room_counts l.lists

abbrev pub limit_counts : TrayLimits → List ℕ
limit_counts m = m.one ∷ m.two ∷ m.output ∷ []

-- the answer of an outcome
unfoldable pub answer_of : {A : Type 0} → (A → List ℕ) → Outcome A → Answer
answer_of f (refused k) = refusal k
answer_of f (made a) = counts (f a)

-- "The written results are the slots of each output slice before those; a refused call has none."
unfoldable pub written : {A B : Type 0} → (A → List B) → Outcome A → List B
written f (refused k) = []
written f (made a) = f a

-- what a call ends in: the answer; the written results, in slices of numbers and bitmaps; a recipe's trays, all their slots; its tally; the
-- grades written; and a work area, all its slots
pub record End : Type 0 where
  pub answer : Answer
  pub numbers : List (List ℤ)
  pub bitmaps : List (List ℕ)
  pub tray_numbers : List (List ℤ)
  pub tray_bitmaps : List (List ℕ)
  pub tally : Lent Tally
  pub grades : List ℕ
  pub area : Lent (List ℕ)

-- an operation's end: no trays, no tally, no grades, no work area
abbrev pub operation_end : Answer → List (List ℤ) → List (List ℕ) → End
operation_end a ns bs = record { answer = a; numbers = ns; bitmaps = bs; tray_numbers = []; tray_bitmaps = []; tally = absent; grades = []; area = absent }

unfoldable pub list_numbers : Outcome (List Row) → List (List ℤ)
list_numbers x = written form_offsets x ∷ written (λ ws. form_values (flat ws)) x ∷ []

unfoldable pub list_bitmaps : Outcome (List Row) → List (List ℕ)
list_bitmaps x = written form_rows x ∷ written (λ ws. form_elements (flat ws)) x ∷ []

unfoldable pub list_end : Outcome (List Row) → End
list_end x = operation_end (answer_of list_counts x) (list_numbers x) (list_bitmaps x)

unfoldable pub value_end : Outcome (List Elem) → End
value_end x = operation_end (answer_of value_counts x) (written form_values x ∷ []) (written form_elements x ∷ [])

unfoldable pub repeat_end : Outcome (List Outer) → End
repeat_end x =
    operation_end (answer_of repeat_counts x)
    (written (λ os. offsets_from 0 (map outer_length os)) x ∷ written (λ os. form_offsets (inner os)) x ∷ written (λ os. form_values (flat (inner os))) x ∷ [])
    (written (λ os. pack (map is_outer os)) x ∷ written (λ os. form_rows (inner os)) x ∷ written (λ os. form_elements (flat (inner os))) x ∷ [])

-- "Trays are all zero after any call.": of a call that comes to x, and t is the tally after it
unfoldable pub trays_end : Outcome (List Row) → Room → Room → Lent Tally → End
trays_end x a b t =
    record {
      answer = answer_of list_counts x;
      numbers = list_numbers x;
      bitmaps = list_bitmaps x;
      tray_numbers = replicate a.offsets (pos 0) ∷ replicate a.values (pos 0) ∷ replicate b.offsets (pos 0) ∷ replicate b.values (pos 0) ∷ [];
      tray_bitmaps = replicate a.rows 0 ∷ replicate a.elements 0 ∷ replicate b.rows 0 ∷ replicate b.elements 0 ∷ [];
      tally = t;
      grades = [];
      area = absent;
    }

-- of a call that names station s
unfoldable pub recipe_end : ℕ → Outcome (List Row) → Room → Room → Tally → End
recipe_end s x a b t = trays_end x a b (given (tallied s x t))

-- "It names no station, moves no tally, and trays end as zeros."
unfoldable pub window_end : Outcome (List Row) → Room → Room → End
window_end x a b = trays_end x a b absent

-- "without writing a result", and limits "move no tally"
abbrev pub measure_end : Answer → End
measure_end a = operation_end a [] []

-- a view written: its offsets, sizes and values, and the two bitmaps
unfoldable pub view_end : Outcome (List Row) → End
view_end x =
    operation_end (answer_of list_counts x) (written view_offsets x ∷ written view_sizes x ∷ written (λ ws. form_values (flat ws)) x ∷ [])
    (list_bitmaps x)

-- grades alone
abbrev pub grades_end : Answer → List ℕ → End
grades_end a g = record { answer = a; numbers = []; bitmaps = []; tray_numbers = []; tray_bitmaps = []; tally = absent; grades = g; area = absent }

-- a column graded by k: "one grade byte a row"
unfoldable pub grade_end : ℕ → Outcome (List Row) → End
grade_end k x = grades_end (answer_of row_counts x) (written (grades_of k) x)

-- "A recipe graded answers, moves the tally and leaves its output as its run would": a recipe of station s, on rows ws, whose run comes to x,
-- graded by k into a slice of g grades
unfoldable pub graded_end : ℕ → List Row → ℕ → ℕ → Outcome (List Row) → Room → Room → Tally → End
graded_end k ws g s x a b t =
    let y = recipe_end s (graded k ws g x) a b t in
    record {
      answer = y.answer;
      numbers = y.numbers;
      bitmaps = y.bitmaps;
      tray_numbers = y.tray_numbers;
      tray_bitmaps = y.tray_bitmaps;
      tally = given (moved (graded_move k ws g (move_of s x)) t);
      grades = written (grades_of k) (graded k ws g x);
      area = absent;
    }

-- "each is zero after every call": of a work area of so many slots
unfoldable pub hashed_end : Outcome (List Row) → ℕ → End
hashed_end x n = record { answer = answer_of list_counts x; numbers = list_numbers x; bitmaps = list_bitmaps x; tray_numbers = []; tray_bitmaps = []; tally = absent; grades = []; area = given (replicate n 0) }

-- what a call ends in, from the columns lent: contracts name the same outcomes
unfoldable pub end : Limits → Call Column Arguments View → End
end L (list q l) = list_end (list_outcome L q l)
end L (any_value c l) = value_end (any_value_outcome c l)
end L (element c a l) = value_end (element_outcome L c a l)
end L (list_repeat c a l) = repeat_end (repeat_outcome L c a l)
end L (recipe s p c d e a b o t) = recipe_end s (stationed s (recipe_outcome L p c d e a b o)) a b t
end L (measure_list q) = measure_end (answer_of room_counts (list_lengths L q))
end L (measure_any_value c) = measure_end (answer_of value_room_counts (any_value_lengths c))
end L (measure_element c a) = measure_end (answer_of value_room_counts (element_lengths L c a))
end L (measure_repeat c a) = measure_end (answer_of repeat_room_counts (repeat_lengths L c a))
end L (limit_recipe p c d e) = measure_end (answer_of limit_counts (recipe_limits L p c d e))
end L (window p x y c d e a b o) = window_end (window_outcome L p x y c d e a b o) a b
end L (import_view v l) = list_end (import_outcome L v l)
end L (export_view c l) = view_end (export_outcome c l)
end L (grade_column k c g) = grade_end k (grade_outcome k c g)
end L (grade_recipe k s p c d e a b o g t) = graded_end k (rows_of c) g s (stationed s (recipe_outcome L p c d e a b o)) a b t
end L (hashed h n l) = hashed_end (hashed_outcome L h n l) n

-- what the definitions give from what is shown alone
unfoldable pub end_shown : Limits → Call (List Row) (List Elem) (List Row) → End
end_shown L (list q l) = list_end (list_shown L q l)
end_shown L (any_value ws l) = value_end (any_value_shown ws l)
end_shown L (element ws is l) = value_end (element_shown L ws is l)
end_shown L (list_repeat ws ns l) = repeat_end (repeat_shown L ws ns l)
end_shown L (recipe s p ws rs es a b o t) = recipe_end s (stationed s (recipe_shown L p ws rs es a b o)) a b t
end_shown L (measure_list q) = measure_end (answer_of room_counts (list_lengths_shown L q))
end_shown L (measure_any_value ws) = measure_end (answer_of value_room_counts (any_value_lengths_shown ws))
end_shown L (measure_element ws is) = measure_end (answer_of value_room_counts (element_lengths_shown L ws is))
end_shown L (measure_repeat ws ns) = measure_end (answer_of repeat_room_counts (repeat_lengths_shown L ws ns))
end_shown L (limit_recipe p ws rs es) = measure_end (answer_of limit_counts (recipe_limits_shown L p ws rs es))
end_shown L (window p x y ws rs es a b o) = window_end (window_shown L p x y ws rs es a b o) a b
end_shown L (import_view ws l) = list_end (import_shown L ws l)
end_shown L (export_view ws l) = view_end (export_shown ws l)
end_shown L (grade_column k ws g) = grade_end k (grade_shown k ws g)
end_shown L (grade_recipe k s p ws rs es a b o g t) = graded_end k ws g s (stationed s (recipe_shown L p ws rs es a b o)) a b t
end_shown L (hashed h n l) = hashed_end (hashed_shown L h n l) n

-- "If they start from well-formed columns"
pub record Formed (q : Call Column Arguments View) : Type 0 where
  pub lists : All WellFormed (lists_of q)
  pub arguments : All WellFormedᵃ (arguments_of q)
  pub views : All WellFormedᵛ (views_of q)

-- equally many argument columns, and equal ones
pub data SameLent : Lent Arguments → Lent Arguments → Type 0 where
  same_absent : SameLent absent absent
  same_given : {a b : Arguments} → EqualArguments a b → SameLent (given a) (given b)

-- one operation, on lists that show equal rows and equal arguments
pub data SameCall : ListCall Column Arguments → ListCall Column Arguments → Type 0 where
  same_unary : {c d : Column} (k : Unary) → EqualRows c d → SameCall (unary k c) (unary k d)
  same_set_op : {c d c' d' : Column} (k : SetOp) → EqualRows c c' → EqualRows d d' → SameCall (set_op_call k c d) (set_op_call k c' d')
  same_slice : {c d : Column} {a a' b b' : Arguments} {s s' : Lent Arguments} → EqualRows c d → EqualArguments a a' → EqualArguments b b' → SameLent s s' → SameCall (slice c a b s) (slice d a' b' s')
  same_resize : {c d : Column} {a a' : Arguments} {s s' : Lent Arguments} → EqualRows c d → EqualArguments a a' → SameLent s s' → SameCall (resize c a s) (resize d a' s')
  same_replace : {c d : Column} {a a' b b' n n' : Arguments} → EqualRows c d → EqualArguments a a' → EqualArguments b b' → EqualArguments n n' → SameCall (replace c a b n) (replace d a' b' n')
  same_remove : {c d : Column} {a a' n n' : Arguments} → EqualRows c d → EqualArguments a a' → EqualArguments n n' → SameCall (remove c a n) (remove d a' n')

-- the same of an operation with a work area
pub data SameHashed : Hashed Column → Hashed Column → Type 0 where
  same_distinct_of : {c d : Column} → EqualRows c d → SameHashed (distinct_of c) (distinct_of d)
  same_set_of : {c d c' d' : Column} (k : SetOp) → EqualRows c c' → EqualRows d d' → SameHashed (set_of k c d) (set_of k c' d')

-- two runs of one operation or one recipe on columns "that show equal rows, with equal arguments, equal slice lengths lent for
-- results and trays and an equal tally"; the two runs name "the same" station; "two runs are lent equally long work areas"
pub data Alike : Call Column Arguments View → Call Column Arguments View → Type 0 where
  alike_list : {q q' : ListCall Column Arguments} (l : Room) → SameCall q q' → Alike (list q l) (list q' l)
  alike_any_value : {c d : Column} (l : ValueRoom) → EqualRows c d → Alike (any_value c l) (any_value d l)
  alike_element : {c d : Column} {a b : Arguments} (l : ValueRoom) → EqualRows c d → EqualArguments a b → Alike (element c a l) (element d b l)
  alike_list_repeat : {c d : Column} {a b : Arguments} (l : RepeatRoom) → EqualRows c d → EqualArguments a b → Alike (list_repeat c a l) (list_repeat d b l)
  alike_recipe : {c c' d d' : Column} {e e' : Arguments} (s : ℕ) (p : Recipe) (a b o : Room) (t : Tally) → EqualRows c c' → EqualRows d d' → EqualArguments e e' → Alike (recipe s p c d e a b o t) (recipe s p c' d' e' a b o t)
  alike_measure_list : {q q' : ListCall Column Arguments} → SameCall q q' → Alike (measure_list q) (measure_list q')
  alike_measure_any_value : {c d : Column} → EqualRows c d → Alike (measure_any_value c) (measure_any_value d)
  alike_measure_element : {c d : Column} {a b : Arguments} → EqualRows c d → EqualArguments a b → Alike (measure_element c a) (measure_element d b)
  alike_measure_repeat : {c d : Column} {a b : Arguments} → EqualRows c d → EqualArguments a b → Alike (measure_repeat c a) (measure_repeat d b)
  alike_limit_recipe : {c c' d d' : Column} {e e' : Arguments} (p : Recipe) → EqualRows c c' → EqualRows d d' → EqualArguments e e' → Alike (limit_recipe p c d e) (limit_recipe p c' d' e')
  alike_window : {c c' d d' : Column} {e e' : Arguments} (p : Recipe) (x y : ℕ) (a b o : Room) → EqualRows c c' → EqualRows d d' → EqualArguments e e' → Alike (window p x y c d e a b o) (window p x y c' d' e' a b o)
  alike_import : {v w : View} (l : Room) → EqualViews v w → Alike (import_view v l) (import_view w l)
  alike_export : {c d : Column} (l : ViewRoom) → EqualRows c d → Alike (export_view c l) (export_view d l)
  alike_grade_column : {c d : Column} (k g : ℕ) → EqualRows c d → Alike (grade_column k c g) (grade_column k d g)
  alike_grade_recipe : {c c' d d' : Column} {e e' : Arguments} (k s : ℕ) (p : Recipe) (a b o : Room) (g : ℕ) (t : Tally) → EqualRows c c' → EqualRows d d' → EqualArguments e e'
      → Alike (grade_recipe k s p c d e a b o g t) (grade_recipe k s p c' d' e' a b o g t)
  alike_hashed : {h h' : Hashed Column} (n : ℕ) (l : Room) → SameHashed h h' → Alike (hashed h n l) (hashed h' n l)

-- the tally that a call takes
unfoldable pub tally_taken : {C A W : Type 0} → Call C A W → Lent Tally
tally_taken (list q l) = absent
tally_taken (any_value c l) = absent
tally_taken (element c a l) = absent
tally_taken (list_repeat c a l) = absent
tally_taken (recipe s p c d e a b o t) = given t
tally_taken (measure_list q) = absent
tally_taken (measure_any_value c) = absent
tally_taken (measure_element c a) = absent
tally_taken (measure_repeat c a) = absent
tally_taken (limit_recipe p c d e) = absent
tally_taken (window p x y c d e a b o) = absent
tally_taken (import_view v l) = absent
tally_taken (export_view c l) = absent
tally_taken (grade_column k c g) = absent
tally_taken (grade_recipe k s p c d e a b o g t) = given t
tally_taken (hashed h n l) = absent

-- what a call does to it
unfoldable pub move_in : Limits → Call Column Arguments View → Move
move_in L (list q l) = nobody
move_in L (any_value c l) = nobody
move_in L (element c a l) = nobody
move_in L (list_repeat c a l) = nobody
move_in L (recipe s p c d e a b o t) = move_of s (stationed s (recipe_outcome L p c d e a b o))
move_in L (measure_list q) = nobody
move_in L (measure_any_value c) = nobody
move_in L (measure_element c a) = nobody
move_in L (measure_repeat c a) = nobody
move_in L (limit_recipe p c d e) = nobody
move_in L (window p x y c d e a b o) = nobody
move_in L (import_view v l) = nobody
move_in L (export_view c l) = nobody
move_in L (grade_column k c g) = nobody
move_in L (grade_recipe k s p c d e a b o g t) = graded_move k (rows_of c) g (move_of s (stationed s (recipe_outcome L p c d e a b o)))
move_in L (hashed h n l) = nobody

-- does a call name one of the sixteen stations; "gradings refused by 12 or for their grade slice, are left out"
unfoldable pub names_station : Call Column Arguments View → Bool
names_station (list q l) = false
names_station (any_value c l) = false
names_station (element c a l) = false
names_station (list_repeat c a l) = false
names_station (recipe s p c d e a b o t) = not (ltb 15 s)
names_station (measure_list q) = false
names_station (measure_any_value c) = false
names_station (measure_element c a) = false
names_station (measure_repeat c a) = false
names_station (limit_recipe p c d e) = false
names_station (window p x y c d e a b o) = false
names_station (import_view v l) = false
names_station (export_view c l) = false
names_station (grade_column k c g) = false
names_station (grade_recipe k s p c d e a b o g t) = not (ltb 15 s) && eqb (grade_refusal k (rows_of c) g) 0
names_station (hashed h n l) = false

unfoldable pub accepted : Answer → Bool
accepted (refusal k) = false
accepted (counts ns) = true

-- "the calls made, split by outcome; calls naming no such station .. are left out": 1 for a call that was accepted, and for one that was refused
abbrev pub finished_by : Limits → Call Column Arguments View → ℕ
finished_by L q = bit (names_station q && accepted (end L q).answer)

abbrev pub refused_by : Limits → Call Column Arguments View → ℕ
refused_by L q = bit (names_station q && not (accepted (end L q).answer))

-- calls of recipes, "each call takes the tally the last one gave": the first takes t, the last gives u
pub data Chain (L : Limits) : Tally → List (Call Column Arguments View) → Tally → Type 0 where
  none : {t : Tally} → Chain L t [] t
  next : {q : Call Column Arguments View} {qs : List (Call Column Arguments View)} {t t' u : Tally}
      → tally_taken q ≡ given t → (end L q).tally ≡ given t' → Chain L t' qs u → Chain L t (q ∷ qs) u
