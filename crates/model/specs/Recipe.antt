-- Recipes, which the port adds: a chain of list operations through two lent trays. A recipe and a tray are
-- terms of the rules; the tally stands in Tally.antt.
use Rattle.std.specs.Prelude.{ℕ, ◌+◌, ◌*◌, ◌/◌, ◌%◌, Bool, not, ◌||◌, List, [], ◌∷◌, length, get_or, ltb, leb, eqb}
use Rattle.model.specs.Basics.{pick, tab, any, absent, given}
use Rattle.model.specs.Limits.{Limits}
use Rattle.model.specs.Column.{Elem, nul, Row, Column, Arguments, rows_of, shown_by}
use Rattle.model.specs.Form.{Room}
use Rattle.model.specs.Rows.{ListCall, unary, set_op_call, slice, resize, replace, remove}
use Rattle.model.specs.Outcome.{Outcome, refused, made, gate, columns_refusal, fitted, after_three}
use Rattle.model.specs.declared.Unary.TheVariants.{Reverse, Distinct, PopFront, PopBack}
use Rattle.model.specs.declared.SetOp.TheVariants.{Union, Intersect}

-- "steps of four unsigned 32-bit numbers: code, then three argument-column numbers, counted from 0"
pub record Step : Type 0 where
  pub code : ℕ
  pub first : ℕ
  pub second : ℕ
  pub third : ℕ

-- a recipe's own numbers, and how many argument columns the call is lent
pub record Recipe : Type 0 where
  pub numbers : List ℕ
  pub columns : ℕ

-- step k, from its four numbers
abbrev pub step_at : List ℕ → ℕ → Step
step_at ns k = record { code = get_or ns (4 * k) 0; first = get_or ns (4 * k + 1) 0; second = get_or ns (4 * k + 2) 0; third = get_or ns (4 * k + 3) 0 }

unfoldable pub steps_of : List ℕ → List Step
steps_of ns = tab (step_at ns) 0 (length ns / 4)

-- "4 slice (from, to, stride), 5 slice without stride, 6 resize (count, fill), 7 replace (from, to, limit), 8 remove (element, limit)"
unfoldable pub columns_of : ℕ → ℕ
columns_of code = get_or (0 ∷ 0 ∷ 0 ∷ 0 ∷ 3 ∷ 2 ∷ 2 ∷ 3 ∷ 2 ∷ 0 ∷ 0 ∷ []) code 0

-- "a used column that isn't there, an unused number not 0"
unfoldable pub wrong_number : ℕ → Bool → ℕ → Bool
wrong_number columns used k = pick used (leb columns k) (not (eqb k 0))

-- a step by itself: "code over 10", or one of its three numbers is wrong
unfoldable pub wrong_step : ℕ → Step → Bool
wrong_step columns s =
    ltb 10 s.code
    || wrong_number columns (ltb 0 (columns_of s.code)) s.first
    || wrong_number columns (ltb 1 (columns_of s.code)) s.second
    || wrong_number columns (ltb 2 (columns_of s.code)) s.third

-- "Malformed: length not a multiple of 4, over 32 steps, code over 10, over eight columns, a used column that isn't there, an unused number not 0."
unfoldable pub malformed : Recipe → Bool
malformed p =
    not (eqb (length p.numbers % 4) 0) || ltb 32 (length p.numbers / 4) || ltb 8 p.columns || any (wrong_step p.columns) (steps_of p.numbers)

-- argument column k of n rows: "one after another in one value slice"
abbrev pub column_of : List Elem → ℕ → ℕ → List Elem
column_of es n k = tab (λ r. get_or es (k * n + r) nul) 0 n

-- "Codes: 0 reverse, 1 distinct, 2 pop front, 3 pop back, 4 slice .., 9 union, 10 intersect." (A code over 10 is refused before.) The table
-- serves the run, on rows, and its limits, on numbers of elements.
unfoldable pub code_call : {C A : Type 0} → ℕ → C → C → A → A → A → ListCall C A
code_call code ws rs a b c =
    get_or
    (unary Reverse ws
    ∷ unary Distinct ws
    ∷ unary PopFront ws
    ∷ unary PopBack ws
    ∷ slice ws a b (given c)
    ∷ slice ws a b absent
    ∷ resize ws a (given b)
    ∷ replace ws a b c
    ∷ remove ws a b
    ∷ set_op_call Union ws rs
    ∷ set_op_call Intersect ws rs
    ∷ [])
    code (unary Reverse ws)

-- "Each step takes the carried rows, its argument columns and, for codes 9 and 10, the second list's rows.": col gives an argument column by its number
abbrev pub step_call : Step → List Row → List Row → (ℕ → List Elem) → ListCall (List Row) (List Elem)
step_call s ws rs col = code_call s.code ws rs (col s.first) (col s.second) (col s.third)

unfoldable pub then_on : {A B : Type 0} → Outcome A → (A → Outcome B) → Outcome B
then_on (refused k) f = refused k
then_on (made a) f = f a

-- "Steps 1, 3, 5.. write tray one, 2, 4, 6.. tray two, the last the output": the steps from s on, on the carried rows ws; s
-- writes tray a unless it is the last, and the step after it tray b
unfoldable pub carried : Limits → Step → List Step → List Row → List Row → (ℕ → List Elem) → Room → Room → Room → Outcome (List Row)
carried L s [] ws rs col a b o = after_three L (step_call s ws rs col) o
carried L s (t ∷ ts) ws rs col a b o = then_on (after_three L (step_call s ws rs col) a) (λ ws'. carried L t ts ws' rs col b a o)

-- "no steps copies the column into result form, or gives 9 for the output"
unfoldable pub stepped : Limits → List Step → List Row → List Row → (ℕ → List Elem) → Room → Room → Room → Outcome (List Row)
stepped L [] ws rs col a b o = fitted ws o
stepped L (s ∷ ss) ws rs col a b o = carried L s ss ws rs col a b o

-- "unequal row counts, or a wrong argument length, give 3"
unfoldable pub recipe_unequal : ℕ → List Row → List Row → List Elem → Bool
recipe_unequal columns ws rs es = not (eqb (length ws) (length rs)) || not (eqb (length es) (columns * length ws))

-- a recipe that is not malformed, on what is shown: columns have as many rows as the second list rs, which 3 has made as many as the first list's
unfoldable pub formed_recipe : Limits → Recipe → List Row → List Row → List Elem → Room → Room → Room → Outcome (List Row)
formed_recipe L p ws rs es a b o = gate (pick (recipe_unequal p.columns ws rs es) 3 0) (stepped L (steps_of p.numbers) ws rs (column_of es (length rs)) a b o)

-- "The same as a definition, on well-formed columns."
unfoldable pub recipe_shown : Limits → Recipe → List Row → List Row → List Elem → Room → Room → Room → Outcome (List Row)
recipe_shown L p ws rs es a b o = gate (pick (malformed p) 10 0) (formed_recipe L p ws rs es a b o)

-- "10 before all else, for a malformed recipe; then 1, 2, 3"; 13 "after 10 and before 1"
unfoldable pub recipe_outcome : Limits → Recipe → Column → Column → Arguments → Room → Room → Room → Outcome (List Row)
recipe_outcome L p c d e a b o =
    gate (pick (malformed p) 10 0) (gate (columns_refusal (c ∷ d ∷ []) (e ∷ [])) (formed_recipe L p (rows_of c) (rows_of d) (shown_by e) a b o))

-- "Answers: 15, a station over 15; it precedes 10": before what the call comes to otherwise
unfoldable pub stationed : {A : Type 0} → ℕ → Outcome A → Outcome A
stationed s x = gate (pick (ltb 15 s) 15 0) x
