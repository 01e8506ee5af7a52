-- What a call comes to: the number of a refusal, or the rows made; on what is shown, and on the columns lent.
use Rattle.std.specs.Prelude.{ℕ, ◌||◌, List, [], ◌∷◌, map, length, eqb}
use Rattle.model.specs.Basics.{pick, tab, any}
use Rattle.model.specs.Limits.{Limits}
use Rattle.model.specs.Column.{Elem, Row, Column, Arguments, rows_of, shown_by, refusal13, refusal13ᵃ, refusal1, refusal2, refusal2ᵃ}
use Rattle.model.specs.Form.{Room, ValueRoom, RepeatRoom, Outer, flat, fits_in, fits_values, fits_repeat}
use Rattle.model.specs.Rows.{ListCall, on_call, lists_in, arguments_in, rows_made, row_of, argument_of, any_value_of, element_of, repeat_of}
use Rattle.model.specs.Refusals.{or_else, differs, unequal, first_of, rows_refusal, element_refusal, repeat_refusal}

-- the number of a refusal, or what was made
pub data Outcome (A : Type 0) : Type 0 where
  refused : ℕ → Outcome A
  made : A → Outcome A

-- a refusal's number before what a call comes to without it; 0 is none
unfoldable pub gate : {A : Type 0} → ℕ → Outcome A → Outcome A
gate k o = pick (eqb k 0) o (refused k)

-- "Every operation first gives 1 .., list by list; then 2"; "13, a starting bit over 7, .. before 1": of any column, before 1 of any
unfoldable pub columns_refusal : List Column → List Arguments → ℕ
columns_refusal cs es = pick (any refusal13 cs || any refusal13ᵃ es) 13 (pick (any refusal1 cs) 1 (pick (any refusal2 cs || any refusal2ᵃ es) 2 0))

-- "Last is 9"
unfoldable pub fitted : List Row → Room → Outcome (List Row)
fitted ws l = pick (fits_in (length ws) (length (flat ws)) l) (made ws) (refused 9)

unfoldable pub fitted_values : List Elem → ValueRoom → Outcome (List Elem)
fitted_values es l = pick (fits_values (length es) l) (made es) (refused 9)

unfoldable pub fitted_repeat : List Outer → RepeatRoom → Outcome (List Outer)
fitted_repeat os l = pick (fits_repeat os l) (made os) (refused 9)

-- what a list operation does after 3; a recipe's step is this
unfoldable pub after_three : Limits → ListCall (List Row) (List Elem) → Room → Outcome (List Row)
after_three L q l = gate (rows_refusal L q) (fitted (rows_made L q) l)

-- the operations on what is shown
unfoldable pub list_shown : Limits → ListCall (List Row) (List Elem) → Room → Outcome (List Row)
list_shown L q l = gate (pick (unequal q) 3 0) (after_three L q l)

-- any-value: 9 alone
unfoldable pub any_value_shown : List Row → ValueRoom → Outcome (List Elem)
any_value_shown ws l = fitted_values (map any_value_of ws) l

-- the elements that the indexes name, and what refuses them
unfoldable pub elements_made : List Row → List Elem → List Elem
elements_made ws is = tab (λ r. element_of (row_of ws r) (argument_of is r)) 0 (length ws)

unfoldable pub elements_refusal : Limits → List Row → List Elem → ℕ
elements_refusal L ws is = first_of (tab (λ r. element_refusal L (row_of ws r) (argument_of is r)) 0 (length ws))

-- element: 3, then 4 by the first row that has it, then 9
unfoldable pub element_shown : Limits → List Row → List Elem → ValueRoom → Outcome (List Elem)
element_shown L ws is l = gate (pick (differs (length ws) is) 3 0) (gate (elements_refusal L ws is) (fitted_values (elements_made ws is) l))

-- the outer rows
unfoldable pub repeats_made : List Row → List Elem → List Outer
repeats_made ws ns = tab (λ r. repeat_of (row_of ws r) (argument_of ns r)) 0 (length ws)

-- list-repeat: 3, then 8, then 9
unfoldable pub repeat_shown : Limits → List Row → List Elem → RepeatRoom → Outcome (List Outer)
repeat_shown L ws ns l = gate (pick (differs (length ws) ns) 3 0) (gate (repeat_refusal L ws ns) (fitted_repeat (repeats_made ws ns) l))

-- the operations on the columns lent: 13, 1 and 2, and then what is shown decides
unfoldable pub list_outcome : Limits → ListCall Column Arguments → Room → Outcome (List Row)
list_outcome L q l = gate (columns_refusal (lists_in q) (arguments_in q)) (list_shown L (on_call rows_of shown_by q) l)

-- all that comes before a list operation's rows: 13, 1 and 2, then 3
unfoldable pub early_refusal : ListCall Column Arguments → ℕ
early_refusal q = or_else (columns_refusal (lists_in q) (arguments_in q)) (pick (unequal (on_call rows_of shown_by q)) 3 0)

unfoldable pub any_value_outcome : Column → ValueRoom → Outcome (List Elem)
any_value_outcome c l = gate (columns_refusal (c ∷ []) []) (any_value_shown (rows_of c) l)

unfoldable pub element_outcome : Limits → Column → Arguments → ValueRoom → Outcome (List Elem)
element_outcome L c a l = gate (columns_refusal (c ∷ []) (a ∷ [])) (element_shown L (rows_of c) (shown_by a) l)

unfoldable pub repeat_outcome : Limits → Column → Arguments → RepeatRoom → Outcome (List Outer)
repeat_outcome L c a l = gate (columns_refusal (c ∷ []) (a ∷ [])) (repeat_shown L (rows_of c) (shown_by a) l)
