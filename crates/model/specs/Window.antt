-- Looking at a few rows: "The supervisor wants a recipe's result for rows a up to, not including, b."
use Rattle.std.specs.Prelude.{ℕ, ◌-◌, Bool, ◌||◌, List, [], ◌∷◌, ◌++◌, length, take, drop, ltb}
use Rattle.model.specs.Basics.{pick, tab}
use Rattle.model.specs.Limits.{Limits}
use Rattle.model.specs.Column.{Elem, Row, Column, Arguments, rows_of, shown_by}
use Rattle.model.specs.Form.{Room}
use Rattle.model.specs.Outcome.{Outcome, gate, columns_refusal}
use Rattle.model.specs.Recipe.{Recipe, column_of, malformed, recipe_unequal, recipe_shown}

-- "rows a up to, not including, b"
abbrev pub cut : {A : Type 0} → ℕ → ℕ → List A → List A
cut a b xs = take (b - a) (drop a xs)

-- lists one after another
unfoldable pub joined : {A : Type 0} → List (List A) → List A
joined [] = []
joined (x ∷ xs) = x ++ joined xs

-- "a copy that holds just these rows of .. all arguments": these rows of each of the columns of n rows, one after another
unfoldable pub cut_columns : ℕ → ℕ → ℕ → ℕ → List Elem → List Elem
cut_columns columns n a b es = joined (tab (λ k. cut a b (column_of es n k)) 0 columns)

-- "16, a greater than b or b above the rows"
unfoldable pub no_window : ℕ → ℕ → ℕ → Bool
no_window a b n = ltb b a || ltb n b

-- "The answer and output are those of the same recipe on a copy that holds just these rows of both lists and all arguments."
abbrev pub on_copy : Limits → Recipe → ℕ → ℕ → List Row → List Row → List Elem → Room → Room → Room → Outcome (List Row)
on_copy L p a b ws rs es l m o = recipe_shown L p (cut a b ws) (cut a b rs) (cut_columns p.columns (length ws) a b es) l m o

-- a recipe that is not malformed: 16 comes "after 3", which goes by all rows
unfoldable pub formed_window : Limits → Recipe → ℕ → ℕ → List Row → List Row → List Elem → Room → Room → Room → Outcome (List Row)
formed_window L p a b ws rs es l m o =
    gate (pick (recipe_unequal p.columns ws rs es) 3 0) (gate (pick (no_window a b (length ws)) 16 0) (on_copy L p a b ws rs es l m o))

unfoldable pub window_shown : Limits → Recipe → ℕ → ℕ → List Row → List Row → List Elem → Room → Room → Room → Outcome (List Row)
window_shown L p a b ws rs es l m o = gate (pick (malformed p) 10 0) (formed_window L p a b ws rs es l m o)

-- "Malformed columns are still refused.": the whole columns
unfoldable pub window_outcome : Limits → Recipe → ℕ → ℕ → Column → Column → Arguments → Room → Room → Room → Outcome (List Row)
window_outcome L p a b c d e l m o =
    gate (pick (malformed p) 10 0) (gate (columns_refusal (c ∷ d ∷ []) (e ∷ [])) (formed_window L p a b (rows_of c) (rows_of d) (shown_by e) l m o))
