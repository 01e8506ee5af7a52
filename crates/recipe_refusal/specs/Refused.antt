-- What refuses a recipe before its steps.
use Rattle.std.specs.Prelude.{ℕ, List, [], ◌∷◌}
use Rattle.model.specs.Basics.{pick}
use Rattle.model.specs.Column.{Column, Arguments, rows_of, shown_by}
use Rattle.model.specs.Outcome.{columns_refusal}
use Rattle.model.specs.Recipe.{Recipe, malformed, recipe_unequal}
use Rattle.model.specs.Refusals.{or_else}
use Rattle.recipe_refusal.specs.declared.Recipe as D

abbrev pub recipe : List ℕ → ℕ → Recipe
recipe ns k = record { numbers = ns; columns = k }

-- a recipe that is lent: a `requires` says `recipe_in recipe`, an `ensures` says `recipe_in recipe.entry`
abbrev pub recipe_in : D.Recipe → Recipe
recipe_in p = recipe p.numbers.now p.columns

-- "10 before all else, for a malformed recipe; then 1, 2, 3"; 13 "after 10 and before 1"
unfoldable pub recipe_refusal : Recipe → Column → Column → Arguments → ℕ
recipe_refusal p c d e = pick (malformed p) 10 (or_else (columns_refusal (c ∷ d ∷ []) (e ∷ [])) (pick (recipe_unequal p.columns (rows_of c) (rows_of d) (shown_by e)) 3 0))
