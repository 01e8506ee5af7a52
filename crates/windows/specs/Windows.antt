-- What a recipe looked at for a few rows comes to.
use Rattle.std.specs.Prelude.{ℕ, List, ℤ}
use Rattle.model.specs.Column.{Row}
use Rattle.model.specs.Form.{Room}
use Rattle.model.specs.Limits.{Limits}
use Rattle.model.specs.Outcome.{Outcome}
use Rattle.model.specs.Window.{window_outcome}
use Rattle.column.specs.Columns.{column_in, values_in}
use Rattle.recipe_refusal.specs.Refused.{recipe_in}
use Rattle.recipe_refusal.specs.declared.Inputs.{Inputs}
use Rattle.recipe_refusal.specs.declared.Recipe.{Recipe}

-- for the lengths of tray one, tray two and the output: numbers are those of the offsets, then what their width decides, the first row and the
-- one after the last, and the recipe and its inputs as the call begins
abbrev pub window_lent : {A : Type 0} → (List A → List ℤ) → Limits → ℕ → ℕ → Recipe → Inputs A → Room → Room → Room → Outcome (List Row)
window_lent numbers L x y p i l m n =
    window_outcome L (recipe_in p) x y (column_in numbers i.list) (column_in numbers i.second) (values_in i.arguments) l m n
