-- What a recipe comes to for a station.
use Rattle.std.specs.Prelude.{ℕ, List, ℤ}
use Rattle.model.specs.Column.{Row}
use Rattle.model.specs.Form.{Room}
use Rattle.model.specs.Limits.{Limits}
use Rattle.model.specs.Outcome.{Outcome}
use Rattle.model.specs.Recipe.{recipe_outcome, stationed}
use Rattle.column.specs.Columns.{column_in, values_in}
use Rattle.recipe_refusal.specs.Refused.{recipe_in}
use Rattle.recipe_refusal.specs.declared.Inputs.{Inputs}
use Rattle.recipe_refusal.specs.declared.Recipe.{Recipe}

-- for the lengths of tray one, tray two and the output: numbers are those of the offsets, then what their width decides, the station, and the
-- recipe and its inputs as the call begins
abbrev pub recipe_lent : {A : Type 0} → (List A → List ℤ) → Limits → ℕ → Recipe → Inputs A → Room → Room → Room → Outcome (List Row)
recipe_lent numbers L station p i l m n =
    stationed station (recipe_outcome L (recipe_in p) (column_in numbers i.list) (column_in numbers i.second) (values_in i.arguments) l m n)
