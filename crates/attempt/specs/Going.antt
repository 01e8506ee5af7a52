-- A call that nothing refuses before its steps.
use Rattle.std.specs.Prelude.{ℕ, ◌≤◌, ◌≡◌, false, length}
use Rattle.model.specs.Column.{Column, Arguments, row_count}
use Rattle.model.specs.Recipe.{Recipe}
use Rattle.model.specs.Window.{no_window}
use Rattle.bitmap.specs.Push.{Covers}
use Rattle.column.specs.Put.{Readable}
use Rattle.recipe_refusal.specs.Refused.{recipe_refusal}

-- for rows x up to y: both lists have them, and all columns can be read
pub record Going (p : Recipe) (x y : ℕ) (c d : Column) (e : Arguments) : Type 0 where
  pub none : recipe_refusal p c d e ≡ 0
  pub window : no_window x y (row_count c.offsets) ≡ false
  pub begins : x ≤ y
  pub ends : y ≤ row_count c.offsets
  pub second-ends : y ≤ row_count d.offsets
  pub first : Readable c
  pub second : Readable d
  pub covers : Covers e.bits (length e.values)
