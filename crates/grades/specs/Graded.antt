-- What a graded recipe comes to, and what it leaves of the tally, at 32 bits: k and the grade slice, then a recipe's parts in the order of `recipe_lent`.
use Rattle.std.specs.Prelude.{ℕ, List, ℤ, length}
use Rattle.model.specs.Column.{Column, Row, rows_of}
use Rattle.model.specs.Contract.{MutSlice}
use Rattle.model.specs.Form.{Room}
use Rattle.model.specs.Grade.{graded, graded_move}
use Rattle.model.specs.Limits.{narrow}
use Rattle.model.specs.Outcome.{Outcome}
use Rattle.model.specs.Tally.{Tally, moved, move_of}
use Rattle.column.specs.Columns.{column_in}
use Rattle.column.specs.declared.lists.ListColumn.{ListColumn}
use Rattle.recipe_refusal.specs.declared.Inputs.{Inputs}
use Rattle.recipe_refusal.specs.declared.Recipe.{Recipe}
use Rattle.recipes.specs.Recipes.{recipe_lent}

-- offsets of 32 bits are the numbers that they hold
abbrev pub numbers : List ℤ → List ℤ
numbers l = l

abbrev pub column_of : ListColumn ℤ → Column
column_of c = column_in numbers c

abbrev pub graded_lent : ℕ → MutSlice ℕ → ℕ → Recipe → Inputs ℤ → Room → Room → Room → Outcome (List Row)
graded_lent k g s p i a b l = graded k (rows_of (column_of i.list)) (length g.entry.now) (recipe_lent numbers narrow s p i a b l)

-- t is the tally that goes in
abbrev pub graded_tally : ℕ → MutSlice ℕ → ℕ → Recipe → Inputs ℤ → Room → Room → Room → Tally → Tally
graded_tally k g s p i a b l t =
    moved (graded_move k (rows_of (column_of i.list)) (length g.entry.now) (move_of s (recipe_lent numbers narrow s p i a b l))) t
