-- How a clause of an entry names what flat slices and numbers come to: for the lengths of tray one, tray two and the output, what a recipe does
-- on a list, a second list and its argument columns.
use Rattle.std.specs.Prelude.{ℕ, List, ℤ, length}
use Rattle.model.specs.Column.{Arguments, Column, Row, rows_of}
use Rattle.model.specs.Contract.{MutSlice, Slice}
use Rattle.model.specs.Form.{Room}
use Rattle.model.specs.Grade.{graded, graded_move}
use Rattle.model.specs.Inner.{lent_bits}
use Rattle.model.specs.Limits.{Limits, narrow}
use Rattle.model.specs.Outcome.{Outcome}
use Rattle.model.specs.Recipe.{Recipe, recipe_outcome, stationed}
use Rattle.model.specs.Tally.{Tally, moved, move_of}
use Rattle.model.specs.View.{View, view}
use Rattle.model.specs.Window.{window_outcome}

-- what the width of the offsets decides, and the station
abbrev pub recipe_lent : Limits → ℕ → Recipe → Column → Column → Arguments → Room → Room → Room → Outcome (List Row)
recipe_lent L s p c d e a b l = stationed s (recipe_outcome L p c d e a b l)

-- looked at from row x up to, not including, row y
abbrev pub window_lent : Limits → ℕ → ℕ → Recipe → Column → Column → Arguments → Room → Room → Room → Outcome (List Row)
window_lent L x y p c d e a b l = window_outcome L p x y c d e a b l

-- graded by k into a slice g
abbrev pub graded_lent : ℕ → MutSlice ℕ → ℕ → Recipe → Column → Column → Arguments → Room → Room → Room → Outcome (List Row)
graded_lent k g s p c d e a b l = graded k (rows_of c) (length g.entry.now) (recipe_lent narrow s p c d e a b l)

-- and what that leaves of the tally t that goes in
abbrev pub graded_tally : ℕ → MutSlice ℕ → ℕ → Recipe → Column → Column → Arguments → Room → Room → Room → Tally → Tally
graded_tally k g s p c d e a b l t = moved (graded_move k (rows_of c) (length g.entry.now) (move_of s (recipe_lent narrow s p c d e a b l))) t

-- a ListView column: offsets, sizes, row bitmap and its first bit, values, element bitmap and its first bit
abbrev pub lent_view : Slice ℤ → Slice ℤ → Slice ℕ → ℕ → Slice ℤ → Slice ℕ → ℕ → View
lent_view o z r i v e j = view o.entry.now z.entry.now (lent_bits r i) v.entry.now (lent_bits e j)
