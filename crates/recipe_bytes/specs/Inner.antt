-- What the inner functions ask of their callers and promise them.
use Rattle.std.specs.Prelude.{ℕ, ◌/◌, ◌≤◌, ◌≡◌, List, ltb}
use Rattle.model.specs.Basics.{pick}
use Rattle.entry.specs.Entry.{most_offsets, most_values}
use Rattle.entry.specs.Inner.{ListFits}

-- how many of a recipe's numbers are decoded, of those in so many bytes: more than a recipe may have, so that a longer one is malformed still
abbrev pub most_numbers : ℕ
most_numbers = 132

unfoldable pub numbers_taken : ℕ → ℕ
numbers_taken bytes = pick (ltb most_numbers (bytes / 4)) most_numbers (bytes / 4)

-- the most argument values that the entry takes, in the code's array
abbrev pub most_arguments : ℕ
most_arguments = 32768

-- the arrays have places for the numbers in so many bytes of two lists' offsets and values, and of argument values
pub record InputsFit (o v so sv a : ℕ) : Type 0 where
  pub list : ListFits o v most_offsets most_values
  pub second : ListFits so sv most_offsets most_values
  pub arguments : a / 8 ≤ most_arguments

-- and for the numbers of two trays
pub record TraysFit (ho hv io iv : ℕ) : Type 0 where
  pub one-offsets : ho ≤ most_offsets
  pub one-values : hv ≤ most_values
  pub two-offsets : io ≤ most_offsets
  pub two-values : iv ≤ most_values
