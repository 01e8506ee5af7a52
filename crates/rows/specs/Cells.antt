-- The arguments of a row, as elements.
use Rattle.std.specs.Prelude.{Option, None, Some, ℤ}
use Rattle.model.specs.Column.{Elem, nul, val}

-- an argument of a row: a null or a value
abbrev pub Cell : Type 0
Cell = Option ℤ

-- what a row is filled with: nulls where no fill is lent, else the row's own
abbrev pub Fill : Type 0
Fill = Option (Option ℤ)

unfoldable pub elem_of : Cell → Elem
elem_of None = nul
elem_of (Some v) = val v

-- "absent or null fill gives nulls"
unfoldable pub fill_elem : Fill → Elem
fill_elem None = nul
fill_elem (Some c) = elem_of c
