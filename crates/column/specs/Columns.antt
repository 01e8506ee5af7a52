-- How a clause names what columns hold: a `requires` says `column_in O.numbers list`, an `ensures` says `column_in O.numbers list.entry`.
use Rattle.std.specs.Prelude.{ℕ, Option, None, Some, List, ℤ}
use Rattle.model.specs.Basics.{tab, Lent, absent, given}
use Rattle.model.specs.Column.{Elem, Column, column, Arguments, arguments, elem_at}
use Rattle.bitmap.specs.Reads.{bits_in}
use Rattle.column.specs.declared.elements.ValueColumn.{ValueColumn}
use Rattle.column.specs.declared.lists.ListColumn.{ListColumn}

-- an argument column, or the elements of a list
abbrev pub values_in : ValueColumn → Arguments
values_in c = arguments c.values.now (bits_in c.bits)

-- an argument column that a call may do without
unfoldable pub lent_in : Option ValueColumn → Lent Arguments
lent_in None = absent
lent_in (Some c) = given (values_in c)

-- the element at a place
abbrev pub elem_in : ValueColumn → ℕ → Elem
elem_in c = elem_at c.values.now (bits_in c.bits)

-- the n elements from place a on
abbrev pub elems_in : ValueColumn → ℕ → ℕ → List Elem
elems_in c a n = tab (elem_in c) a n

-- a list column; numbers are those of its offsets
abbrev pub column_in : {A : Type 0} → (List A → List ℤ) → ListColumn A → Column
column_in numbers c = column (numbers c.offsets.now) (bits_in c.rows) c.elements.values.now (bits_in c.elements.bits)
