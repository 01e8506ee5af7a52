-- The argument columns that an operation on the carried list uses.
use Rattle.std.specs.Prelude.{ℕ, ◌+◌, ◌*◌, ◌≤◌, Bool, List, ltb, get_or, take, drop}
use Rattle.model.specs.Basics.{pick, tab}
use Rattle.model.specs.Column.{Elem, Arguments, arguments, nul, shown_by}
use Rattle.bitmap.specs.Push.{bits_from}
use Rattle.column.specs.Columns.{values_in}
use Rattle.one_list.specs.declared.ArgumentColumns.{ArgumentColumns}
use Rattle.ops.specs.Ops.{takes_of}
use Rattle.ops.specs.declared.ListOp.{ListOp}

-- argument column k of n rows, where columns begin `pitch` values apart: as many as they have rows, and more where only some of their rows are looked at
abbrev pub column_at : List Elem → ℕ → ℕ → ℕ → List Elem
column_at es pitch n k = tab (λ r. get_or es (k * pitch + r) nul) 0 n

-- the same of columns that are lent, by its number
abbrev pub columns_in : ArgumentColumns → ℕ → List Elem
columns_in c = column_at (shown_by (values_in c.columns)) c.pitch c.rows

-- the n values of column k and their bits
abbrev pub column_cut : Arguments → ℕ → ℕ → ℕ → Arguments
column_cut e pitch n k = arguments (take n (drop (k * pitch) e.values)) (bits_from e.bits (k * pitch))

-- it lies within len values, where it is used
unfoldable pub LiesIn : Bool → ℕ → ℕ → ℕ → ℕ → Type 0
LiesIn used k pitch n len = k * pitch + pick used n 0 ≤ len

pub record Uses (op : ListOp) (pitch n first second third len : ℕ) : Type 0 where
  pub first_in : LiesIn (ltb 0 (takes_of op)) first pitch n len
  pub second_in : LiesIn (ltb 1 (takes_of op)) second pitch n len
  pub third_in : LiesIn (ltb 2 (takes_of op)) third pitch n len
