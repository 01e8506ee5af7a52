-- What is done to a row: nothing that a call holds as it runs, but what the definitions say of it.
use Rattle.std.specs.Prelude.{ℕ, ℤ}
use Rattle.model.specs.declared.Unary.{Unary}
use Rattle.rows.specs.Cells.{Cell, Fill}

-- the row becomes null; the number of a refusal; an operation without arguments; empty; so many places from a start on by a stride; a count and
-- a fill; from, to and a limit; an element and a limit
pub data RowOp : Type 0 where
  Null : RowOp
  Refused : ℕ → RowOp
  Plain : Unary → RowOp
  Empty : RowOp
  Steps : ℕ → ℤ → ℕ → RowOp
  Resized : ℕ → Fill → RowOp
  Replaced : Cell → Cell → ℕ → RowOp
  Removed : Cell → ℕ → RowOp
