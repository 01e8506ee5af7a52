-- What an operation asks of a row.
use Rattle.std.specs.Prelude.{ℕ}
use Rattle.strides.specs.Strides.{Walks}
use Rattle.ops.specs.RowOp.{RowOp}
use Rattle.ops.specs.RowOp as R

-- what is done can be done to a row of n elements: the places of a slice lie in it
unfoldable pub Doable : RowOp → ℕ → Type 0
Doable R.Null n = Unit
Doable (R.Refused k) n = Unit
Doable (R.Plain u) n = Unit
Doable R.Empty n = Unit
Doable (R.Steps a s k) n = Walks a s k n
Doable (R.Resized k f) n = Unit
Doable (R.Replaced f t k) n = Unit
Doable (R.Removed f k) n = Unit
