-- A row's limit, as replace and remove take it.
use Rattle.rows.specs.Cells.{Cell}
use Rattle.std.specs.Prelude.{None, Some, ℕ, true, []}
use Rattle.model.specs.Basics.{pick}
use Rattle.model.specs.Bitmap.{Bits, from, valid_at}
use Rattle.model.specs.Column.{Arguments, arguments}
use Rattle.arguments.specs.Taken.{taken_at}

-- row r's limit; a null where the list is null
unfoldable pub limit_at : Bits → Arguments → ℕ → Cell
limit_at rb k r = pick (valid_at rb r) (taken_at true true k r) None

-- how long a row of n elements is with its matches replaced
unfoldable pub replaced_length : Cell → ℕ → ℕ
replaced_length None n = 0
replaced_length (Some k) n = n

-- a column that is not taken
abbrev pub none : Arguments
none = arguments [] (from 0 [])
