-- What is cut out of a column and out of the arguments for rows a up to b.
use Rattle.std.specs.Prelude.{ℕ, ◌+◌, ◌-◌, take, drop, length, ltb}
use Rattle.model.specs.Basics.{pick}
use Rattle.model.specs.Column.{Column, column, Arguments, arguments}
use Rattle.bitmap.specs.Push.{bits_from}

-- the offsets from a on, one more than the rows, and the row bitmap from bit a on; values and element bitmap stay, since offsets go on
-- pointing into them
abbrev pub part : Column → ℕ → ℕ → Column
part c a b = column (take (b + 1 - a) (drop a c.offsets)) (bits_from c.rows a) c.values c.elements

-- where the arguments of row a begin among n values: at row a of the first column, or at the end where there is none
abbrev pub first_argument : ℕ → ℕ → ℕ
first_argument a n = pick (ltb a n) a n

-- the arguments from there on
abbrev pub rest_from : Arguments → ℕ → Arguments
rest_from e a = arguments (drop (first_argument a (length e.values)) e.values) (bits_from e.bits (first_argument a (length e.values)))
