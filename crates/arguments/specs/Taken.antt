-- The arguments of a row, as an operation on one list takes them from up to three columns.
use Rattle.rows.specs.Cells.{Cell}
use Rattle.std.specs.Prelude.{None, Some, ℕ, ◌<◌, ◌≡◌, Bool, true, false, not, ◌&&◌, ◌||◌, ltb, eqb, length}
use Rattle.model.specs.Basics.{pick}
use Rattle.model.specs.Bitmap.{Bits, valid_at}
use Rattle.model.specs.Limits.{Limits}
use Rattle.model.specs.Column.{Elem, nul, val, Arguments, elem_at, refusal2ᵃ}
use Rattle.bitmap.specs.Push.{Covers}
use Rattle.ops.specs.Ops.{takes_of, second_limit, third_limit, row_op_of}
use Rattle.ops.specs.declared.ListOp.{ListOp}
use Rattle.ops.specs.RowOp.{RowOp}

unfoldable pub cell_of : Elem → Cell
cell_of nul = None
cell_of (val v) = Some v

-- where row r's argument stands among len: "their limit column has one row, used for all, or as many as the list"
unfoldable pub place_in : Bool → ℕ → ℕ → ℕ
place_in limit len r = pick (limit && eqb len 1) 0 r

-- row r's argument, where the operation takes the column
unfoldable pub taken_at : Bool → Bool → Arguments → ℕ → Cell
taken_at on limit a r = pick on (cell_of (elem_at a.values a.bits (place_in limit (length a.values) r))) None

-- what the operation does to row r of len elements
unfoldable pub op_at : Limits → ListOp → Bits → Arguments → Arguments → Arguments → ℕ → ℕ → RowOp
op_at L op rb x y z r len =
    row_op_of L op (valid_at rb r) len (taken_at (ltb 0 (takes_of op)) false x r) (taken_at (ltb 1 (takes_of op)) (second_limit op) y r) (taken_at (ltb 2 (takes_of op)) (third_limit op) z r)

-- a column with an argument for each of n rows
pub record Serves (limit : Bool) (n : ℕ) (a : Arguments) : Type 0 where
  pub bits : Covers a.bits (length a.values)
  pub there : (r : ℕ) → r < n → place_in limit (length a.values) r < length a.values

-- so do all columns that the operation takes
pub record Served (op : ListOp) (n : ℕ) (x y z : Arguments) : Type 0 where
  pub first : ltb 0 (takes_of op) ≡ true → Serves false n x
  pub second : ltb 1 (takes_of op) ≡ true → Serves (second_limit op) n y
  pub third : ltb 2 (takes_of op) ≡ true → Serves (third_limit op) n z

-- 13 of an argument column that is taken, by its starting bit alone
unfoldable pub over_if : Bool → ℕ → Bool
over_if on start = on && ltb 7 start

-- 13 of any
unfoldable pub start_over : ListOp → ℕ → ℕ → ℕ → Bool
start_over op x y z = over_if (ltb 0 (takes_of op)) x || over_if (ltb 1 (takes_of op)) y || over_if (ltb 2 (takes_of op)) z

-- 2 and 3 of an argument column that is taken
unfoldable pub short_if : Bool → Arguments → Bool
short_if on a = on && refusal2ᵃ a

unfoldable pub wrong_if : Bool → Bool → ℕ → ℕ → Bool
wrong_if on limit n len = on && not (limit && eqb len 1) && not (eqb len n)

-- 2 of any column, else 3 of any, else 0
unfoldable pub arguments_refusal : ListOp → ℕ → Arguments → Arguments → Arguments → ℕ
arguments_refusal op n x y z =
    pick (short_if (ltb 0 (takes_of op)) x || short_if (ltb 1 (takes_of op)) y || short_if (ltb 2 (takes_of op)) z) 2
    (pick (wrong_if (ltb 0 (takes_of op)) false n (length x.values) || wrong_if (ltb 1 (takes_of op)) (second_limit op) n (length y.values) || wrong_if (ltb 2 (takes_of op)) (third_limit op) n (length z.values)) 3 0)
