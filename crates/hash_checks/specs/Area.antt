-- What the operations with a work area make of a left row and a right one, how much of the area they need, and 8 of them. One walk goes by
-- these for all three: distinct is lent its list on both sides.
use Rattle.std.specs.Prelude.{ℕ, ◌+◌, ◌&&◌, List}
use Rattle.model.specs.Basics.{pick, tab}
use Rattle.model.specs.Bitmap.{valid_at}
use Rattle.model.specs.Column.{Elem, Column, length_at, row_count}
use Rattle.model.specs.Elements.{distinct, set_elems}
use Rattle.model.specs.Hash.{longest}
use Rattle.model.specs.Limits.{narrow}
use Rattle.model.specs.Refusals.{union_refusal}
use Rattle.hash_checks.specs.declared.HashOp.{HashOp}
use Rattle.hash_checks.specs.declared.HashOp.TheVariants.{Distinct, Pair}

-- distinct looks at the left row alone
unfoldable pub hash_elems : HashOp → List Elem → List Elem → List Elem
hash_elems Distinct l r = distinct l
hash_elems (Pair k) l r = set_elems k l r

-- the elements of rows of n and m elements that count for the work area
unfoldable pub row_need : HashOp → ℕ → ℕ → ℕ
row_need Distinct n m = n
row_need (Pair k) n m = n + m

-- those of the rows r: none where one of them is null
unfoldable pub need_at : HashOp → Column → Column → ℕ → ℕ
need_at op c d r = pick (valid_at c.rows r && valid_at d.rows r) (row_need op (length_at c r) (length_at d r)) 0

unfoldable pub most_needed : HashOp → Column → Column → ℕ
most_needed op c d = longest (tab (need_at op c d) 0 (row_count c.offsets))

-- only union gives 8
unfoldable pub op_refusal : HashOp → ℕ → ℕ
op_refusal Distinct m = 0
op_refusal (Pair k) m = union_refusal narrow k m
