-- What the operations with a work area make of two columns, by the columns' rows; distinct is lent its list on both sides.
use Rattle.std.specs.Prelude.{ℕ, ◌+◌, List, ltb, length}
use Rattle.model.specs.Basics.{pick, tab}
use Rattle.model.specs.Column.{Row, Column, row_at, row_count}
use Rattle.model.specs.Form.{Room, flat}
use Rattle.model.specs.Outcome.{Outcome, gate, fitted}
use Rattle.model.specs.Rows.{on_rows}
use Rattle.set_walk.specs.Pairs.{bound_of}
use Rattle.hash_checks.specs.Area.{hash_elems, most_needed, op_refusal}
use Rattle.hash_checks.specs.declared.HashOp.{HashOp}
use Rattle.hash_checks.specs.declared.HashOp.TheVariants.{Distinct, Pair}

abbrev pub hash_at : HashOp → Column → Column → ℕ → Row
hash_at op c d r = on_rows (hash_elems op) (row_at c r) (row_at d r)

unfoldable pub hash_rows : HashOp → Column → Column → List Row
hash_rows op c d = tab (hash_at op c d) 0 (row_count c.offsets)

-- how many elements may be made of a and b elements
unfoldable pub hash_bound : HashOp → ℕ → ℕ → ℕ
hash_bound Distinct a b = a
hash_bound (Pair k) a b = bound_of k a b

-- after 3: 14 of a work area of so many slots, then 8, then 9
unfoldable pub hash_after : HashOp → Column → Column → ℕ → Room → Outcome (List Row)
hash_after op c d slots l =
    gate (pick (ltb slots (most_needed op c d + most_needed op c d)) 14 0) (gate (op_refusal op (length (flat (hash_rows op c d)))) (fitted (hash_rows op c d) l))
