-- Distinct, union and intersect with a lent work area.
use Rattle.std.specs.Prelude.{ℕ, ◌+◌, max, Bool, List, [], ◌∷◌, map, ltb, length}
use Rattle.model.specs.Basics.{pick, tab}
use Rattle.model.specs.Limits.{Limits}
use Rattle.model.specs.Column.{Elem, Row, null_row, list_row, Column, rows_of}
use Rattle.model.specs.Form.{Room, length_of}
use Rattle.model.specs.Rows.{ListCall, unary, set_op_call, row_of}
use Rattle.model.specs.Refusals.{unequal}
use Rattle.model.specs.Outcome.{Outcome, gate, columns_refusal, after_three}
use Rattle.model.specs.declared.Unary.TheVariants.{Distinct}
use Rattle.model.specs.declared.SetOp.{SetOp}

-- "Add distinct, union and intersect with a lent work area of 32-bit slots and a hash of our own.": over what they take, as ListCall is
pub data Hashed (C : Type 0) : Type 0 where
  distinct_of : C → Hashed C
  set_of : SetOp → C → C → Hashed C

-- "Except for 14, their answers and outputs equal the plain ones on every input": the plain operation, whose definitions are theirs
unfoldable pub plain_of : {C A : Type 0} → Hashed C → ListCall C A
plain_of (distinct_of c) = unary Distinct c
plain_of (set_of k c d) = set_op_call k c d

unfoldable pub on_hashed : {C D : Type 0} → (C → D) → Hashed C → Hashed D
on_hashed f (distinct_of c) = distinct_of (f c)
on_hashed f (set_of k c d) = set_of k (f c) (f d)

unfoldable pub lists_hashed : {C : Type 0} → Hashed C → List C
lists_hashed (distinct_of c) = c ∷ []
lists_hashed (set_of k c d) = c ∷ d ∷ []

-- the greatest of them, and 0 of none
unfoldable pub longest : List ℕ → ℕ
longest [] = 0
longest (n ∷ ns) = max n (longest ns)

-- the elements of a "pair of rows valid on both sides, taken together"; another pair has none that count
unfoldable pub pair_length : Row → Row → ℕ
pair_length null_row r = 0
pair_length (list_row ls) null_row = 0
pair_length (list_row ls) (list_row rs) = length ls + length rs

-- "the elements of the longest valid row (for union and intersect, of the longest pair of rows valid on both sides, taken together)"
unfoldable pub longest_in : Hashed (List Row) → ℕ
longest_in (distinct_of ws) = longest (map length_of ws)
longest_in (set_of k ls rs) = longest (tab (λ r. pair_length (row_of ls r) (row_of rs r)) 0 (length ls))

-- "14, a work area under twice" that many
unfoldable pub short_area : ℕ → Hashed (List Row) → Bool
short_area slots h = ltb slots (longest_in h + longest_in h)

-- 3, then 14, "after 3 and before 8", then what the plain operation does after 3
unfoldable pub hashed_shown : Limits → Hashed (List Row) → ℕ → Room → Outcome (List Row)
hashed_shown L h slots l = gate (pick (unequal (plain_of h)) 3 0) (gate (pick (short_area slots h) 14 0) (after_three L (plain_of h) l))

-- on the columns lent, with a work area of so many slots: 13, 1 and 2 come first
unfoldable pub hashed_outcome : Limits → Hashed Column → ℕ → Room → Outcome (List Row)
hashed_outcome L h slots l = gate (columns_refusal (lists_hashed h) []) (hashed_shown L (on_hashed rows_of h) slots l)
