-- The refusals after 2 and before 9: 3; element's 4; 7 and 8 of resize, union and list-repeat; and that the first bad row decides.
-- Slice's 4, 5 and 6 stand in Slice, 9 in Form and Outcome. 0 stands for none.
use Rattle.std.specs.Prelude.{ℕ, ◌+◌, ◌*◌, Bool, false, not, ◌&&◌, ◌||◌, List, [], ◌∷◌, map, length, ℤ, pos, negsuc, ltb, eqb}
use Rattle.model.specs.Basics.{pick, tab, Lent, absent, given}
use Rattle.model.specs.Limits.{Limits, largest}
use Rattle.model.specs.Column.{Elem, nul, val, Row, null_row, list_row, count}
use Rattle.model.specs.Form.{flat, length_of}
use Rattle.model.specs.Slice.{fits}
use Rattle.model.specs.Rows.{ListCall, unary, set_op_call, slice, resize, replace, remove, Made, refuses, makes, row_by_row, rows_made, row_of, argument_of}
use Rattle.model.specs.declared.SetOp.{SetOp}
use Rattle.model.specs.declared.SetOp.TheVariants.{Union, Intersect}

-- the first number, unless it is 0, then the second
abbrev pub or_else : ℕ → ℕ → ℕ
or_else k j = pick (eqb k 0) j k

-- "3 (row counts differ)"
abbrev pub differs : {A : Type 0} → ℕ → List A → Bool
differs n xs = not (eqb (length xs) n)

unfoldable pub differs_lent : ℕ → Lent (List Elem) → Bool
differs_lent n absent = false
differs_lent n (given es) = differs n es

-- "their limit column has one row, used for all, or as many as the list, else 3"
unfoldable pub wrong_limit : ℕ → List Elem → Bool
wrong_limit n ns = not (eqb (length ns) 1) && differs n ns

-- 3 of an operation: of its second list and of each argument column that it is lent
unfoldable pub unequal : ListCall (List Row) (List Elem) → Bool
unequal (unary k ws) = false
unequal (set_op_call k ls rs) = differs (length ls) rs
unequal (slice ws f t s) = differs (length ws) f || differs (length ws) t || differs_lent (length ws) s
unequal (resize ws n v) = differs (length ws) n || differs_lent (length ws) v
unequal (replace ws f t n) = differs (length ws) f || differs (length ws) t || wrong_limit (length ws) n
unequal (remove ws f n) = differs (length ws) f || wrong_limit (length ws) n

-- "Row refusals follow: the first bad row decides."
unfoldable pub first_of : List ℕ → ℕ
first_of [] = 0
first_of (k ∷ ks) = or_else k (first_of ks)

-- the refusal of one row
unfoldable pub refusal_of : Made → ℕ
refusal_of (refuses k) = k
refusal_of (makes w) = 0

-- a row's count "over rows with list and count valid"
pub data RowCount : Type 0 where
  uncounted : RowCount
  counted : ℤ → RowCount

unfoldable pub row_count_of : Row → Elem → RowCount
row_count_of null_row n = uncounted
row_count_of (list_row es) nul = uncounted
row_count_of (list_row es) (val n) = counted n

-- a running sum, or the refusal that ended it
pub data Sum : Type 0 where
  stopped : ℕ → Sum
  sum : ℕ → Sum

-- "7 at a negative count, or 8 where the running sum of counts passes 18446744073709551615, whichever row comes first"
unfoldable pub plus : ℕ → RowCount → Sum
plus a uncounted = sum a
plus a (counted (pos n)) = pick (ltb largest (a + n)) (stopped 8) (sum (a + n))
plus a (counted (negsuc n)) = stopped 7

-- one row more, and all rows
unfoldable pub and_then : Sum → RowCount → Sum
and_then (stopped k) n = stopped k
and_then (sum a) n = plus a n

unfoldable pub sum_of : Sum → List RowCount → Sum
sum_of s [] = s
sum_of s (n ∷ ns) = sum_of (and_then s n) ns

-- "then 8 if the sum exceeds 2147483647"
unfoldable pub sum_refusal : Limits → Sum → ℕ
sum_refusal L (stopped k) = k
sum_refusal L (sum a) = pick (ltb L.resized a) 8 0

-- 7 or 8 of resize, row after row, and then 8 of the whole sum
unfoldable pub resize_refusal : Limits → List Row → List Elem → ℕ
resize_refusal L ws ns = sum_refusal L (sum_of (sum 0) (tab (λ r. row_count_of (row_of ws r) (argument_of ns r)) 0 (length ws)))

-- "Union: 8 if the result exceeds 2147483647 elements"
unfoldable pub union_refusal : Limits → SetOp → ℕ → ℕ
union_refusal L Union n = pick (ltb L.united n) 8 0
union_refusal L Intersect n = 0

-- what refuses the rows together
unfoldable pub sums_refusal : Limits → ListCall (List Row) (List Elem) → ℕ
sums_refusal L (unary k ws) = 0
sums_refusal L (set_op_call k ls rs) = union_refusal L k (length (flat (rows_made L (set_op_call k ls rs))))
sums_refusal L (slice ws f t s) = 0
sums_refusal L (resize ws n v) = resize_refusal L ws n
sums_refusal L (replace ws f t n) = 0
sums_refusal L (remove ws f n) = 0

-- all that a list operation refuses after 3 and before 9
unfoldable pub rows_refusal : Limits → ListCall (List Row) (List Elem) → ℕ
rows_refusal L q = or_else (first_of (map refusal_of (row_by_row L q))) (sums_refusal L q)

-- "Element: 4 if list and index are valid and the index doesn't fit 32 signed bits, even over an empty row"
unfoldable pub element_refusal : Limits → Row → Elem → ℕ
element_refusal L null_row i = 0
element_refusal L (list_row es) nul = 0
element_refusal L (list_row es) (val i) = pick (fits L i) 0 4

unfoldable pub total : List ℕ → ℕ
total [] = 0
total (n ∷ ns) = n + total ns

-- how often a row is repeated, and how many values that repeats: "null lists of no values"
unfoldable pub times_of : Elem → ℕ
times_of nul = 0
times_of (val n) = count n

unfoldable pub repeated_by : Row → Elem → ℕ
repeated_by w n = times_of n * length_of w

-- "List-repeat: 8 if the outer lists, or the values they repeat, exceed 2147483647"
unfoldable pub repeat_refusal : Limits → List Row → List Elem → ℕ
repeat_refusal L ws ns =
    pick (ltb L.outer (total (tab (λ r. times_of (argument_of ns r)) 0 (length ws))) || ltb L.repeated (total (tab (λ r. repeated_by (row_of ws r) (argument_of ns r)) 0 (length ws)))) 8 0
