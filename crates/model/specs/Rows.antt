-- What each row becomes. A list operation over what it takes: C is a list, A an argument. Over columns it is what a call lends,
-- over lists of rows and elements what that shows, over one row and its arguments what a row becomes. The last two have nothing
-- of the bytes lent.
use Rattle.std.specs.Prelude.{ℕ, List, [], ◌∷◌, map, length, get_or, replicate, pos, eqb}
use Rattle.model.specs.Basics.{pick, tab, Lent, absent, given}
use Rattle.model.specs.Limits.{Limits}
use Rattle.model.specs.Column.{Elem, nul, val, Row, null_row, list_row, count}
use Rattle.model.specs.Form.{Outer, null_outer, list_outer}
use Rattle.model.specs.Elements.{unary_elems, set_elems, resized, replaced, removed, element_at, first_valid}
use Rattle.model.specs.Slice.{Plan, refuse, empty, places, slice_plan, sliced}
use Rattle.model.specs.declared.Unary.{Unary}
use Rattle.model.specs.declared.SetOp.{SetOp}

pub data ListCall (C A : Type 0) : Type 0 where
  unary : Unary → C → ListCall C A
  set_op_call : SetOp → C → C → ListCall C A
  -- list, from, to, stride
  slice : C → A → A → Lent A → ListCall C A
  -- list, count, fill
  resize : C → A → Lent A → ListCall C A
  -- list, from, to, limit
  replace : C → A → A → A → ListCall C A
  -- list, element, limit
  remove : C → A → A → ListCall C A

unfoldable pub on_lent : {A B : Type 0} → (A → B) → Lent A → Lent B
on_lent g absent = absent
on_lent g (given a) = given (g a)

-- the same operation on other lists and arguments
unfoldable pub on_call : {C D A B : Type 0} → (C → D) → (A → B) → ListCall C A → ListCall D B
on_call f g (unary k c) = unary k (f c)
on_call f g (set_op_call k c d) = set_op_call k (f c) (f d)
on_call f g (slice c a b s) = slice (f c) (g a) (g b) (on_lent g s)
on_call f g (resize c n v) = resize (f c) (g n) (on_lent g v)
on_call f g (replace c a b n) = replace (f c) (g a) (g b) (g n)
on_call f g (remove c a n) = remove (f c) (g a) (g n)

unfoldable pub lent_of : {A : Type 0} → Lent A → List A
lent_of absent = []
lent_of (given a) = a ∷ []

-- the lists and the argument columns, in the order of the call
unfoldable pub lists_in : {C A : Type 0} → ListCall C A → List C
lists_in (unary k c) = c ∷ []
lists_in (set_op_call k c d) = c ∷ d ∷ []
lists_in (slice c a b s) = c ∷ []
lists_in (resize c n v) = c ∷ []
lists_in (replace c a b n) = c ∷ []
lists_in (remove c a n) = c ∷ []

unfoldable pub arguments_in : {C A : Type 0} → ListCall C A → List A
arguments_in (unary k c) = []
arguments_in (set_op_call k c d) = []
arguments_in (slice c a b s) = a ∷ b ∷ lent_of s
arguments_in (resize c n v) = n ∷ lent_of v
arguments_in (replace c a b n) = a ∷ b ∷ n ∷ []
arguments_in (remove c a n) = a ∷ n ∷ []

-- a row operation: a refusal's number, or the row that it makes
pub data Made : Type 0 where
  refuses : ℕ → Made
  makes : Row → Made

-- a null row stays null
unfoldable pub on_row : (List Elem → List Elem) → Row → Row
on_row f null_row = null_row
on_row f (list_row es) = list_row (f es)

-- "Either null gives null."
unfoldable pub on_rows : (List Elem → List Elem → List Elem) → Row → Row → Row
on_rows f null_row r = null_row
on_rows f (list_row ls) null_row = null_row
on_rows f (list_row ls) (list_row rs) = list_row (f ls rs)

-- what the places of a plan are in a row
unfoldable pub planned : Plan → List Elem → Made
planned (refuse k) es = refuses k
planned empty es = makes (list_row [])
planned (places a s n) es = makes (list_row (sliced a s n es))

-- "absent stride is 1"
unfoldable pub stride_of : Lent Elem → Elem
stride_of absent = val (pos 1)
stride_of (given s) = s

-- "Slice: null if any input is null"
unfoldable pub slice_row : Limits → Row → Elem → Elem → Elem → Made
slice_row L null_row f t s = makes null_row
slice_row L (list_row es) nul t s = makes null_row
slice_row L (list_row es) (val f) nul s = makes null_row
slice_row L (list_row es) (val f) (val t) nul = makes null_row
slice_row L (list_row es) (val f) (val t) (val s) = planned (slice_plan L (length es) f t s) es

-- "absent or null fill gives nulls"
unfoldable pub fill_of : Lent Elem → Elem
fill_of absent = nul
fill_of (given v) = v

-- "Null list or count gives null." (A negative count is refused before.)
unfoldable pub resize_row : Row → Elem → Elem → Row
resize_row null_row n v = null_row
resize_row (list_row es) nul v = null_row
resize_row (list_row es) (val n) v = list_row (resized (count n) v es)

-- "n at or below 0 changes nothing. Null list or n gives null; null from or to doesn't."
unfoldable pub replace_row : Row → Elem → Elem → Elem → Row
replace_row null_row f t n = null_row
replace_row (list_row es) f t nul = null_row
replace_row (list_row es) f t (val n) = list_row (replaced (count n) f t es)

-- "Remove: as replace, but a null element to remove gives null."
unfoldable pub remove_row : Row → Elem → Elem → Row
remove_row null_row f n = null_row
remove_row (list_row es) nul n = null_row
remove_row (list_row es) (val f) nul = null_row
remove_row (list_row es) (val f) (val n) = list_row (removed (count n) (val f) es)

-- what one row becomes
unfoldable pub made_of : Limits → ListCall Row Elem → Made
made_of L (unary k w) = makes (on_row (unary_elems k) w)
made_of L (set_op_call k l r) = makes (on_rows (set_elems k) l r)
made_of L (slice w f t s) = slice_row L w f t (stride_of s)
made_of L (resize w n v) = makes (resize_row w n (fill_of v))
made_of L (replace w f t n) = makes (replace_row w f t n)
made_of L (remove w f n) = makes (remove_row w f n)

abbrev pub row_of : List Row → ℕ → Row
row_of ws r = get_or ws r null_row

abbrev pub argument_of : List Elem → ℕ → Elem
argument_of es r = get_or es r nul

-- "their limit column has one row, used for all, or as many as the list"
unfoldable pub limit_of : List Elem → ℕ → Elem
limit_of ns r = pick (eqb (length ns) 1) (get_or ns 0 nul) (get_or ns r nul)

-- what an operation takes for row r
unfoldable pub at_row : ListCall (List Row) (List Elem) → ℕ → ListCall Row Elem
at_row (unary k ws) r = unary k (row_of ws r)
at_row (set_op_call k ls rs) r = set_op_call k (row_of ls r) (row_of rs r)
at_row (slice ws f t s) r = slice (row_of ws r) (argument_of f r) (argument_of t r) (on_lent (λ es. argument_of es r) s)
at_row (resize ws n v) r = resize (row_of ws r) (argument_of n r) (on_lent (λ es. argument_of es r) v)
at_row (replace ws f t n) r = replace (row_of ws r) (argument_of f r) (argument_of t r) (limit_of n r)
at_row (remove ws f n) r = remove (row_of ws r) (argument_of f r) (limit_of n r)

-- an operation makes as many rows as its first list has
unfoldable pub rows_in : {A : Type 0} → ListCall (List Row) A → ℕ
rows_in (unary k ws) = length ws
rows_in (set_op_call k ls rs) = length ls
rows_in (slice ws f t s) = length ws
rows_in (resize ws n v) = length ws
rows_in (replace ws f t n) = length ws
rows_in (remove ws f n) = length ws

-- row by row
unfoldable pub row_by_row : Limits → ListCall (List Row) (List Elem) → List Made
row_by_row L q = tab (λ r. made_of L (at_row q r)) 0 (rows_in q)

-- (A call with a row that refuses ends in that refusal, before the rows made are looked at.)
unfoldable pub row_made : Made → Row
row_made (refuses k) = null_row
row_made (makes w) = w

-- the rows that an operation makes, where no row refuses
unfoldable pub rows_made : Limits → ListCall (List Row) (List Elem) → List Row
rows_made L q = map row_made (row_by_row L q)

-- Any-value and element make one value a row; "so does a null list or index".
unfoldable pub any_value_of : Row → Elem
any_value_of null_row = nul
any_value_of (list_row es) = first_valid es

unfoldable pub element_of : Row → Elem → Elem
element_of null_row i = nul
element_of (list_row es) nul = nul
element_of (list_row es) (val i) = element_at es i

-- "List-repeat: a null count gives null, 0 or less an empty outer row; a null list repeats as null lists of no values."
unfoldable pub repeat_of : Row → Elem → Outer
repeat_of w nul = null_outer
repeat_of w (val n) = list_outer (replicate (count n) w)
