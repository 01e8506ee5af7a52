-- The operations on one list, and what each does to one row once the row's arguments are read.
use Rattle.std.specs.Prelude.{ℤ, Option, None, Some, Ok, Err, ℕ, Bool, true, false, ◌&&◌, List, [], eqb}
use Rattle.model.specs.Answers.{number_of}
use Rattle.model.specs.Basics.{pick, absent, given}
use Rattle.model.specs.Column.{Elem, null_row, list_row, count}
use Rattle.model.specs.Elements.{unary_elems, resized, replaced, removed}
use Rattle.model.specs.Limits.{Limits}
use Rattle.model.specs.Rows.{ListCall, unary, slice, resize, replace, remove, Made, refuses, makes}
use Rattle.model.specs.Slice.{slice_plan, sliced}
use Rattle.index.specs.Plan.{SlicePlan, plan_of, stride_in}
use Rattle.rows.specs.Cells.{Cell, Fill, elem_of, fill_elem}
use Rattle.ops.specs.declared.ListOp.{ListOp}
use Rattle.ops.specs.declared.ListOp.TheVariants as L
use Rattle.ops.specs.RowOp.{RowOp}
use Rattle.ops.specs.RowOp as R
use Rattle.ops.specs.declared.Arity.{Arity}

-- the call that an operation makes of a list and of the argument columns that it takes
unfoldable pub call_of : {C A : Type 0} → ListOp → C → A → A → A → ListCall C A
call_of (L.Plain u) c x y z = unary u c
call_of L.Slice c x y z = slice c x y absent
call_of L.SliceBy c x y z = slice c x y (given z)
call_of L.Resize c x y z = resize c x absent
call_of L.ResizeWith c x y z = resize c x (given y)
call_of L.Replace c x y z = replace c x y z
call_of L.Remove c x y z = remove c x y

-- what each operation takes: how many argument columns; whether the last of them is a limit; whether it resizes
abbrev pub taking : ℕ → Bool → Bool → Arity
taking n l b = record { columns = n; limited = l; resize = b }

unfoldable pub table : ListOp → Arity
table (L.Plain u) = taking 0 false false
table L.Slice = taking 2 false false
table L.SliceBy = taking 3 false false
table L.Resize = taking 1 false true
table L.ResizeWith = taking 2 false true
table L.Replace = taking 3 true false
table L.Remove = taking 2 true false

abbrev pub takes_of : ListOp → ℕ
takes_of op = (table op).columns

-- which of them is a limit, and so may have one row for all
abbrev pub second_limit : ListOp → Bool
second_limit op = (table op).limited && eqb (table op).columns 2

abbrev pub third_limit : ListOp → Bool
third_limit op = (table op).limited && eqb (table op).columns 3

abbrev pub is_resize : ListOp → Bool
is_resize op = (table op).resize

unfoldable pub plan_op : SlicePlan → RowOp
plan_op (Ok None) = R.Empty
plan_op (Ok (Some s)) = R.Steps s.start s.stride s.count
plan_op (Err k) = R.Refused (number_of k)

unfoldable pub slice_op : Limits → ℕ → Cell → Cell → Option ℤ → RowOp
slice_op lim n None t s = R.Null
slice_op lim n (Some f) None s = R.Null
slice_op lim n (Some f) (Some t) s = plan_op (plan_of (slice_plan lim n f t (stride_in s)))

unfoldable pub stride_op : Limits → ℕ → Cell → Cell → Cell → RowOp
stride_op lim n f t None = R.Null
stride_op lim n f t (Some s) = slice_op lim n f t (Some s)

unfoldable pub resize_op : Cell → Fill → RowOp
resize_op None f = R.Null
resize_op (Some n) f = R.Resized (count n) f

unfoldable pub replace_op : Cell → Cell → Cell → RowOp
replace_op f t None = R.Null
replace_op f t (Some n) = R.Replaced f t (count n)

unfoldable pub remove_op : Cell → Cell → RowOp
remove_op None n = R.Null
remove_op (Some v) None = R.Null
remove_op (Some v) (Some n) = R.Removed (Some v) (count n)

-- what is done to a valid row of n elements
unfoldable pub valid_op : Limits → ListOp → ℕ → Cell → Cell → Cell → RowOp
valid_op lim (L.Plain u) n x y z = R.Plain u
valid_op lim L.Slice n x y z = slice_op lim n x y None
valid_op lim L.SliceBy n x y z = stride_op lim n x y z
valid_op lim L.Resize n x y z = resize_op x None
valid_op lim L.ResizeWith n x y z = resize_op x (Some y)
valid_op lim L.Replace n x y z = replace_op x y z
valid_op lim L.Remove n x y z = remove_op x y

unfoldable pub is_slice : ListOp → Bool
is_slice (L.Plain u) = false
is_slice L.Slice = true
is_slice L.SliceBy = true
is_slice L.Resize = false
is_slice L.ResizeWith = false
is_slice L.Replace = false
is_slice L.Remove = false

unfoldable pub row_op_of : Limits → ListOp → Bool → ℕ → Cell → Cell → Cell → RowOp
row_op_of lim op valid n x y z = pick valid (valid_op lim op n x y z) R.Null

-- the elements that are made of a row's
unfoldable pub op_elems : RowOp → List Elem → List Elem
op_elems R.Null es = []
op_elems (R.Refused k) es = []
op_elems (R.Plain u) es = unary_elems u es
op_elems R.Empty es = []
op_elems (R.Steps a s n) es = sliced a s n es
op_elems (R.Resized k f) es = resized k (fill_elem f) es
op_elems (R.Replaced f t k) es = replaced k (elem_of f) (elem_of t) es
op_elems (R.Removed f k) es = removed k (elem_of f) es

-- is the row that is made null
unfoldable pub op_null : RowOp → Bool
op_null R.Null = true
op_null (R.Refused k) = true
op_null (R.Plain u) = false
op_null R.Empty = false
op_null (R.Steps a s n) = false
op_null (R.Resized k f) = false
op_null (R.Replaced f t k) = false
op_null (R.Removed f k) = false

-- the row that is made, or the refusal
unfoldable pub op_made : RowOp → List Elem → Made
op_made R.Null es = makes null_row
op_made (R.Refused k) es = refuses k
op_made (R.Plain u) es = makes (list_row (op_elems (R.Plain u) es))
op_made R.Empty es = makes (list_row [])
op_made (R.Steps a s n) es = makes (list_row (op_elems (R.Steps a s n) es))
op_made (R.Resized k f) es = makes (list_row (op_elems (R.Resized k f) es))
op_made (R.Replaced f t k) es = makes (list_row (op_elems (R.Replaced f t k) es))
op_made (R.Removed f k) es = makes (list_row (op_elems (R.Removed f k) es))
