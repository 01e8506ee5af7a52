-- What is done to a row is what the definitions make of it.
use Rattle.std.specs.Prelude.{Option, None, Some}
use mathlib.Core.Path.{◌≡◌, refl}
use Prim.Native.Nat.{ℕ}
use mathlib.Core.Bool.{Bool, true, false}
use mathlib.Core.List.{List}
use lib.IntN.{ℤ, pos}
use lib.ListN.{length}
use Rattle.model.specs.Basics.{pick}
use Rattle.model.specs.Column.{Elem, nul, val, Row, null_row, list_row}
use Rattle.model.specs.Form.{elems_of}
use Rattle.model.specs.Limits.{Limits}
use Rattle.model.specs.Rows.{makes, on_row, planned, stride_of, slice_row, fill_of, resize_row, replace_row, remove_row, made_of, row_made}
use Rattle.model.specs.Slice.{Plan, refuse, empty, places, slice_plan}
use Rattle.index.specs.Plan as I
use Rattle.index.proofs.SliceLaws.{refusal_told}
use Rattle.rows.specs.Cells.{Cell, elem_of, fill_elem}
use Rattle.ops.specs.Ops.{call_of, plan_op, slice_op, stride_op, resize_op, replace_op, remove_op, valid_op, row_op_of, op_elems, op_made}
use Rattle.ops.specs.declared.ListOp.{ListOp}
use Rattle.ops.specs.declared.ListOp.TheVariants as L
use Rattle.ops.specs.RowOp.{RowOp}
use Rattle.ops.specs.RowOp as R

-- a row of these elements, or a null one
abbrev pub row_if : Bool → List Elem → Row
row_if valid es = pick valid (list_row es) null_row

plan_made : (lim : Limits) (n : ℕ) (f t s : ℤ) (p : Plan) (es : List Elem) → slice_plan lim n f t s ≡ p → op_made (plan_op (I.plan_of p)) es ≡ planned p es
unfolding op_made op_elems plan_op I.plan_of planned
plan_made lim n f t s (refuse k) es e = rw (refusal_told lim n f t s k e)
plan_made lim n f t s empty es e = refl
plan_made lim n f t s (places a z k) es e = refl

slice-made : (lim : Limits) (es : List Elem) (f t : Cell) (z : ℤ) (s : Option ℤ) → z ≡ I.stride_in s → op_made (slice_op lim (length es) f t s) es ≡ slice_row lim (list_row es) (elem_of f) (elem_of t) (val z)
unfolding slice_op slice_row elem_of op_made
slice-made lim es None t z s e = refl
slice-made lim es (Some f) None z s e = refl
slice-made lim es (Some f) (Some t) z s e = rw e (plan_made lim (length es) f t (I.stride_in s) _ es refl)

slice_null : (lim : Limits) (es : List Elem) (f t : Elem) → makes null_row ≡ slice_row lim (list_row es) f t nul
unfolding slice_row
slice_null lim es nul t = refl
slice_null lim es (val f) nul = refl
slice_null lim es (val f) (val t) = refl

valid_made : (lim : Limits) (op : ListOp) (es : List Elem) (x y z : Cell) → op_made (valid_op lim op (length es) x y z) es ≡ made_of lim (call_of op (list_row es) (elem_of x) (elem_of y) (elem_of z))
unfolding valid_op call_of made_of op_made op_elems on_row stride_of fill_of fill_elem elem_of I.stride_in stride_op resize_op replace_op remove_op resize_row replace_row remove_row
valid_made lim (L.Plain u) es x y z = refl
valid_made lim L.Slice es x y z = slice-made lim es x y (pos 1) None refl
valid_made lim L.SliceBy es x y None = slice_null lim es (elem_of x) (elem_of y)
valid_made lim L.SliceBy es x y (Some s) = slice-made lim es x y s (Some s) refl
valid_made lim L.Resize es None y z = refl
valid_made lim L.Resize es (Some n) y z = refl
valid_made lim L.ResizeWith es None y z = refl
valid_made lim L.ResizeWith es (Some n) y z = refl
valid_made lim L.Replace es x y None = refl
valid_made lim L.Replace es x y (Some n) = refl
valid_made lim L.Remove es None y z = refl
valid_made lim L.Remove es (Some v) None z = refl
valid_made lim L.Remove es (Some v) (Some n) z = refl

null_made : (lim : Limits) (op : ListOp) (x y z : Elem) → makes null_row ≡ made_of lim (call_of op null_row x y z)
unfolding call_of made_of on_row slice_row resize_row replace_row remove_row
null_made lim (L.Plain u) x y z = refl
null_made lim L.Slice x y z = refl
null_made lim L.SliceBy x y z = refl
null_made lim L.Resize x y z = refl
null_made lim L.ResizeWith x y z = refl
null_made lim L.Replace x y z = refl
null_made lim L.Remove x y z = refl

pub op_made_lem : (lim : Limits) (op : ListOp) (valid : Bool) (es : List Elem) (x y z : Cell) → op_made (row_op_of lim op valid (length es) x y z) es ≡ made_of lim (call_of op (row_if valid es) (elem_of x) (elem_of y) (elem_of z))
unfolding row_op_of op_made
op_made_lem lim op true es x y z = valid_made lim op es x y z
op_made_lem lim op false es x y z = null_made lim op (elem_of x) (elem_of y) (elem_of z)

-- the parts of what is made
pub elems_of_made : (o : RowOp) (es : List Elem) → elems_of (row_made (op_made o es)) ≡ op_elems o es
unfolding elems_of row_made op_made op_elems
elems_of_made R.Null es = refl
elems_of_made (R.Refused k) es = refl
elems_of_made (R.Plain u) es = refl
elems_of_made R.Empty es = refl
elems_of_made (R.Steps a s n) es = refl
elems_of_made (R.Resized k f) es = refl
elems_of_made (R.Replaced f t k) es = refl
elems_of_made (R.Removed f k) es = refl
