-- Laws of one row: its refusal and its length.
use Rattle.std.specs.Prelude.{Option, None, Some}
use Prim.Native.Nat.{ℕ, ◌≤◌}
use mathlib.Core.Path.{◌≡◌, refl, sym, ◌∙◌, subst}
use mathlib.Core.Bool.{Bool, true, false, not}
use mathlib.Core.List.{List}
use native.Mathlib.Omega.{arith}
use lib.Dec.{T}
use lib.IntN.{ℤ}
use lib.ListN.{length}
use Rattle.model.specs.Bitmap.{Bits, valid_at}
use Rattle.model.specs.Column.{Elem, Arguments, count}
use Rattle.model.specs.Form.{is_row}
use Rattle.model.specs.Limits.{Limits}
use Rattle.model.specs.Refusals.{refusal_of}
use Rattle.model.specs.Rows.{row_made}
use Rattle.model.specs.Slice.{Plan, refuse, empty, places, slice_plan}
use Rattle.index.specs.Plan as I
use Rattle.set_elements.proofs.ElementLaws.{unary_le}
use Rattle.strides.proofs.PlanLaws.{plan_in_row, plan_walks}
use Rattle.matches.proofs.RowOpLaws.{length-replaced, length_removed}
use Rattle.strides.proofs.StrideLaws.{length-sliced}
use Rattle.rows.specs.Cells.{Cell, Fill, elem_of}
use Rattle.model.specs.declared.Unary.{Unary}
use Rattle.ops.specs.Ops.{is_resize, plan_op, slice_op, stride_op, resize_op, replace_op, remove_op, valid_op, row_op_of, op_elems, op_null, op_made, table}
use Rattle.row_ops.specs.Doable.{Doable}
use Rattle.ops.specs.declared.ListOp.{ListOp}
use Rattle.ops.specs.declared.ListOp.TheVariants as L
use Rattle.ops.specs.RowOp.{RowOp}
use Rattle.ops.specs.RowOp as R
use Rattle.arguments.specs.Taken.{op_at}
use Rattle.made_rows.specs.Made.{op_refusal}

-- ---- the row that is made

pub refusal-made : (o : RowOp) (es : List Elem) → op_refusal o ≡ refusal_of (op_made o es)
unfolding op_refusal refusal_of op_made
refusal-made R.Null es = refl
refusal-made (R.Refused k) es = refl
refusal-made (R.Plain u) es = refl
refusal-made R.Empty es = refl
refusal-made (R.Steps a s n) es = refl
refusal-made (R.Resized k f) es = refl
refusal-made (R.Replaced f t k) es = refl
refusal-made (R.Removed f k) es = refl

pub is_row-made : (o : RowOp) (es : List Elem) (null : Bool) → null ≡ op_null o → is_row (row_made (op_made o es)) ≡ not null
unfolding is_row row_made op_made op_null
is_row-made R.Null es n e = rw e
is_row-made (R.Refused k) es n e = rw e
is_row-made (R.Plain u) es n e = rw e
is_row-made R.Empty es n e = rw e
is_row-made (R.Steps a s k) es n e = rw e
is_row-made (R.Resized k f) es n e = rw e
is_row-made (R.Replaced f t k) es n e = rw e
is_row-made (R.Removed f k) es n e = rw e

-- ---- a slice's places lie in the row

-- what holds of every plan's operation, holds of a row's
module _ (N : Limits) (n : ℕ) (P : RowOp → Type 0) (null : P R.Null) (plan : (f t s : ℤ) → P (plan_op (I.plan_of (slice_plan N n f t s)))) where
  slice_all : (f t : Cell) (s : Option ℤ) → P (slice_op N n f t s)
  unfolding slice_op
  slice_all None t s = null
  slice_all (Some f) None s = null
  slice_all (Some f) (Some t) s = plan f t (I.stride_in s)

  stride_all : (f t s : Cell) → P (stride_op N n f t s)
  unfolding stride_op
  stride_all f t None = null
  stride_all f t (Some s) = slice_all f t (Some s)

  module _ (plain : (u : Unary) → P (R.Plain u)) (replaced : (f t : Cell) (k : ℕ) → P (R.Replaced f t k)) (removed : (f : Cell) (k : ℕ) → P (R.Removed f k)) where
    replace_all : (f t k : Cell) → P (replace_op f t k)
    unfolding replace_op
    replace_all f t None = null
    replace_all f t (Some k) = replaced f t (count k)

    remove_all : (f k : Cell) → P (remove_op f k)
    unfolding remove_op
    remove_all None k = null
    remove_all (Some v) None = null
    remove_all (Some v) (Some k) = removed (Some v) (count k)

    valid_all : (op : ListOp) → (is_resize op ≡ true → (x : Cell) (f : Fill) → P (resize_op x f)) → (x y z : Cell) → P (valid_op N op n x y z)
    unfolding valid_op table
    valid_all (L.Plain u) h x y z = plain u
    valid_all L.Slice h x y z = slice_all x y None
    valid_all L.SliceBy h x y z = stride_all x y z
    valid_all L.Resize h x y z = h refl x None
    valid_all L.ResizeWith h x y z = h refl x (Some y)
    valid_all L.Replace h x y z = replace_all x y z
    valid_all L.Remove h x y z = remove_all x y

plan_doable : (N : Limits) (n : ℕ) (f t s : ℤ) (p : Plan) → n ≤ 9223372036854775807 → slice_plan N n f t s ≡ p → Doable (plan_op (I.plan_of p)) n
unfolding Doable plan_op I.plan_of
plan_doable N n f t s (refuse k) h e = tt
plan_doable N n f t s empty h e = tt
plan_doable N n f t s (places a d k) h e = plan_walks N n f t s a d k h e

resize_doable : (n : ℕ) (x : Cell) (f : Fill) → Doable (resize_op x f) n
unfolding Doable resize_op
resize_doable n None f = tt
resize_doable n (Some k) f = tt

pub doable : (N : Limits) (op : ListOp) (valid : Bool) (n : ℕ) (x y z : Cell) → n ≤ 9223372036854775807 → Doable (row_op_of N op valid n x y z) n
unfolding Doable row_op_of
doable N op false n x y z h = tt
doable N op true n x y z h =
    valid_all N n (λ o. Doable o n) tt (λ f t s. plan_doable N n f t s (slice_plan N n f t s) h refl) (λ u. tt) (λ f t k. tt) (λ f k. tt) op (λ t x f. resize_doable n x f) x y z

pub op_doable : (N : Limits) (op : ListOp) (rb : Bits) (x y z : Arguments) (r n : ℕ) (o : RowOp) → o ≡ op_at N op rb x y z r n → n ≤ 9223372036854775807 → Doable o n
unfolding op_at
op_doable N op rb x y z r n o e h = rw e (doable N op (valid_at rb r) n _ _ _ h)

-- ---- no row grows but by resize

plan_le : (N : Limits) (n : ℕ) (es : List Elem) (f t s : ℤ) (p : Plan) → length es ≡ n → slice_plan N n f t s ≡ p → length (op_elems (plan_op (I.plan_of p)) es) ≤ n
unfolding op_elems plan_op I.plan_of
plan_le N n es f t s (refuse k) h e = omega arith
plan_le N n es f t s empty h e = omega arith
plan_le N n es f t s (places a d k) h e = omega (arith, length-sliced a d k es, (plan_in_row N n f t s a d k e).few)

pub op_le : (N : Limits) (op : ListOp) (valid : Bool) (n : ℕ) (es : List Elem) (x y z : Cell) → length es ≡ n → is_resize op ≡ false → length (op_elems (row_op_of N op valid n x y z) es) ≤ n
unfolding op_elems row_op_of
op_le N op false n es x y z h r = omega arith
op_le N op true n es x y z h r =
    valid_all N n (λ o. length (op_elems o es) ≤ n) (omega arith) (λ f t s. plan_le N n es f t s (slice_plan N n f t s) h refl) (λ u. omega (arith, unary_le u es)) (λ f t k. omega (arith, length-replaced (elem_of f) (elem_of t) k es)) (λ f k. omega (arith, length_removed (elem_of f) k es)) op (λ t. absurd (subst T (sym t ∙ r) tt)) x y z
