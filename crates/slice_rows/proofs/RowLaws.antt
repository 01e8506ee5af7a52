-- Laws of a slice's row: what its plan makes of it, and the row that its bit and its elements make.
use Prim.Native.Nat.{ℕ}
use mathlib.Core.Path.{◌≡◌, refl}
use mathlib.Core.Bool.{Bool, true, false, ◌&&◌}
use mathlib.Core.List.{List, []}
use lib.IntN.{ℤ}
use Rattle.model.specs.Column.{Elem, Row}
use Rattle.model.specs.Form.{is_row, elems_of}
use Rattle.model.specs.Rows.{row_made}
use Rattle.model.specs.Slice.{sliced}
use Rattle.bitmap.specs.Push.{push_bit}
use Rattle.column.specs.Put.{Writesˡ}
use Rattle.column.specs.Rows.{WritesRowˡ}
use Rattle.std.specs.Prelude.{None, Some, Ok, Err, is_ok}
use Rattle.model.specs.declared.Refusal.{Refusal}
use Rattle.index.specs.Plan.{SlicePlan}
use Rattle.index.specs.declared.slice.Steps.{Steps}
use Rattle.strides.specs.Strides.{Walks}
use Rattle.ops.specs.Ops.{plan_op, op_elems, op_made}
use Rattle.row_ops.specs.Doable.{Doable}
use Rattle.slice_rows.specs.Sliced.{NullEmpty, op_if}

-- ---- the elements that a plan makes of es

module _ (p : SlicePlan) (es : List Elem) where
  pub empty_elems : p ≡ Ok None → op_elems (plan_op p) es ≡ []
  unfolding op_elems plan_op
  empty_elems e = rw e

  pub refused_elems : (k : Refusal) → p ≡ Err k → op_elems (plan_op p) es ≡ []
  unfolding op_elems plan_op
  refused_elems k e = rw e

  pub steps_elems : (t : Steps) → p ≡ Ok (Some t) → op_elems (plan_op p) es ≡ sliced t.start t.stride t.count es
  unfolding op_elems plan_op
  steps_elems t e = rw e

pub steps_walk : (p : SlicePlan) (t : Steps) (n : ℕ) → p ≡ Ok (Some t) → Doable (plan_op p) n → Walks t.start t.stride t.count n
unfolding Doable plan_op
steps_walk p t n e d = rw e at d

-- ---- the row

pub planned_bit : (valid : Bool) (p : SlicePlan) (es : List Elem) → NullEmpty valid p → is_row (row_made (op_made (op_if valid p) es)) ≡ valid && is_ok p
unfolding is_row row_made op_made op_if plan_op
planned_bit true (Ok None) es h = refl
planned_bit true (Ok (Some t)) es h = refl
planned_bit true (Err k) es h = refl
planned_bit false p es h = refl

pub planned_elems : (valid : Bool) (p : SlicePlan) (es : List Elem) → NullEmpty valid p → elems_of (row_made (op_made (op_if valid p) es)) ≡ op_elems (plan_op p) es
unfolding elems_of row_made op_made op_elems op_if plan_op
planned_elems true (Ok None) es h = refl
planned_elems true (Ok (Some t)) es h = refl
planned_elems true (Err k) es h = refl
planned_elems false p es h = rw (h refl)

pub planned_doable : (valid : Bool) (p : SlicePlan) (n : ℕ) → NullEmpty valid p → Doable (op_if valid p) n → Doable (plan_op p) n
unfolding Doable op_if plan_op
planned_doable true p n h d = d
planned_doable false p n h d = rw (h refl) tt

-- a row's elements and its bit make the row
pub row_put : (w : Row) (b : Bool) (es : List Elem) {r at k : ℕ} {ro ro' : List ℕ} {vo vo' : List ℤ} {eo eo' : List ℕ} → is_row w ≡ b → elems_of w ≡ es → ro' ≡ push_bit ro r b → Writesˡ es at vo vo' eo eo' k → WritesRowˡ w r at ro ro' vo vo' eo eo' k
row_put w b es i q p t = record { rows = rw i p; values = rw q t.values; elements = rw q t.elements; place = rw q t.next }
