-- What a slice does to a row, by numbers alone: the plan of a row that is null, or has a null argument, is empty.
use Rattle.std.specs.Prelude.{ℕ, ◌<◌, ◌≡◌, Bool, true, false, ◌&&◌, ltb, length, ℤ, pos, get_or, Option, None, Some, Ok, Err, IfSome}
use Rattle.model.specs.Basics.{pick}
use Rattle.model.specs.Bitmap.{Bits, valid_at}
use Rattle.model.specs.Column.{Arguments}
use Rattle.model.specs.Limits.{Limits}
use Rattle.model.specs.Slice.{slice_plan}
use Rattle.bitmap.specs.Push.{Covers}
use Rattle.index.specs.Plan.{SlicePlan, plan_of}
use Rattle.index.specs.declared.slice.Steps.{Steps}
use Rattle.ops.specs.Ops.{takes_of, plan_op}
use Rattle.ops.specs.declared.ListOp.{ListOp}
use Rattle.ops.specs.RowOp.{RowOp}
use Rattle.ops.specs.RowOp as R

-- the argument columns of a slice, which may go without strides
pub record SliceArguments : Type 0 where
  pub from : Arguments
  pub to : Arguments
  pub stride : Option Arguments

-- those of an operation, of the columns that a call lends it
unfoldable pub slice_arguments : ListOp → Arguments → Arguments → Arguments → SliceArguments
slice_arguments op x y z = record { from = x; to = y; stride = pick (ltb 2 (takes_of op)) (Some z) None }

-- is the stride of row r valid, where the slice goes by one
unfoldable pub valid_if : Option Arguments → ℕ → Bool
valid_if None r = true
valid_if (Some z) r = valid_at z.bits r

-- are row r, its from, its to and, where the slice goes by one, its stride valid
unfoldable pub all_valid : Bits → SliceArguments → ℕ → Bool
all_valid rb s r = valid_at rb r && valid_at s.from.bits r && valid_at s.to.bits r && valid_if s.stride r

-- the rows whose bits are read at once, where so many are left
unfoldable pub batch_of : ℕ → ℕ
batch_of left = pick (ltb left 64) 1 64

-- n bits can be read from each of them
pub record Known (n : ℕ) (rb : Bits) (s : SliceArguments) : Type 0 where
  pub rows : Covers rb n
  pub from : Covers s.from.bits n
  pub to : Covers s.to.bits n
  pub stride : IfSome s.stride (λ z. Covers z.bits n)

-- each has an argument for row r
pub record HasRow (s : SliceArguments) (r : ℕ) : Type 0 where
  pub from : r < length s.from.values
  pub to : r < length s.to.values
  pub stride : IfSome s.stride (λ z. r < length z.values)

-- the stride of row r: "absent stride is 1"
unfoldable pub stride_at : Option Arguments → ℕ → ℤ
stride_at None r = pos 1
stride_at (Some z) r = get_or z.values r (pos 0)

-- the plan of row r, of n elements
unfoldable pub plan_at : Limits → Bool → SliceArguments → ℕ → ℕ → SlicePlan
plan_at L valid s r n = pick valid (plan_of (slice_plan L n (get_or s.from.values r (pos 0)) (get_or s.to.values r (pos 0)) (stride_at s.stride r))) (Ok None)

-- the plan of a row that is not valid is empty
abbrev pub NullEmpty : Bool → SlicePlan → Type 0
NullEmpty valid p = valid ≡ false → p ≡ Ok None

-- what is done to the row
unfoldable pub op_if : Bool → SlicePlan → RowOp
op_if valid p = pick valid (plan_op p) R.Null

-- the number of places, none where the slice is empty
unfoldable pub steps_count : Option Steps → ℕ
steps_count None = 0
steps_count (Some s) = s.count

-- the number of elements of a plan
unfoldable pub plan_count : SlicePlan → ℕ
plan_count (Ok s) = steps_count s
plan_count (Err k) = 0
