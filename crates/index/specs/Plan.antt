-- The plan of a slice and its stride as the code has them, and what the code's inner functions ask and tell.
use Rattle.std.specs.Prelude.{ℕ, ◌*◌, ◌<◌, eqb, Option, None, Some, Result, Ok, Err, Bool, true, false, ◌≡◌, T, ℤ, pos, negsuc, nat_abs}
use Rattle.std.specs.Int.Signed.{non_neg}
use Rattle.model.specs.Limits.{Limits, InRange}
use Rattle.model.specs.Column.{count}
use Rattle.model.specs.Slice.{Bound, outside, place, Plan, refuse, empty, places, against, is_zero}
use Rattle.model.specs.Basics.{pick}
use Rattle.model.specs.declared.Refusal.{Refusal}
use Rattle.model.specs.declared.Refusal.TheVariants.{WideIndex, ZeroStride, WideStride}
use Rattle.index.specs.declared.slice.Steps.{Steps}

abbrev pub SlicePlan : Type 0
SlicePlan = Result (Option Steps) Refusal

-- the refusals of a slice by their numbers: 4, 5 and 6
unfoldable pub refusal_of : ℕ → Refusal
refusal_of k = pick (eqb k 4) WideIndex (pick (eqb k 5) ZeroStride WideStride)

-- the plan as the code answers it
unfoldable pub plan_of : Plan → SlicePlan
plan_of (refuse k) = Err (refusal_of k)
plan_of empty = Ok None
plan_of (places a s n) = Ok (Some (record { start = a; stride = s; count = n }))

-- "absent stride is 1"
unfoldable pub stride_in : Option ℤ → ℤ
stride_in None = pos 1
stride_in (Some s) = s

-- the bound that a signed number tells: below 0 it is outside the row
unfoldable pub place_told : ℤ → Bound
place_told (pos p) = place p
place_told (negsuc p) = outside

-- the length of a row, as a signed number
pub record IsLength (L : Limits) (x : ℤ) : Type 0 where
  pub natural : T (non_neg x)
  pub range : InRange L x

-- a place of the longest row, as a signed number
pub record IsPlace (L : Limits) (x : ℤ) : Type 0 where
  pub natural : T (non_neg x)
  pub small : nat_abs x < L.offset

-- a number below 0
unfoldable pub is_below : ℤ → Bool
is_below (pos k) = false
is_below (negsuc k) = true

-- eight times a stride below 0, as a signed number
pub record Eight (L : Limits) (s z : ℤ) : Type 0 where
  pub below : is_below z ≡ true
  pub size : nat_abs z ≡ nat_abs s * 8
  pub range : InRange L z

-- a stride that leads from the place a to the place b
pub record Suits (L : Limits) (a b s : ℤ) : Type 0 where
  pub from : IsPlace L a
  pub to : IsPlace L b
  pub some : is_zero s ≡ false
  pub direction : against (count a) (count b) s ≡ false
