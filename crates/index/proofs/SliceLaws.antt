-- For the caller: the refusals of a slice have numbers that their names tell.
use mathlib.Core.Path.{◌≡◌}
use Prim.Native.Nat.{ℕ}
use native.Mathlib.Omega.{arith}
use lib.IntN.{ℤ}
use Rattle.model.specs.Answers.{number_of}
use Rattle.model.specs.Limits.{Limits}
use Rattle.model.specs.Slice.{from_bound, to_bound, strided, between, slice_plan, refuse}
use Rattle.index.specs.Plan.{refusal_of}

pub refusal_told : (L : Limits) (n : ℕ) (f t s : ℤ) (k : ℕ) → slice_plan L n f t s ≡ refuse k → number_of (refusal_of k) ≡ k
unfolding from_bound to_bound strided between slice_plan refusal_of
refusal_told L n f t s k e = grind arith
