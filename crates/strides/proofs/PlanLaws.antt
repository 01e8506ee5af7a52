-- For the caller of the strided copy: the places of a slice plan lie in the row, and are at least one and no more than the row has.
use mathlib.Core.Bool.{false}
use mathlib.Core.Path.{◌≡◌, subst}
use Prim.Native.Nat.{ℕ, zero, suc, ◌+◌, ◌-◌, ◌/◌, ◌<◌, ◌≤◌}
use native.Mathlib.Nat.{div-mul-le_self, div-le_self}
use native.Mathlib.Omega.{arith}
use borrow.Author.Tests.{ltb-true, ltb-false}
use lib.Dec.{ltb, eqb}
use lib.IntN.{ℤ, pos, negsuc}
use Rattle.model.specs.Basics.{pick}
use Rattle.model.specs.Limits.{Limits}
use Rattle.model.specs.Slice.{Bound, unfit, outside, place, fits, from_place, in_row, from_bound, to_place, to_bound, Plan, refuse, empty, places, step_count, against, is_zero, strided, between, slice_plan}
use Rattle.index.proofs.PlaceLaws.{pick_cases}
use Rattle.strides.specs.Strides.{Reaches, Walks}

-- k places from a on by a stride, of a row of n elements
pub record InRow (n a : ℕ) (s : ℤ) (k : ℕ) : Type 0 where
  pub some : 0 < k
  pub few : k ≤ n
  pub reach : Reaches a s k n

-- ---- bounds

unfoldable Inside : ℕ → Bound → Type 0
Inside n unfit = Unit {0}
Inside n outside = Unit {0}
Inside n (place p) = p < n

row_inside : (n p : ℕ) → Inside n (in_row n p)
unfolding Inside in_row
row_inside n p = pick_cases (ltb p n) (place p) outside (Inside n) (λ t. ltb-true p n t) (λ t. tt)

from-inside : (L : Limits) (n : ℕ) (z : ℤ) → Inside n (from_bound L n z)
unfolding Inside from_bound
from-inside L n z = pick_cases (fits L z) (in_row n (from_place n z)) unfit (Inside n) (λ t. row_inside n (from_place n z)) (λ t. tt)

place_inside : (n : ℕ) (z : ℤ) → Inside n (to_place n z)
unfolding Inside to_place
place_inside n (pos zero) = tt
place_inside n (pos (suc i)) = row_inside n (pick (ltb i n) i (n - 1))
place_inside n (negsuc i) = pick_cases (ltb i n) (place (n - (i + 1))) outside (Inside n) (λ t. let h = ltb-true i n t in omega arith) (λ t. tt)

to_inside : (L : Limits) (n : ℕ) (z : ℤ) → Inside n (to_bound L n z)
unfolding Inside to_bound
to_inside L n z = pick_cases (fits L z) (to_place n z) unfit (Inside n) (λ t. place_inside n z) (λ t. tt)

-- ---- plans

-- the places between two bounds inside the row, by a stride that is not against them
pub steps_in_row : (n a b : ℕ) (s : ℤ) → a < n → b < n → against a b s ≡ false → InRow n a s (step_count a b s)
unfolding Reaches step_count against
steps_in_row n a b (pos k) h l d =
    let m = ltb-false b a d in
    let e : (b - a) / k + 1 - 1 ≡ (b - a) / k = omega arith in
    record { some = omega arith; few = omega (arith, div-le_self (b - a) k); reach = rw e (omega (arith, div-mul-le_self (b - a) k)) }
steps_in_row n a b (negsuc k) h l d =
    let e : (a - b) / (k + 1) + 1 - 1 ≡ (a - b) / (k + 1) = omega arith in
    record { some = omega arith; few = omega (arith, div-le_self (a - b) (k + 1)); reach = rw e (omega (arith, div-mul-le_self (a - b) (k + 1)), h) }

unfoldable Good : ℕ → Plan → Type 0
Good n (refuse j) = Unit {0}
Good n empty = Unit {0}
Good n (places a s k) = InRow n a s k

strided_good : (L : Limits) (n a b : ℕ) (s : ℤ) → a < n → b < n → Good n (strided L a b s)
unfolding Good strided
strided_good L n a b s h l =
    pick_cases (is_zero s) (refuse 5) _ (Good n) (λ z. tt)
    (λ z. pick_cases (against a b s) empty _ (Good n) (λ d. tt)
    (λ d. pick_cases (fits L s) (places a s (step_count a b s)) (refuse 6) (Good n) (λ f. steps_in_row n a b s h l d) (λ f. tt)))

between_good : (L : Limits) (n : ℕ) (p q : Bound) (s : ℤ) → Inside n p → Inside n q → Good n (between L p q s)
unfolding Good Inside between
between_good L n unfit q s h l = tt
between_good L n outside unfit s h l = tt
between_good L n outside outside s h l = tt
between_good L n outside (place b) s h l = tt
between_good L n (place a) unfit s h l = tt
between_good L n (place a) outside s h l = tt
between_good L n (place a) (place b) s h l = strided_good L n a b s h l

plan_good : (L : Limits) (n : ℕ) (f t s : ℤ) → Good n (slice_plan L n f t s)
unfolding Good slice_plan
plan_good L n f t s = pick_cases (eqb n 0) empty _ (Good n) (λ e. tt) (λ e. between_good L n (from_bound L n f) (to_bound L n t) s (from-inside L n f) (to_inside L n t))

pub plan_in_row : (L : Limits) (n : ℕ) (f t s : ℤ) (a : ℕ) (d : ℤ) (k : ℕ) → slice_plan L n f t s ≡ places a d k → InRow n a d k
unfolding Good
plan_in_row L n f t s a d k e = subst (Good n) e (plan_good L n f t s)

-- what the strided copy asks of a plan's numbers
pub plan_walks : (L : Limits) (n : ℕ) (f t s : ℤ) (a : ℕ) (d : ℤ) (k : ℕ) → n ≤ 9223372036854775807 → slice_plan L n f t s ≡ places a d k → Walks a d k n
plan_walks L n f t s a d k h e = record { small = h; reach = λ l. (plan_in_row L n f t s a d k e).reach }
