-- Slice: the places that it takes of a row. And what refuses it.
use Rattle.std.specs.Prelude.{ℕ, zero, suc, ◌+◌, ◌-◌, ◌*◌, ◌/◌, Bool, true, false, List, leb, ltb, eqb, get_or, ℤ, pos, negsuc}
use Rattle.std.specs.Int.Signed.{mag}
use Rattle.model.specs.Basics.{pick, tab}
use Rattle.model.specs.Limits.{Limits}
use Rattle.model.specs.Column.{Elem, nul}

-- "fit 32 signed bits", −2147483648 to 2147483647: `mag` of −(n+1) is n, so −2147483648 gives 2147483647 and fits; of large
-- lists: "4 and 6 never occur"
unfoldable pub fits : Limits → ℤ → Bool
fits L z = pick L.every true (leb (mag z) L.offset)

-- a bound: a number that does not fit, a bound outside the row, or the place counted from 0
pub data Bound : Type 0 where
  unfit : Bound
  outside : Bound
  place : ℕ → Bound

-- "From 0 or 1 is the first place; a negative bound counts from the end of the row; a from below minus the length is the first place."
unfoldable pub from_place : ℕ → ℤ → ℕ
from_place n (pos i) = i - 1
from_place n (negsuc i) = n - (i + 1)

-- "A bound still outside gives empty."
unfoldable pub in_row : ℕ → ℕ → Bound
in_row n p = pick (ltb p n) (place p) outside

unfoldable pub from_bound : Limits → ℕ → ℤ → Bound
from_bound L n z = pick (fits L z) (in_row n (from_place n z)) unfit

-- "A to past the end is the last place; to −1 is the last place, included"
unfoldable pub to_place : ℕ → ℤ → Bound
to_place n (pos zero) = outside
to_place n (pos (suc i)) = in_row n (pick (ltb i n) i (n - 1))
to_place n (negsuc i) = pick (ltb i n) (place (n - (i + 1))) outside

unfoldable pub to_bound : Limits → ℕ → ℤ → Bound
to_bound L n z = pick (fits L z) (to_place n z) unfit

-- what a slice comes to: a refusal's number, no places, or so many from a place on by a stride
pub data Plan : Type 0 where
  refuse : ℕ → Plan
  empty : Plan
  places : ℕ → ℤ → ℕ → Plan

-- "Their number is the distance divided by the stride's size, plus 1."
unfoldable pub step_count : ℕ → ℕ → ℤ → ℕ
step_count a b (pos k) = (b - a) / k + 1
step_count a b (negsuc k) = (a - b) / (k + 1) + 1

-- "a stride against the direction"; "Equal bounds give one place for either sign."
unfoldable pub against : ℕ → ℕ → ℤ → Bool
against a b (pos k) = ltb b a
against a b (negsuc k) = ltb a b

unfoldable pub is_zero : ℤ → Bool
is_zero (pos k) = eqb k 0
is_zero (negsuc k) = false

-- "Then stride 0; then a stride against the direction gives empty; then stride size."
unfoldable pub strided : Limits → ℕ → ℕ → ℤ → Plan
strided L a b s = pick (is_zero s) (refuse 5) (pick (against a b s) empty (pick (fits L s) (places a s (step_count a b s)) (refuse 6)))

-- "4 if from, then 4 if to, doesn't fit 32 signed bits; 5 for stride 0 when both bounds fall in the row"
unfoldable pub between : Limits → Bound → Bound → ℤ → Plan
between L unfit t s = refuse 4
between L outside unfit s = refuse 4
between L outside outside s = empty
between L outside (place b) s = empty
between L (place a) unfit s = refuse 4
between L (place a) outside s = empty
between L (place a) (place b) s = strided L a b s

-- "an empty row stays empty"
unfoldable pub slice_plan : Limits → ℕ → ℤ → ℤ → ℤ → Plan
slice_plan L n f t s = pick (eqb n 0) empty (between L (from_bound L n f) (to_bound L n t) s)

-- "Positions run from from by stride"
unfoldable pub step_from : ℕ → ℤ → ℕ → ℕ
step_from a (pos s) k = a + k * s
step_from a (negsuc s) k = a - k * (s + 1)

unfoldable pub sliced : ℕ → ℤ → ℕ → List Elem → List Elem
sliced a s n es = tab (λ k. get_or es (step_from a s k) nul) 0 n
