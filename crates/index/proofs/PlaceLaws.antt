-- For the caller: what an index takes of a row, and that its place is inside.
use mathlib.Core.Path.{◌≡◌, refl}
use mathlib.Core.Bool.{Bool, true, false}
use mathlib.Core.List.{List}
use Prim.Native.Nat.{ℕ, ◌≤◌, ◌<◌}
use native.Mathlib.Omega.{arith}
use lib.IntN.{ℤ}
use lib.ListN.{length, get_or-eq_default}
use Rattle.model.specs.Basics.{pick}
use Rattle.model.specs.Limits.{Limits}
use Rattle.model.specs.Column.{Elem}
use Rattle.model.specs.Elements.{element_at}
use Rattle.model.specs.Slice.{Bound, place, in_row, fits}
use Rattle.index.specs.Place.{index_place, index_bound, place_of, place_or, taken}
use Rattle.std.proofs.Common.{unwrap_or}

pub pick_cases : {A : Type 0} (t : Bool) (x y : A) (P : A → Type 0) → (t ≡ true → P x) → (t ≡ false → P y) → P (pick t x y)
pick_cases true x y P f g = f refl
pick_cases false x y P f g = g refl

-- an index that does not fit is past a row of at most the largest offset
pub element-taken : (L : Limits) (es : List Elem) (z : ℤ) → length es ≤ L.offset → element_at es z ≡ taken (index_bound L (length es) z) es
unfolding fits in_row element_at index_place index_bound taken
element-taken L es z h = grind (arith, get_or-eq_default)

-- the place of a bound, or the length, by the place that it has
pub place_or_told : (b : Bound) (n : ℕ) → unwrap_or (place_of b) n ≡ place_or b n
unfolding place_of place_or
place_or_told b n = grind arith

pub place_inside : (L : Limits) (n p : ℕ) (z : ℤ) → index_bound L n z ≡ place p → p < n
unfolding in_row index_place index_bound
place_inside L n p z e = grind arith

-- the place of a bound, or the length, is at most the length
pub place-most : (L : Limits) (n : ℕ) (z : ℤ) → place_or (index_bound L n z) n ≤ n
unfolding in_row index_place index_bound place_or
place-most L n z = grind arith
