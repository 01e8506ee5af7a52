-- Where an index points in a row.
use Rattle.std.specs.Prelude.{ℕ, zero, suc, ◌+◌, ◌-◌, List, ltb, ℤ, pos, negsuc, get_or, Option, None, Some}
use Rattle.model.specs.Basics.{pick}
use Rattle.model.specs.Limits.{Limits}
use Rattle.model.specs.Column.{Elem, nul}
use Rattle.model.specs.Slice.{Bound, unfit, outside, place, in_row, fits}

-- in a row of n elements, "1 is first, −1 last; 0 or outside gives null"
unfoldable pub index_place : ℕ → ℤ → Bound
index_place n (pos zero) = outside
index_place n (pos (suc i)) = in_row n i
index_place n (negsuc i) = pick (ltb i n) (place (n - (i + 1))) outside

unfoldable pub index_bound : Limits → ℕ → ℤ → Bound
index_bound L n z = pick (fits L z) (index_place n z) unfit

-- the bound that a signed number tells in a row of n elements
unfoldable pub place_in : ℕ → ℤ → Bound
place_in n (pos p) = in_row n p
place_in n (negsuc p) = outside

-- the place of a bound that has one
unfoldable pub place_of : Bound → Option ℕ
place_of unfit = None
place_of outside = None
place_of (place p) = Some p

-- the place of a bound, or n where it has none
unfoldable pub place_or : Bound → ℕ → ℕ
place_or unfit n = n
place_or outside n = n
place_or (place p) n = p

-- the element that a bound takes of a row
unfoldable pub taken : Bound → List Elem → Elem
taken unfit es = nul
taken outside es = nul
taken (place p) es = get_or es p nul
