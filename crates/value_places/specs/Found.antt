-- A place that was looked for in a row, and refusal 4 of a row.
use Rattle.std.specs.Prelude.{ℕ, ◌+◌, ◌≤◌, ◌≡◌, Bool, not, ◌&&◌, ltb, pos, get_or}
use Rattle.model.specs.Basics.{pick, tab}
use Rattle.model.specs.Bitmap.{Bits, valid_at}
use Rattle.model.specs.Column.{Elem, nul, val, Arguments}
use Rattle.model.specs.Elements.{first_valid}
use Rattle.model.specs.Limits.{Limits}
use Rattle.model.specs.Slice.{Bound, unfit, outside, place, fits}
use Rattle.index.specs.Place.{index_bound}

-- a place that was looked for below an end: the element there, or null at the end
abbrev pub found_at : (ℕ → Elem) → ℕ → ℕ → Elem
found_at E i end = pick (ltb i end) (E i) nul

-- what stands at i, or a null at the end, is what any-value makes of the n elements from a on
pub record FirstAt (E : ℕ → Elem) (a n i : ℕ) : Type 0 where
  pub inside : i ≤ a + n
  pub found : found_at E i (a + n) ≡ first_valid (tab E a n)

unfoldable pub bound_place : Bound → ℕ → ℕ → ℕ
bound_place unfit a n = a + n
bound_place outside a n = a + n
bound_place (place p) a n = a + p

-- where an index points among the n elements from a on, or the end
unfoldable pub element_place : Limits → Elem → ℕ → ℕ → ℕ
element_place L nul a n = a + n
element_place L (val z) a n = bound_place (index_bound L n z) a n

-- list and index valid, and the index does not fit
unfoldable pub unfit_at : Limits → Bits → Arguments → ℕ → Bool
unfit_at L rb is r = valid_at rb r && valid_at is.bits r && not (fits L (get_or is.values r (pos 0)))

-- refusal 4 for row r, or 0
abbrev pub four_at : Limits → Bits → Arguments → ℕ → ℕ
four_at L rb is r = pick (unfit_at L rb is r) 4 0
