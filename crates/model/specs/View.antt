-- ListView columns: what one is and shows, when it is well-formed, what it becomes when it is read in, and what a list becomes when it is
-- written as one.
use Rattle.std.specs.Prelude.{ℕ, ◌+◌, ◌<◌, ◌≡◌, Bool, true, false, not, ◌&&◌, ◌||◌, List, [], ◌∷◌, map, ltb, leb, eqb, ℤ, pos, length, get_or}
use Rattle.std.specs.Int.Signed.{lt_z}
use Rattle.model.specs.Basics.{pick, tab, any}
use Rattle.model.specs.Bitmap.{Bits, valid_at, short_bits, bytes_for}
use Rattle.model.specs.Limits.{Limits}
use Rattle.model.specs.Column.{Elem, Row, null_row, list_row, Column, rows_of, count, offset_at, elem_at, over_seven}
use Rattle.model.specs.Form.{Room, flat, length_of, is_row}
use Rattle.model.specs.Outcome.{Outcome, refused, made, gate, columns_refusal, fitted}

-- "Arrow ListView: one signed 32-bit offset and one size a row, in any order, overlaps allowed", beside a row bitmap, values and an
-- element bitmap
pub record View : Type 0 where
  pub offsets : List ℤ
  pub sizes : List ℤ
  pub rows : Bits
  pub values : List ℤ
  pub elements : Bits

abbrev pub view : List ℤ → List ℤ → Bits → List ℤ → Bits → View
view o s r v e = record { offsets = o; sizes = s; rows = r; values = v; elements = e }

-- the size of row r as a count
abbrev pub size_at : View → ℕ → ℕ
size_at c r = offset_at c.sizes r

-- row r: a null, or the elements that its view covers
unfoldable pub view_at : View → ℕ → Row
view_at c r = pick (valid_at c.rows r) (list_row (tab (elem_at c.values c.elements) (offset_at c.offsets r) (size_at c r))) null_row

-- the rows that it shows; "2 counts rows by the offsets"
unfoldable pub view_rows : View → List Row
view_rows c = tab (view_at c) 0 (length c.offsets)

-- ---- refusals

unfoldable pub refusal13ᵛ : View → Bool
refusal13ᵛ c = over_seven c.rows || over_seven c.elements

unfoldable pub refusal2ᵛ : View → Bool
refusal2ᵛ c = short_bits c.rows (length c.offsets) || short_bits c.elements (length c.values)

-- "Offsets and sizes of unequal number give 3"
unfoldable pub refusal3ᵛ : View → Bool
refusal3ᵛ c = not (eqb (length c.sizes) (length c.offsets))

-- is a number not within 0 and n
abbrev pub outside_of : ℕ → ℤ → Bool
outside_of n z = lt_z z (pos 0) || lt_z (pos n) z

-- "Each offset, size and their sum lies within 0 and the number of values, null rows included."
unfoldable pub view_outside : View → ℕ → Bool
view_outside c r =
    outside_of (length c.values) (get_or c.offsets r (pos 0)) || outside_of (length c.values) (get_or c.sizes r (pos 0)) || ltb (length c.values) (offset_at c.offsets r + size_at c r)

-- "11, a view outside the values, tested row by row"
unfoldable pub refusal11 : View → Bool
refusal11 c = any (view_outside c) (tab (λ r. r) 0 (length c.offsets))

-- 13, 2, 3, 11: "after 3 and before 8 and 9"
unfoldable pub view_refusal : View → ℕ
view_refusal c = pick (refusal13ᵛ c) 13 (pick (refusal2ᵛ c) 2 (pick (refusal3ᵛ c) 3 (pick (refusal11 c) 11 0)))

-- "A ListView column is well-formed when none of 2, 3 and 11 applies to it.", and 13
pub record WellFormedᵛ (c : View) : Type 0 where
  pub not13 : refusal13ᵛ c ≡ false
  pub not2 : refusal2ᵛ c ≡ false
  pub not3 : refusal3ᵛ c ≡ false
  pub not11 : refusal11 c ≡ false

-- two views show equal rows, as two columns do
abbrev pub view_place : View → ℕ → ℕ → Elem
view_place c r i = elem_at c.values c.elements (offset_at c.offsets r + i)

pub record EqualViews (c d : View) : Type 0 where
  pub many : length c.offsets ≡ length d.offsets
  pub nulls : (r : ℕ) → r < length c.offsets → valid_at c.rows r ≡ valid_at d.rows r
  pub lengths : (r : ℕ) → r < length c.offsets → valid_at c.rows r ≡ true → size_at c r ≡ size_at d r
  pub places : (r i : ℕ) → r < length c.offsets → valid_at c.rows r ≡ true → i < size_at c r → view_place c r i ≡ view_place d r i

-- ---- import

-- "Import shows the same rows; more than 2147483647 copied elements gives 8", then 9
unfoldable pub import_shown : Limits → List Row → Room → Outcome (List Row)
import_shown L ws l = gate (pick (ltb L.offset (length (flat ws))) 8 0) (fitted ws l)

unfoldable pub import_outcome : Limits → View → Room → Outcome (List Row)
import_outcome L c l = gate (view_refusal c) (import_shown L (view_rows c) l)

-- ---- export

-- the lengths of the five slices lent for a view
pub record ViewRoom : Type 0 where
  pub offsets : ℕ
  pub sizes : ℕ
  pub rows : ℕ
  pub values : ℕ
  pub elements : ℕ

-- "Export writes values and bitmaps as in result form, each valid row's offset and size there, and gives null rows offset and size 0"; at is
-- where the row begins there
unfoldable pub view_offsets_from : ℕ → List Row → List ℤ
view_offsets_from at [] = []
view_offsets_from at (w ∷ ws) = pos (pick (is_row w) at 0) ∷ view_offsets_from (at + length_of w) ws

abbrev pub view_offsets : List Row → List ℤ
view_offsets ws = view_offsets_from 0 ws

-- a null row has no elements
abbrev pub view_sizes : List Row → List ℤ
view_sizes ws = map (λ w. pos (length_of w)) ws

abbrev pub fits_view : ℕ → ℕ → ViewRoom → Bool
fits_view rows elems l = leb rows l.offsets && leb rows l.sizes && leb (bytes_for rows) l.rows && leb elems l.values && leb (bytes_for elems) l.elements

unfoldable pub export_shown : List Row → ViewRoom → Outcome (List Row)
export_shown ws l = pick (fits_view (length ws) (length (flat ws)) l) (made ws) (refused 9)

-- 13, 1, 2, then 9
unfoldable pub export_outcome : Column → ViewRoom → Outcome (List Row)
export_outcome c l = gate (columns_refusal (c ∷ []) []) (export_shown (rows_of c) l)
