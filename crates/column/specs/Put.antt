-- Writing, slot after slot: what writing elements and rows makes of the outputs.
use Rattle.std.specs.Prelude.{ℕ, ◌+◌, ◌≤◌, ◌≡◌, false, List, [], ◌∷◌, map, length, set, ℤ, pos}
use Rattle.std.proofs.lemmas.List.Edits.{sets}
use Rattle.model.specs.Bitmap.{Bits, bytes_for}
use Rattle.model.specs.Column.{Elem, Row, Column, row_count, refusal1}
use Rattle.model.specs.Form.{is_val, value_of, is_row, elems_of, flat, over, form_offsets, form_rows, form_values, form_elements}
use Rattle.bitmap.specs.Push.{Covers, push_bit, push_bits}

-- four outputs, and the rows and the elements written so far
pub record Outs : Type 0 where
  pub offsets : List ℤ
  pub rows : List ℕ
  pub values : List ℤ
  pub elements : List ℕ
  pub r : ℕ
  pub at : ℕ

abbrev pub outs : List ℤ → List ℕ → List ℤ → List ℕ → ℕ → ℕ → Outs
outs o r v e i a = record { offsets = o; rows = r; values = v; elements = e; r = i; at = a }

-- elements written from place k on
abbrev pub put_values : List ℤ → ℕ → List Elem → List ℤ
put_values d k es = sets d k (map value_of es)

abbrev pub put_elements : List ℕ → ℕ → List Elem → List ℕ
put_elements d k es = push_bits d k (map is_val es)

abbrev pub put_row : Outs → Row → Outs
put_row s w =
    outs
    (set s.offsets (s.r + 1) (pos (s.at + length (elems_of w))))
    (push_bit s.rows s.r (is_row w))
    (put_values s.values s.at (elems_of w))
    (put_elements s.elements s.at (elems_of w))
    (s.r + 1)
    (s.at + length (elems_of w))

unfoldable pub put_rows : Outs → List Row → Outs
put_rows s [] = s
put_rows s (w ∷ ws) = put_rows (put_row s w) ws

-- a column that refusals 13, 1 and 2 don't apply to
pub record Readable (c : Column) : Type 0 where
  pub offsets : refusal1 c ≡ false
  pub rows : Covers c.rows (row_count c.offsets)
  pub elements : Covers c.elements (length c.values)

-- room in outputs of these lengths for n rows and k elements
pub record RoomInˡ (n k lo lr lv le : ℕ) : Type 0 where
  pub offsets : n + 1 ≤ lo
  pub rows : bytes_for n ≤ lr
  pub values : k ≤ lv
  pub elements : bytes_for k ≤ le

-- the outputs hold the result form of the rows ws, over what was there before
pub record Fillsˡ (ws : List Row) (oo oo' : List ℤ) (ro ro' : List ℕ) (vo vo' : List ℤ) (eo eo' : List ℕ) : Type 0 where
  pub offsets : oo' ≡ over (form_offsets ws) oo
  pub rows : ro' ≡ over (form_rows ws) ro
  pub values : vo' ≡ over (form_values (flat ws)) vo
  pub elements : eo' ≡ over (form_elements (flat ws)) eo

-- n elements from element a on are there to be read
pub record ReadableElemsˡ (vs : List ℤ) (eb : Bits) (a n : ℕ) : Type 0 where
  pub inside : a + n ≤ length vs
  pub bits : Covers eb (length vs)

-- room for the elements es from place k on
pub record RoomForElemsˡ (es : List Elem) (k lv le : ℕ) : Type 0 where
  pub values : k + length es ≤ lv
  pub elements : bytes_for (k + length es) ≤ le

-- the elements es were written from place k on, and r is the place after them
pub record Writesˡ (es : List Elem) (k : ℕ) (vo vo' : List ℤ) (eo eo' : List ℕ) (r : ℕ) : Type 0 where
  pub values : vo' ≡ put_values vo k es
  pub elements : eo' ≡ put_elements eo k es
  pub next : r ≡ k + length es

-- the outputs of a value answer hold the result form of the values es, over what was there before
pub record FillsValuesˡ (es : List Elem) (vo vo' : List ℤ) (ro ro' : List ℕ) : Type 0 where
  pub values : vo' ≡ over (form_values es) vo
  pub rows : ro' ≡ over (form_elements es) ro
