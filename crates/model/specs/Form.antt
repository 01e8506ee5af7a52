-- Result form and counts. "Results begin at offset 0; bitmaps are always written, spare bits 0; null rows of a list answer are
-- empty; null elements, and null slots of a value answer, hold 0: that is result form. Slots past the result keep their content.";
-- in place of that 0 now: "Null slots in results of every operation, recipe, import and export now hold −9223372036854775808. Result
-- form changes with them."
use Rattle.std.specs.Prelude.{ℕ, ◌+◌, Bool, true, false, ◌&&◌, List, [], ◌∷◌, ◌++◌, map, length, drop, ℤ, pos, negsuc, leb}
use Rattle.model.specs.Bitmap.{pack, bytes_for, nulls}
use Rattle.model.specs.Column.{Elem, nul, val, Row, null_row, list_row}

-- what a null slot of a result holds
abbrev pub under_null : ℤ
under_null = negsuc 9223372036854775807

unfoldable pub is_val : Elem → Bool
is_val nul = false
is_val (val v) = true

unfoldable pub value_of : Elem → ℤ
value_of nul = under_null
value_of (val v) = v

unfoldable pub is_row : Row → Bool
is_row null_row = false
is_row (list_row es) = true

unfoldable pub elems_of : Row → List Elem
elems_of null_row = []
elems_of (list_row es) = es

-- all elements, row after row
unfoldable pub flat : List Row → List Elem
flat [] = []
flat (w ∷ ws) = elems_of w ++ flat ws

abbrev pub length_of : Row → ℕ
length_of w = length (elems_of w)

-- the offsets of lists of these lengths, the first at a
unfoldable pub offsets_from : ℕ → List ℕ → List ℤ
offsets_from a [] = pos a ∷ []
offsets_from a (n ∷ ns) = pos a ∷ offsets_from (a + n) ns

-- a list answer's four slices
abbrev pub form_offsets : List Row → List ℤ
form_offsets ws = offsets_from 0 (map length_of ws)

abbrev pub form_rows : List Row → List ℕ
form_rows ws = pack (map is_row ws)

abbrev pub form_values : List Elem → List ℤ
form_values es = map value_of es

abbrev pub form_elements : List Elem → List ℕ
form_elements es = pack (map is_val es)

-- "every count being that of the rows made"
abbrev pub null_rows : List Row → ℕ
null_rows ws = nulls (map is_row ws)

abbrev pub null_elems : List Elem → ℕ
null_elems es = nulls (map is_val es)

-- list-repeat's rows: a null or a list of rows
pub data Outer : Type 0 where
  null_outer : Outer
  list_outer : List Row → Outer

unfoldable pub is_outer : Outer → Bool
is_outer null_outer = false
is_outer (list_outer ws) = true

unfoldable pub inner_of : Outer → List Row
inner_of null_outer = []
inner_of (list_outer ws) = ws

-- all inner rows, outer row after outer row
unfoldable pub inner : List Outer → List Row
inner [] = []
inner (o ∷ os) = inner_of o ++ inner os

abbrev pub outer_length : Outer → ℕ
outer_length o = length (inner_of o)

-- w written over the beginning of d: slots past it keep their content
abbrev pub over : {A : Type 0} → List A → List A → List A
over w d = w ++ drop (length w) d

-- the lengths of the four slices lent for a list answer, of the two for a value answer, and of list-repeat's six; `rows` is how
-- many bytes are lent for the row bitmap, and not how many rows
pub record Room : Type 0 where
  pub offsets : ℕ
  pub rows : ℕ
  pub values : ℕ
  pub elements : ℕ

pub record ValueRoom : Type 0 where
  pub values : ℕ
  pub rows : ℕ

pub record RepeatRoom : Type 0 where
  pub outer-offsets : ℕ
  pub outer_rows : ℕ
  pub lists : Room

-- "9: an output slice too short for the result"
abbrev pub fits_in : ℕ → ℕ → Room → Bool
fits_in rows elems l = leb (rows + 1) l.offsets && leb (bytes_for rows) l.rows && leb elems l.values && leb (bytes_for elems) l.elements

abbrev pub fits_values : ℕ → ValueRoom → Bool
fits_values rows l = leb rows l.values && leb (bytes_for rows) l.rows

abbrev pub fits_repeat : List Outer → RepeatRoom → Bool
fits_repeat os l =
    leb (length os + 1) l.outer-offsets && leb (bytes_for (length os)) l.outer_rows && fits_in (length (inner os)) (length (flat (inner os))) l.lists
