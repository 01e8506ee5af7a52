-- What reverse and the pops make of a list for which no bitmap is lent.
use Rattle.std.specs.Prelude.{ℕ, ◌+◌, ◌-◌, ◌≡◌, Bool, true, false, ◌&&◌, List, eqb, ℤ, pos, length, get_or}
use Rattle.model.specs.Basics.{tab}
use Rattle.model.specs.Column.{Elem, val, Row, list_row, offset_at, row_count}
use Rattle.model.specs.Elements.{unary_elems}
use Rattle.model.specs.Form.{flat, over, form_offsets, form_values}
use Rattle.model.specs.declared.Unary.{Unary}
use Rattle.model.specs.declared.Unary.TheVariants.{Reverse, Distinct, PopFront, PopBack}
use Rattle.column.specs.Put.{put_values}
use Rattle.column.specs.Outputs.{SameLists}
use Rattle.column.specs.declared.lists.ListOutput.{ListOutput}

-- does the operation take a row's elements by their places alone
unfoldable pub copies : Unary → Bool
copies Reverse = true
copies Distinct = false
copies PopFront = true
copies PopBack = true

-- no bitmap is lent, and the operation takes elements by their places
unfoldable pub is_bare : Unary → List ℕ → List ℕ → Bool
is_bare u rows elements = eqb (length rows) 0 && (eqb (length elements) 0 && copies u)

-- element i of values without a bitmap
abbrev pub bare_elem : List ℤ → ℕ → Elem
bare_elem vs i = val (get_or vs i (pos 0))

-- the n elements from place a on
abbrev pub bare_elems : List ℤ → ℕ → ℕ → List Elem
bare_elems vs a n = tab (bare_elem vs) a n

-- the row that is made of row r
abbrev pub bare_at : Unary → List ℤ → List ℤ → ℕ → Row
bare_at u o vs r = list_row (unary_elems u (bare_elems vs (offset_at o r) (offset_at o (r + 1) - offset_at o r)))

unfoldable pub bare_rows : Unary → List ℤ → List ℤ → List Row
bare_rows u o vs = tab (bare_at u o vs) 0 (row_count o)

-- the values of the elements es were written from place k on, and r is the place after them
pub record WritesBare (es : List Elem) (k : ℕ) (vo vo' : List ℤ) (r : ℕ) : Type 0 where
  pub values : vo' ≡ put_values vo k es
  pub next : r ≡ k + length es

-- the offsets and the values of the result form of the rows ws were written, and m is the number of elements
pub record WritesFormˡ (ws : List Row) (oo oo' vo vo' : List ℤ) (m : ℕ) : Type 0 where
  pub offsets : oo' ≡ over (form_offsets ws) oo
  pub values : vo' ≡ over (form_values (flat ws)) vo
  pub count : m ≡ length (flat ws)

-- the same, said of an output whose bits stay as they were; numbers are those of its offsets
pub record WritesForm {A : Type 0} (numbers : List A → List ℤ) (ws : List Row) (o o' : ListOutput A) (m : ℕ) : Type 0 where
  pub written : WritesFormˡ ws (numbers o.offsets.now) (numbers o'.offsets.now) o.elements.now.values.now o'.elements.now.values.now m
  pub rows : o'.rows.now ≡ o.rows.now
  pub bits : o'.elements.now.bits.now ≡ o.elements.now.bits.now
  pub same : SameLists o o'
