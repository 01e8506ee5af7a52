-- Writing, outer row after outer row: what that makes of list-repeat's outputs.
use Rattle.std.specs.Prelude.{ℕ, ◌+◌, ◌≤◌, ◌≡◌, List, [], ◌∷◌, map, length, set, ℤ, pos}
use Rattle.model.specs.Bitmap.{bytes_for, pack}
use Rattle.model.specs.Column.{Row}
use Rattle.model.specs.Form.{Outer, is_outer, inner_of, inner, outer_length, flat, over, offsets_from}
use Rattle.model.specs.Limits.{Limits}
use Rattle.bitmap.specs.Push.{push_bit}
use Rattle.column.specs.Outputs.{SameLists, SameOuters}
use Rattle.column.specs.Put.{Outs, outs, put_rows, RoomInˡ, Fillsˡ}
use Rattle.column.specs.declared.lists.ListOutput.{ListOutput}
use Rattle.column.specs.declared.lists.OuterOutput.{OuterOutput}

-- the two outer outputs, the outer rows written so far, and the four outputs of the inner rows
pub record Outers : Type 0 where
  pub offsets : List ℤ
  pub rows : List ℕ
  pub r : ℕ
  pub lists : Outs

abbrev pub outers : List ℤ → List ℕ → ℕ → Outs → Outers
outers o b r s = record { offsets = o; rows = b; r = r; lists = s }

abbrev pub put_outer : Outers → Outer → Outers
put_outer s o =
    outers
    (set s.offsets (s.r + 1) (pos (s.lists.r + outer_length o)))
    (push_bit s.rows s.r (is_outer o))
    (s.r + 1)
    (put_rows s.lists (inner_of o))

unfoldable pub put_outers : Outers → List Outer → Outers
put_outers s [] = s
put_outers s (o ∷ os) = put_outers (put_outer s o) os

-- after i rows and at elements, the rows ws have room in outputs of these lengths, and their offsets can be written
pub record RoomForRowsˡ (L : Limits) (ws : List Row) (i at lo lr lv le : ℕ) : Type 0 where
  pub few : i + length ws ≤ L.outer
  pub small : at + length (flat ws) ≤ L.offset
  pub room : RoomInˡ (i + length ws) (at + length (flat ws)) lo lr lv le

-- room for the outer rows os, and for their inner rows
pub record RoomForOutersˡ (L : Limits) (os : List Outer) (lo lr li lj lv le : ℕ) : Type 0 where
  pub offsets : length os + 1 ≤ lo
  pub rows : bytes_for (length os) ≤ lr
  pub lists : RoomForRowsˡ L (inner os) 0 0 li lj lv le

-- the outputs hold the result form of the outer rows os, over what they held before
pub record FillsOutersˡ (os : List Outer) (oo oo' : List ℤ) (ro ro' : List ℕ) (io io' : List ℤ) (ir ir' : List ℕ) (vo vo' : List ℤ) (eo eo' : List ℕ) : Type 0 where
  pub offsets : oo' ≡ over (offsets_from 0 (map outer_length os)) oo
  pub rows : ro' ≡ over (pack (map is_outer os)) ro
  pub lists : Fillsˡ (inner os) io io' ir ir' vo vo' eo eo'

-- the same, said of outputs; numbers are those of their offsets
abbrev pub RoomForRows : {A : Type 0} → (List A → List ℤ) → Limits → List Row → ℕ → ℕ → ListOutput A → Type 0
RoomForRows numbers L ws i at o = RoomForRowsˡ L ws i at (length (numbers o.offsets.now)) (length o.rows.now) (length o.elements.now.values.now) (length o.elements.now.bits.now)

abbrev pub RoomForOuters : {A : Type 0} → (List A → List ℤ) → Limits → List Outer → OuterOutput A → ListOutput A → Type 0
RoomForOuters numbers L os o i =
    RoomForOutersˡ L os (length (numbers o.offsets.now)) (length o.rows.now)
    (length (numbers i.offsets.now)) (length i.rows.now) (length i.elements.now.values.now) (length i.elements.now.bits.now)

-- the rows ws are written after i rows and at elements; k is the place after them
pub record WritesRows {A : Type 0} (numbers : List A → List ℤ) (ws : List Row) (i at : ℕ) (o o' : ListOutput A) (k : ℕ) : Type 0 where
  pub written : outs (numbers o'.offsets.now) o'.rows.now o'.elements.now.values.now o'.elements.now.bits.now (i + length ws) k ≡ put_rows (outs (numbers o.offsets.now) o.rows.now o.elements.now.values.now o.elements.now.bits.now i at) ws
  pub same : SameLists o o'

-- the result form of the outer rows os is written, over what was there
pub record FillsOuters {A : Type 0} (numbers : List A → List ℤ) (os : List Outer) (o o' : OuterOutput A) (i i' : ListOutput A) : Type 0 where
  pub filled :
      FillsOutersˡ os (numbers o.offsets.now) (numbers o'.offsets.now) o.rows.now o'.rows.now
      (numbers i.offsets.now) (numbers i'.offsets.now) i.rows.now i'.rows.now
      i.elements.now.values.now i'.elements.now.values.now i.elements.now.bits.now i'.elements.now.bits.now
  pub outer : SameOuters o o'
  pub lists : SameLists i i'
