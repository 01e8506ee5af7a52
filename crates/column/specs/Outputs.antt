-- What reading and writing ask and do, said of columns and outputs: a `requires` speaks of an output as it is then, `out.old`, an `ensures` of it
-- at entry and at exit, `out.old` and `out.new`.
use Rattle.std.specs.Prelude.{ℕ, ◌+◌, Bool, ◌&&◌, List, ℤ, leb, length, ◌≡◌}
use Rattle.model.specs.Answers.{ListAnswer, RepeatAnswer, ValueAnswer}
use Rattle.model.specs.Bitmap.{bytes_for}
use Rattle.model.specs.Column.{Elem, Row}
use Rattle.model.specs.Contract.{ListMeets, RepeatMeets, ValueMeets, Zeroed, repeat_room, room, value_room}
use Rattle.model.specs.Form.{Outer, RepeatRoom, Room, ValueRoom, fits_in}
use Rattle.model.specs.Outcome.{Outcome}
use Rattle.bitmap.specs.Reads.{bits_in}
use Rattle.bitmap.specs.declared.Validity.{Validity}
use Rattle.column.specs.Put.{RoomInˡ, ReadableElemsˡ, RoomForElemsˡ, Writesˡ, Fillsˡ, FillsValuesˡ}
use Rattle.column.specs.Rows.{ReadableRowˡ, RoomForRowˡ, WritesRowˡ}
use Rattle.column.specs.declared.elements.ValueColumn.{ValueColumn}
use Rattle.column.specs.declared.elements.ValueOutput.{ValueOutput}
use Rattle.column.specs.declared.lists.ListOutput.{ListOutput}
use Rattle.column.specs.declared.lists.OuterOutput.{OuterOutput}

-- n elements from element a on are there to be read
abbrev pub ReadableElems : ValueColumn → ℕ → ℕ → Type 0
ReadableElems c a n = ReadableElemsˡ c.values.now (bits_in c.bits) a n

-- row r of n, between a and b, is there to be read
abbrev pub ReadableRow : Validity → ℕ → ValueColumn → ℕ → ℕ → ℕ → Type 0
ReadableRow rows n c r a b = ReadableRowˡ (bits_in rows) n c.values.now (bits_in c.bits) r a b

-- the lengths of the slices
abbrev pub value_room_in : ValueOutput → ValueRoom
value_room_in o = value_room (length o.values.now) (length o.bits.now)

abbrev pub room_in : {A : Type 0} → ListOutput A → Room
room_in o = room (length o.offsets.now) (length o.rows.now) (length o.elements.now.values.now) (length o.elements.now.bits.now)

abbrev pub repeat_room_in : {A : Type 0} → OuterOutput A → ListOutput A → RepeatRoom
repeat_room_in o i =
    repeat_room (length o.offsets.now) (length o.rows.now) (length i.offsets.now) (length i.rows.now) (length i.elements.now.values.now) (length i.elements.now.bits.now)

-- "9: an output slice too short for the result", of so many outer rows, lists and elements
abbrev pub fits_counts : ℕ → ℕ → ℕ → RepeatRoom → Bool
fits_counts n lists m l = leb (n + 1) l.outer-offsets && leb (bytes_for n) l.outer_rows && fits_in lists m l.lists

-- the slices are those that they were, whatever they hold
pub record SameValues (o o' : ValueOutput) : Type 0 where
  pub values : o'.values.ghost_name ≡ o.values.ghost_name
  pub bits : o'.bits.ghost_name ≡ o.bits.ghost_name

pub record SameLists {A : Type 0} (o o' : ListOutput A) : Type 0 where
  pub offsets : o'.offsets.ghost_name ≡ o.offsets.ghost_name
  pub rows : o'.rows.ghost_name ≡ o.rows.ghost_name
  pub elements : o'.elements.ghost_name ≡ o.elements.ghost_name
  pub values : o'.elements.now.values.ghost_name ≡ o.elements.now.values.ghost_name
  pub bits : o'.elements.now.bits.ghost_name ≡ o.elements.now.bits.ghost_name

pub record SameOuters {A : Type 0} (o o' : OuterOutput A) : Type 0 where
  pub offsets : o'.offsets.ghost_name ≡ o.offsets.ghost_name
  pub rows : o'.rows.ghost_name ≡ o.rows.ghost_name

-- there is room for n rows and k elements
abbrev pub RoomFor : {A : Type 0} → ℕ → ℕ → ListOutput A → Type 0
RoomFor n k o = RoomInˡ n k (length o.offsets.now) (length o.rows.now) (length o.elements.now.values.now) (length o.elements.now.bits.now)

-- there is room for the elements es from place k on
abbrev pub RoomForElems : List Elem → ℕ → ValueOutput → Type 0
RoomForElems es k o = RoomForElemsˡ es k (length o.values.now) (length o.bits.now)

-- there is room for row w after r rows and at elements
abbrev pub RoomForRow : {A : Type 0} → Row → ℕ → ℕ → ListOutput A → Type 0
RoomForRow w r at o = RoomForRowˡ w r at (length o.rows.now) (length o.elements.now.values.now) (length o.elements.now.bits.now)

-- the elements es are written from place k on; r is the place after them
pub record Writes (es : List Elem) (k : ℕ) (o o' : ValueOutput) (r : ℕ) : Type 0 where
  pub written : Writesˡ es k o.values.now o'.values.now o.bits.now o'.bits.now r
  pub same : SameValues o o'

-- row w is written after r rows and at elements, but for its offset; k is the place after them
pub record WritesRow {A : Type 0} (w : Row) (r at : ℕ) (o o' : ListOutput A) (k : ℕ) : Type 0 where
  pub written : WritesRowˡ w r at o.rows.now o'.rows.now o.elements.now.values.now o'.elements.now.values.now o.elements.now.bits.now o'.elements.now.bits.now k
  pub offsets : o'.offsets.now ≡ o.offsets.now
  pub same : SameLists o o'

-- the result form of the rows ws is written, over what was there; numbers are those of the offsets
pub record Fills {A : Type 0} (numbers : List A → List ℤ) (ws : List Row) (o o' : ListOutput A) : Type 0 where
  pub filled : Fillsˡ ws (numbers o.offsets.now) (numbers o'.offsets.now) o.rows.now o'.rows.now o.elements.now.values.now o'.elements.now.values.now o.elements.now.bits.now o'.elements.now.bits.now
  pub same : SameLists o o'

-- the result form of the values es is written, over what was there
pub record FillsValues (es : List Elem) (o o' : ValueOutput) : Type 0 where
  pub filled : FillsValuesˡ es o.values.now o'.values.now o.bits.now o'.bits.now
  pub same : SameValues o o'

-- the contract of a list operation: the answer and the outputs are what f gives for the lengths lent
pub record ListAnswers {A : Type 0} (numbers : List A → List ℤ) (f : Room → Outcome (List Row)) (a : ListAnswer) (o o' : ListOutput A) : Type 0 where
  pub meets : ListMeets (f (room_in o)) a (numbers o.offsets.now) (numbers o'.offsets.now) o.rows.now o'.rows.now o.elements.now.values.now o'.elements.now.values.now o.elements.now.bits.now o'.elements.now.bits.now
  pub same : SameLists o o'

-- the contract of an operation that gives one value a row
pub record ValueAnswers (f : ValueRoom → Outcome (List Elem)) (a : ValueAnswer) (o o' : ValueOutput) : Type 0 where
  pub meets : ValueMeets (f (value_room_in o)) a o.values.now o'.values.now o.bits.now o'.bits.now
  pub same : SameValues o o'

-- the contract of list-repeat
pub record RepeatAnswers {A : Type 0} (numbers : List A → List ℤ) (f : RepeatRoom → Outcome (List Outer)) (a : RepeatAnswer) (o o' : OuterOutput A) (i i' : ListOutput A) : Type 0 where
  pub meets :
      RepeatMeets (f (repeat_room_in o i)) a (numbers o.offsets.now) (numbers o'.offsets.now) o.rows.now o'.rows.now
      (numbers i.offsets.now) (numbers i'.offsets.now) i.rows.now i'.rows.now
      i.elements.now.values.now i'.elements.now.values.now i.elements.now.bits.now i'.elements.now.bits.now
  pub outer : SameOuters o o'
  pub lists : SameLists i i'

-- the four slices of a tray are zero as the call returns
pub record Clears {A : Type 0} (numbers : List A → List ℤ) (o o' : ListOutput A) : Type 0 where
  pub zeroed : Zeroed (room_in o) (numbers o'.offsets.now) o'.rows.now o'.elements.now.values.now o'.elements.now.bits.now
  pub same : SameLists o o'
