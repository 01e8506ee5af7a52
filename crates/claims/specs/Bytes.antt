-- What a C entry returned and wrote: the bytes of what a call ends in. Numbers stand in them little-endian (wire, specs/Bytes.antt).
use Rattle.std.specs.Prelude.{ℕ, ◌≡◌, List, [], get_or}
use Rattle.std.specs.Borrow.{Bor, MutBor}
use Rattle.model.specs.Basics.{Lent, absent, given}
use Rattle.model.specs.Column.{Column, Arguments}
use Rattle.model.specs.Call.{End}
use Rattle.model.specs.Contract.{Slice, MutSlice}
use Rattle.model.specs.Form.{Room, ValueRoom, RepeatRoom, over}
use Rattle.model.specs.Tally.{Tally}
use Rattle.wire.specs.Bytes.{bytes_of4, bytes_of8, bytes_of_counts}
use Rattle.entry.specs.Entry.{decoded_from, decoded_arguments_from, bytes_room, bytes_value_room}
use Rattle.entry.specs.Inner.{number_in, counts_in}
use Rattle.entry_repeat.specs.Repeat.{bytes_repeat_room}
use Rattle.tally_bytes.specs.Bytes.{with_tally}
use Rattle.recipe_bytes.specs.Recipe.{Zero}
use Rattle.claims.specs.Slots.{Number}

-- the four slices of a list column in bytes, lent, for an answer or as a tray
pub record ByteSlices : Type 0 where
  pub offsets : MutSlice ℕ
  pub rows : MutSlice ℕ
  pub values : MutSlice ℕ
  pub elements : MutSlice ℕ

-- the two of an argument column, of a value answer, or of outer lists
pub record BytePair : Type 0 where
  pub numbers : MutSlice ℕ
  pub bits : MutSlice ℕ

-- a list column in bytes that is lent to an operation: its slices, and each bitmap's starting bit
pub record ListBytesLent : Type 0 where
  pub offsets : Slice ℕ
  pub rows : Slice ℕ
  pub rows_start : Number
  pub values : Slice ℕ
  pub elements : Slice ℕ
  pub elements-start : Number

-- and an argument column
pub record ValueBytesLent : Type 0 where
  pub numbers : Slice ℕ
  pub bits : Slice ℕ
  pub start : Number

abbrev pub list_in : ListBytesLent → Column
list_in c = decoded_from c.offsets c.rows c.rows_start.entry c.values c.elements c.elements-start.entry

abbrev pub arguments_in : ValueBytesLent → Arguments
arguments_in x = decoded_arguments_from x.numbers x.bits x.start.entry

abbrev pub room_in : ByteSlices → Room
room_in o = bytes_room o.offsets o.rows o.values o.elements

abbrev pub value_room_in : BytePair → ValueRoom
value_room_in o = bytes_value_room o.numbers o.bits

abbrev pub repeat_room_in : BytePair → ByteSlices → RepeatRoom
repeat_room_in b o = bytes_repeat_room b.numbers b.bits o.offsets o.rows o.values o.elements

-- slices among a function's parameters, before the others, at entry and at exit
abbrev pub Before1 : Type 0 → Type 0
Before1 A = Bor (List ℕ) × A

abbrev pub MutBefore1 : Type 0 → Type 0
MutBefore1 A = MutBor (List ℕ) × A

abbrev pub enter4 : {A : Type 0} → ByteSlices → A → MutBefore1 (MutBefore1 (MutBefore1 (MutBefore1 A)))
enter4 c k = (c.offsets.entry, (c.rows.entry, (c.values.entry, (c.elements.entry, k))))

abbrev pub leave4 : {A : Type 0} → ByteSlices → A → MutBefore1 (MutBefore1 (MutBefore1 (MutBefore1 A)))
leave4 c k = (c.offsets.exit, (c.rows.exit, (c.values.exit, (c.elements.exit, k))))

abbrev pub enter2 : {A : Type 0} → BytePair → A → MutBefore1 (MutBefore1 A)
enter2 x k = (x.numbers.entry, (x.bits.entry, k))

abbrev pub leave2 : {A : Type 0} → BytePair → A → MutBefore1 (MutBefore1 A)
leave2 x k = (x.numbers.exit, (x.bits.exit, k))

abbrev pub Before3 : Type 0 → Type 0
Before3 A = Before1 (Before1 (ℕ × A))

abbrev pub enter6 : {A : Type 0} → ListBytesLent → A → Before3 (Before3 A)
enter6 c k = (c.offsets.entry, (c.rows.entry, (c.rows_start.entry, (c.values.entry, (c.elements.entry, (c.elements-start.entry, k))))))

abbrev pub leave6 : {A : Type 0} → ListBytesLent → A → Before3 (Before3 A)
leave6 c k = (c.offsets.exit, (c.rows.exit, (c.rows_start.exit, (c.values.exit, (c.elements.exit, (c.elements-start.exit, k))))))

abbrev pub enter3 : {A : Type 0} → ValueBytesLent → A → Before3 A
enter3 x k = (x.numbers.entry, (x.bits.entry, (x.start.entry, k)))

abbrev pub leave3 : {A : Type 0} → ValueBytesLent → A → Before3 A
leave3 x k = (x.numbers.exit, (x.bits.exit, (x.start.exit, k)))

-- the slice s holds w over what it held as the call began
abbrev pub HoldsOver : List ℕ → MutSlice ℕ → Type 0
HoldsOver w s = s.exit.now ≡ over w s.entry.now

-- written slice i of numbers, and of bitmaps
abbrev pub offset_bytes : End → ℕ → List ℕ
offset_bytes x i = bytes_of4 (get_or x.numbers i [])

abbrev pub value_bytes : End → ℕ → List ℕ
value_bytes x i = bytes_of8 (get_or x.numbers i [])

abbrev pub bitmap_bytes : End → ℕ → List ℕ
bitmap_bytes x i = get_or x.bitmaps i []

-- the number returned, and the counts
pub record AnswerBytes (x : End) (n : ℕ) (c : MutSlice ℕ) : Type 0 where
  pub number : n ≡ number_in x.answer
  pub counts : HoldsOver (bytes_of_counts (counts_in x.answer)) c

-- of a list answer, and of a recipe's
pub record ListBytes (x : End) (n : ℕ) (o : ByteSlices) (c : MutSlice ℕ) : Type 0 where
  pub answer : AnswerBytes x n c
  pub offsets : HoldsOver (offset_bytes x 0) o.offsets
  pub rows : HoldsOver (bitmap_bytes x 0) o.rows
  pub values : HoldsOver (value_bytes x 1) o.values
  pub elements : HoldsOver (bitmap_bytes x 1) o.elements

-- of a value answer
pub record ValueBytes (x : End) (n : ℕ) (o : BytePair) (c : MutSlice ℕ) : Type 0 where
  pub answer : AnswerBytes x n c
  pub values : HoldsOver (value_bytes x 0) o.numbers
  pub rows : HoldsOver (bitmap_bytes x 0) o.bits

-- of list-repeat's, b being the outer lists
pub record RepeatBytes (x : End) (n : ℕ) (b : BytePair) (o : ByteSlices) (c : MutSlice ℕ) : Type 0 where
  pub answer : AnswerBytes x n c
  pub outer-offsets : HoldsOver (offset_bytes x 0) b.numbers
  pub outer_rows : HoldsOver (bitmap_bytes x 0) b.bits
  pub offsets : HoldsOver (offset_bytes x 1) o.offsets
  pub rows : HoldsOver (bitmap_bytes x 1) o.rows
  pub values : HoldsOver (value_bytes x 2) o.values
  pub elements : HoldsOver (bitmap_bytes x 2) o.elements

-- a tally over the first bytes of a slice
unfoldable pub over_tally : Lent Tally → List ℕ → List ℕ
over_tally absent s = s
over_tally (given t) s = with_tally t s

-- "Trays are all zero after any call.": every byte of a tray
pub record ZeroBytes (l : ByteSlices) : Type 0 where
  pub offsets : Zero l.offsets
  pub rows : Zero l.rows
  pub values : Zero l.values
  pub elements : Zero l.elements

-- of a recipe through the trays l and m, with its tally in t
pub record RecipeBytes (x : End) (n : ℕ) (l m o : ByteSlices) (c t : MutSlice ℕ) : Type 0 where
  pub answer : ListBytes x n o c
  pub one : ZeroBytes l
  pub two : ZeroBytes m
  pub tally : t.exit.now ≡ over_tally x.tally t.entry.now
