-- The slices of a C entry's call, at entry and at exit, in the order of its parameters.
use Rattle.std.specs.Prelude.{List, ℕ, ℤ, length}
use Rattle.std.specs.Borrow.{Bor, MutBor}
use denote.Triple.Both.{Both}
use Rattle.model.specs.Form.{Room, ValueRoom}
use Rattle.model.specs.Column.{Column, Arguments}
use Rattle.model.specs.View.{View, ViewRoom}
use Rattle.model.specs.Contract.{Slice, MutSlice, room_of, value_room, view_room}
use Rattle.model.specs.Inner.{lent_from, lent_arguments_from}
use Rattle.typed.specs.Flat.{lent_view}

-- the four slices of a list column, lent, for an answer or as a tray
pub record Slices : Type 0 where
  pub offsets : MutSlice ℤ
  pub rows : MutSlice ℕ
  pub values : MutSlice ℤ
  pub elements : MutSlice ℕ

-- the two of an argument column, or of a value answer
pub record Pair : Type 0 where
  pub values : MutSlice ℤ
  pub bits : MutSlice ℕ

-- a number that is passed by value, at entry and at exit
abbrev pub Number : Type 0
Number = Both ℕ ℕ

-- a list column that is lent to an operation: its slices, and each bitmap's starting bit
pub record LentList : Type 0 where
  pub offsets : Slice ℤ
  pub rows : Slice ℕ
  pub rows_start : Number
  pub values : Slice ℤ
  pub elements : Slice ℕ
  pub elements-start : Number

-- and an argument column
pub record LentValues : Type 0 where
  pub values : Slice ℤ
  pub bits : Slice ℕ
  pub start : Number

-- the column that slices hold as the call begins, and the places that they have
abbrev pub list_lent : LentList → Column
list_lent c = lent_from c.offsets c.rows c.rows_start.entry c.values c.elements c.elements-start.entry

abbrev pub values_lent : LentValues → Arguments
values_lent x = lent_arguments_from x.values x.bits x.start.entry

abbrev pub slices_room : Slices → Room
slices_room o = room_of o.offsets o.rows o.values o.elements

abbrev pub pair_room : Pair → ValueRoom
pair_room o = value_room (length o.values.entry.now) (length o.bits.entry.now)

-- slices among a function's parameters, before the others, at entry and at exit
abbrev pub Before2 : Type 0 → Type 0
Before2 A = Bor (List ℤ) × (Bor (List ℕ) × A)

abbrev pub MutBefore2 : Type 0 → Type 0
MutBefore2 A = MutBor (List ℤ) × (MutBor (List ℕ) × A)

abbrev pub Before4 : Type 0 → Type 0
Before4 A = MutBefore2 (MutBefore2 A)

abbrev pub entry4 : {A : Type 0} → Slices → A → Before4 A
entry4 c k = (c.offsets.entry, (c.rows.entry, (c.values.entry, (c.elements.entry, k))))

abbrev pub exit4 : {A : Type 0} → Slices → A → Before4 A
exit4 c k = (c.offsets.exit, (c.rows.exit, (c.values.exit, (c.elements.exit, k))))

abbrev pub entry2 : {A : Type 0} → Pair → A → MutBefore2 A
entry2 x k = (x.values.entry, (x.bits.entry, k))

abbrev pub exit2 : {A : Type 0} → Pair → A → MutBefore2 A
exit2 x k = (x.values.exit, (x.bits.exit, k))

abbrev pub Before3 : Type 0 → Type 0
Before3 A = Before2 (ℕ × A)

abbrev pub entry6 : {A : Type 0} → LentList → A → Before3 (Before3 A)
entry6 c k = (c.offsets.entry, (c.rows.entry, (c.rows_start.entry, (c.values.entry, (c.elements.entry, (c.elements-start.entry, k))))))

abbrev pub exit6 : {A : Type 0} → LentList → A → Before3 (Before3 A)
exit6 c k = (c.offsets.exit, (c.rows.exit, (c.rows_start.exit, (c.values.exit, (c.elements.exit, (c.elements-start.exit, k))))))

abbrev pub entry3 : {A : Type 0} → LentValues → A → Before3 A
entry3 x k = (x.values.entry, (x.bits.entry, (x.start.entry, k)))

abbrev pub exit3 : {A : Type 0} → LentValues → A → Before3 A
exit3 x k = (x.values.exit, (x.bits.exit, (x.start.exit, k)))

-- a ListView column that is lent, and the five slices of one that is written
pub record LentView : Type 0 where
  pub offsets : Slice ℤ
  pub sizes : Slice ℤ
  pub rows : Slice ℕ
  pub rows_start : Number
  pub values : Slice ℤ
  pub elements : Slice ℕ
  pub elements-start : Number

pub record ViewSlices : Type 0 where
  pub offsets : MutSlice ℤ
  pub sizes : MutSlice ℤ
  pub rows : MutSlice ℕ
  pub values : MutSlice ℤ
  pub elements : MutSlice ℕ

abbrev pub view_lent : LentView → View
view_lent c = lent_view c.offsets c.sizes c.rows c.rows_start.entry c.values c.elements c.elements-start.entry

abbrev pub view_slices_room : ViewSlices → ViewRoom
view_slices_room o = view_room (length o.offsets.entry.now) (length o.sizes.entry.now) (length o.rows.entry.now) (length o.values.entry.now) (length o.elements.entry.now)

abbrev pub Before7 : Type 0 → Type 0
Before7 A = Bor (List ℤ) × Before3 (Before3 A)

abbrev pub entry7 : {A : Type 0} → LentView → A → Before7 A
entry7 c k = (c.offsets.entry, (c.sizes.entry, (c.rows.entry, (c.rows_start.entry, (c.values.entry, (c.elements.entry, (c.elements-start.entry, k)))))))

abbrev pub exit7 : {A : Type 0} → LentView → A → Before7 A
exit7 c k = (c.offsets.exit, (c.sizes.exit, (c.rows.exit, (c.rows_start.exit, (c.values.exit, (c.elements.exit, (c.elements-start.exit, k)))))))

abbrev pub entry5 : {A : Type 0} → ViewSlices → A → MutBor (List ℤ) × Before4 A
entry5 c k = (c.offsets.entry, (c.sizes.entry, (c.rows.entry, (c.values.entry, (c.elements.entry, k)))))

abbrev pub exit5 : {A : Type 0} → ViewSlices → A → MutBor (List ℤ) × Before4 A
exit5 c k = (c.offsets.exit, (c.sizes.exit, (c.rows.exit, (c.values.exit, (c.elements.exit, k)))))
