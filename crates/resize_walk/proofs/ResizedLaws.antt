-- What is done to a row by its count and its fill is what resize does to it.
use Rattle.std.specs.Prelude.{Option, None, Some, IfSome, is_some}
use Prim.Native.Nat.{ℕ, ◌+◌, ◌-◌}
use mathlib.Core.Path.{◌≡◌, refl, sym, ◌∙◌}
use mathlib.Core.Bool.{Bool, true, false}
use mathlib.Core.List.{List}
use lib.IntN.{ℤ}
use lib.ListN.{length}
use Rattle.model.specs.Basics.{pick, tab}
use Rattle.model.specs.Bitmap.{Bits, valid_at}
use Rattle.model.specs.Column.{Elem, Row, Column, Arguments, elem_at, offset_at, length_at, row_count}
use Rattle.model.specs.Form.{is_row, elems_of, flat}
use Rattle.model.specs.Limits.{Limits}
use Rattle.model.specs.Rows.{row_made}
use Rattle.model.proofs.BoolLaws.{never_true}
use Rattle.model.proofs.TabLaws.{tab_ext}
use Rattle.bitmap.specs.Push.{push_bit}
use Rattle.column.specs.Put.{RoomInˡ, RoomForElemsˡ, Writesˡ}
use Rattle.column.specs.Rows.{RoomForRowˡ, WritesRowˡ}
use Rattle.rows.specs.Cells.{Cell, Fill}
use Rattle.ops.specs.Ops.{table, is_resize, resize_op, valid_op, row_op_of, op_elems, op_made}
use Rattle.ops.specs.declared.ListOp.{ListOp}
use Rattle.ops.specs.declared.ListOp.TheVariants as L
use Rattle.ops.specs.RowOp as R
use Rattle.arguments.specs.Taken.{taken_at, op_at, Serves, Served}
use Rattle.made_rows.specs.Made.{made_from, made_at, row_made_at, call_rows}
use Rattle.made_rows.proofs.CallLaws.{rows_at}
use Rattle.resize_walk.specs.Resized.{count_for, fill_for, fills_of}

-- the fills can be read, where they are taken
pub fills_served : (op : ListOp) {n : ℕ} {x y z : Arguments} → is_resize op ≡ true → Served op n x y z → IfSome (fills_of op y) (λ a. Serves false n a)
unfolding table fills_of
fills_served (L.Plain u) h s = never_true (sym h)
fills_served L.Slice h s = never_true (sym h)
fills_served L.SliceBy h s = never_true (sym h)
fills_served L.Resize h s = tt
fills_served L.ResizeWith h s = s.second refl
fills_served L.Replace h s = never_true (sym h)
fills_served L.Remove h s = never_true (sym h)

-- a null count makes a null row, another one a row of as many elements
pub count_bit : (k : Cell) (f : Fill) (es : List Elem) → is_row (row_made (op_made (resize_op k f) es)) ≡ is_some k
unfolding is_row row_made op_made resize_op
count_bit None f es = refl
count_bit (Some z) f es = refl

pub count_elems : (k : Cell) (f : Fill) (es : List Elem) → elems_of (row_made (op_made (resize_op k f) es)) ≡ op_elems (resize_op k f) es
unfolding elems_of row_made op_made op_elems resize_op
count_elems None f es = refl
count_elems (Some z) f es = refl

-- where there is room for the row, there is for its elements
pub count_room : (k : Cell) (f : Fill) (es : List Elem) {r at lr lv le : ℕ} → RoomForRowˡ (row_made (op_made (resize_op k f) es)) r at lr lv le → RoomForElemsˡ (op_elems (resize_op k f) es) at lv le
count_room k f es m = rw (← count_elems k f es) (record { values = m.values; elements = m.elements })

-- a row's bit and its elements make the row
pub count_put : (k : Cell) (f : Fill) (es : List Elem) {b : Bool} {r at n : ℕ} {ro ro' : List ℕ} {vo vo' : List ℤ} {eo eo' : List ℕ} → b ≡ is_some k → ro' ≡ push_bit ro r b
    → Writesˡ (op_elems (resize_op k f) es) at vo vo' eo eo' n → WritesRowˡ (row_made (op_made (resize_op k f) es)) r at ro ro' vo vo' eo eo' n
count_put k f es e p w =
    let i = count_bit k f es in
    let q = count_elems k f es in
    record { rows = rw (i, ← e) p; values = rw q w.values; elements = rw q w.elements; place = rw q w.next }

by_count : (valid : Bool) (k : Cell) (f : Fill) → resize_op (pick valid k None) f ≡ pick valid (resize_op k f) R.Null
unfolding resize_op
by_count true k f = refl
by_count false k f = refl

resize-at : (N : Limits) (op : ListOp) (rb : Bits) (x y z : Arguments) (r n : ℕ) → is_resize op ≡ true → resize_op (count_for rb x r) (fill_for (fills_of op y) r) ≡ op_at N op rb x y z r n
unfolding count_for fill_for fills_of op_at row_op_of valid_op table
resize-at N (L.Plain u) rb x y z r n h = never_true (sym h)
resize-at N L.Slice rb x y z r n h = never_true (sym h)
resize-at N L.SliceBy rb x y z r n h = never_true (sym h)
resize-at N L.Resize rb x y z r n h = by_count (valid_at rb r) (taken_at true false x r) None
resize-at N L.ResizeWith rb x y z r n h = by_count (valid_at rb r) (taken_at true false x r) (Some (taken_at true false y r))
resize-at N L.Replace rb x y z r n h = never_true (sym h)
resize-at N L.Remove rb x y z r n h = never_true (sym h)

-- the row that is made of row r; it depends neither on the width nor on a third column
unfoldable pub resized_at : Column → Arguments → Option Arguments → ℕ → Row
resized_at c x fills r = row_made (op_made (resize_op (count_for c.rows x r) (fill_for fills r)) (tab (elem_at c.values c.elements) (offset_at c.offsets r) (length_at c r)))

-- the code's row between a and b is row r's
pub resized_row : (c : Column) (x : Arguments) (fills : Option Arguments) (r a b : ℕ) (k : Cell) (f : Fill)
    → a ≡ offset_at c.offsets r → b ≡ offset_at c.offsets (r + 1) → k ≡ count_for c.rows x r → f ≡ fill_for fills r
    → row_made (op_made (resize_op k f) (tab (elem_at c.values c.elements) a (b - a))) ≡ resized_at c x fills r
unfolding resized_at
resized_row c x fills r a b k f ea eb ek ef = rw (ea, eb, ek, ef)

module _ (N : Limits) (op : ListOp) (c : Column) (x y z : Arguments) (h : is_resize op ≡ true) (fills : Option Arguments) (t : fills ≡ fills_of op y) where
  row_is : (r : ℕ) → resized_at c x fills r ≡ row_made_at N op c x y z r
  unfolding resized_at made_at made_from
  row_is r = rw (t, resize-at N op c.rows x y z r (length_at c r) h)

  -- the rows made, counted by the code's n
  module _ (n : ℕ) (e : n ≡ row_count c.offsets) where
    pub resized-rows : tab (resized_at c x fills) 0 n ≡ call_rows N op c x y z
    resized-rows = tab_ext (resized_at c x fills) (row_made_at N op c x y z) 0 0 n (λ r q. row_is (0 + r)) ∙ rows_at N op c x y z n e

    pub resized-room : {lo lo' lr lv le : ℕ} → RoomInˡ (row_count c.offsets) (length (flat (call_rows N op c x y z))) lo lr lv le → lo' ≡ lo → RoomInˡ n (length (flat (tab (resized_at c x fills) 0 n))) lo' lr lv le
    resized-room m q = rw (q, resized-rows, e) m
