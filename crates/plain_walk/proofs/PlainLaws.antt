-- A plain operation makes the same rows whatever the arguments are, and refuses none.
use Prim.Native.Nat.{ℕ, zero, suc, ◌+◌, ◌-◌, ◌≤◌}
use mathlib.Core.Path.{◌≡◌, refl, sym, ◌∙◌}
use mathlib.Core.Bool.{Bool, true, false}
use mathlib.Core.List.{List}
use native.Mathlib.Omega.{arith}
use lib.IntN.{ℤ}
use lib.ListN.{length}
use Rattle.model.specs.Basics.{pick, tab}
use Rattle.model.specs.Bitmap.{valid_at}
use Rattle.model.specs.Column.{Elem, Row, Column, Arguments, elem_at, offset_at, length_at, row_count}
use Rattle.model.specs.Elements.{unary_elems}
use Rattle.model.specs.Form.{elems_of, flat, is_row}
use Rattle.model.specs.Limits.{Limits}
use Rattle.model.specs.Outcome.{made}
use Rattle.model.specs.Refusals.{first_of, refusal_of}
use Rattle.model.specs.Rows.{row_made}
use Rattle.model.specs.declared.Unary.{Unary}
use Rattle.model.proofs.OutcomeLaws.{gate_open}
use Rattle.model.proofs.TabLaws.{length-tab, tab_ext}
use Rattle.bitmap.specs.Push.{push_bit}
use Rattle.column.specs.Put.{RoomInˡ, Fillsˡ, Writesˡ}
use Rattle.column.specs.Rows.{WritesRowˡ}
use Rattle.column.proofs.RowLaws.{elem_plain}
use Rattle.set_elements.proofs.ElementLaws.{unary_le}
use Rattle.ops.specs.Ops.{row_op_of, valid_op, op_elems, op_made}
use Rattle.ops.specs.declared.ListOp.TheVariants as L
use Rattle.ops.specs.RowOp as R
use Rattle.arguments.specs.Taken.{op_at}
use Rattle.made_rows.specs.Made.{made_from, made_at, row_made_at, refusal_at, call_rows, rows_measure}
use Rattle.made_rows.proofs.CallLaws.{rows_at, room_at}
use Rattle.bare_walk.specs.Bare.{bare_elem, bare_elems, bare_at, bare_rows}
use Rattle.plain_walk.specs.Plain.{plain_row, none, plain_rows}

-- ---- one row

plain-made : (valid : Bool) (u : Unary) (es : List Elem) → plain_row valid u es ≡ row_made (op_made (pick valid (R.Plain u) R.Null) es)
unfolding plain_row row_made op_made op_elems
plain-made true u es = refl
plain-made false u es = refl

pub plain_elems : (valid : Bool) (u : Unary) (es : List Elem) → valid ≡ true → elems_of (plain_row valid u es) ≡ unary_elems u es
unfolding plain_row elems_of
plain_elems valid u es h = rw h

-- its bit, and its elements, are the row
pub plain_written : (valid : Bool) (u : Unary) (es : List Elem) {r at k : ℕ} {ro ro' : List ℕ} {vo vo' : List ℤ} {eo eo' : List ℕ}
    → Writesˡ (elems_of (plain_row valid u es)) at vo vo' eo eo' k → ro' ≡ push_bit ro r valid → WritesRowˡ (plain_row valid u es) r at ro ro' vo vo' eo eo' k
unfolding plain_row is_row
plain_written true u es w p = record { rows = p; values = w.values; elements = w.elements; place = w.next }
plain_written false u es w p = record { rows = p; values = w.values; elements = w.elements; place = w.next }

plain_le : (valid : Bool) (u : Unary) (es : List Elem) → length (elems_of (plain_row valid u es)) ≤ length es
unfolding plain_row elems_of
plain_le true u es = unary_le u es
plain_le false u es = omega arith

plain-refuses : (valid : Bool) (u : Unary) (es : List Elem) → refusal_of (op_made (pick valid (R.Plain u) R.Null) es) ≡ 0
unfolding refusal_of op_made
plain-refuses true u es = refl
plain-refuses false u es = refl

none_first : (K : ℕ → ℕ) → ((r : ℕ) → K r ≡ 0) → (a n : ℕ) → first_of (tab K a n) ≡ 0
unfolding tab first_of
none_first K h a zero = refl
none_first K h a (suc n) = rw (h a) (none_first K h (suc a) n)

module _ (N : Limits) (u : Unary) (c : Column) where
  -- the row that is made of row r
  abbrev pub plain_at : ℕ → Row
  plain_at r = row_made_at N (L.Plain u) c none none none r

  -- the code's row between a and b is row r's
  module _ (r a b : ℕ) (valid : Bool) (ea : a ≡ offset_at c.offsets r) (eb : b ≡ offset_at c.offsets (r + 1)) (ev : valid ≡ valid_at c.rows r) where
    pub plain_row_lem : plain_row valid u (tab (elem_at c.values c.elements) a (b - a)) ≡ plain_at r
    unfolding made_at made_from op_at row_op_of valid_op
    plain_row_lem = rw (ev, ea, eb) (plain-made (valid_at c.rows r) u (tab (elem_at c.values c.elements) (offset_at c.offsets r) (length_at c r)))

    pub plain-small : length (elems_of (plain_row valid u (tab (elem_at c.values c.elements) a (b - a)))) ≤ b - a
    plain-small = omega (arith, plain_le valid u (tab (elem_at c.values c.elements) a (b - a)), length-tab (elem_at c.values c.elements) a (b - a))

  -- the rows made, counted by the code's n
  module _ (n : ℕ) (e : n ≡ row_count c.offsets) where
    pub plain_rows_lem : tab plain_at 0 n ≡ plain_rows N u c
    unfolding plain_rows
    plain_rows_lem = rows_at N (L.Plain u) c none none none n e

    pub plain-room : {lo lo' lr lv le : ℕ} → RoomInˡ (row_count c.offsets) (length (flat (plain_rows N u c))) lo lr lv le → lo' ≡ lo → RoomInˡ n (length (flat (tab plain_at 0 n))) lo' lr lv le
    unfolding plain_rows
    plain-room = room_at N (L.Plain u) c none none none n e

  -- ---- the call

  pub plain-any : (x y z : Arguments) → call_rows N (L.Plain u) c x y z ≡ plain_rows N u c
  unfolding plain_rows call_rows made_at made_from op_at row_op_of valid_op
  plain-any x y z = refl

  refuses-none : (x y z : Arguments) (r : ℕ) → refusal_at N (L.Plain u) c x y z r ≡ 0
  unfolding made_at made_from op_at row_op_of valid_op
  refuses-none x y z r = plain-refuses (valid_at c.rows r) u _

  pub plain_measure : (x y z : Arguments) → rows_measure N (L.Plain u) c x y z ≡ made (length (flat (plain_rows N u c)))
  unfolding rows_measure
  plain_measure x y z = rw (none_first (refusal_at N (L.Plain u) c x y z) (refuses-none x y z) 0 (row_count c.offsets), gate_open 0 (made (length (flat (call_rows N (L.Plain u) c x y z)))) refl, plain-any x y z)

  -- ---- where no bitmap is lent

  module _ (nr : length c.rows.bytes ≡ 0) (ne : length c.elements.bytes ≡ 0) where
    bare_elems_lem : (a n : ℕ) → tab (elem_at c.values c.elements) a n ≡ bare_elems c.values a n
    bare_elems_lem a n = tab_ext (elem_at c.values c.elements) (bare_elem c.values) a a n (λ i h. elem_plain c.values c.elements (a + i) ne)

    bare_row : (r : ℕ) → plain_at r ≡ bare_at u c.offsets c.values r
    unfolding plain_row valid_at
    bare_row r =
        sym (plain_row_lem r (offset_at c.offsets r) (offset_at c.offsets (r + 1)) (valid_at c.rows r) refl refl refl)
        ∙ rw (nr, bare_elems_lem (offset_at c.offsets r) (length_at c r))

    pub plain_bare : plain_rows N u c ≡ bare_rows u c.offsets c.values
    unfolding plain_rows call_rows bare_rows
    plain_bare = tab_ext plain_at (bare_at u c.offsets c.values) 0 0 (row_count c.offsets) (λ r h. bare_row (0 + r))

    pub bare_small : {m : ℕ} → length (flat (plain_rows N u c)) ≤ m → length (flat (bare_rows u c.offsets c.values)) ≤ m
    bare_small h = rw (← plain_bare) h

    pub bare_room : {n lo lr lv le : ℕ} → RoomInˡ n (length (flat (plain_rows N u c))) lo lr lv le → RoomInˡ n (length (flat (bare_rows u c.offsets c.values))) lo lr lv le
    bare_room h = rw (← plain_bare) h

    pub bare_fills : {oo oo' vo vo' : List ℤ} {ro ro' eo eo' : List ℕ} → Fillsˡ (bare_rows u c.offsets c.values) oo oo' ro ro' vo vo' eo eo' → Fillsˡ (plain_rows N u c) oo oo' ro ro' vo vo' eo eo'
    bare_fills h = rw plain_bare h
