-- Laws of the operations on two lists: a pair of rows, and the whole call.
use mathlib.Core.Path.{◌≡◌, refl, sym, ◌∙◌}
use mathlib.Core.Bool.{Bool, true, false, ◌&&◌}
use mathlib.Core.List.{List, [], ◌∷◌, map}
use Prim.Native.Nat.{ℕ, zero, suc, ◌+◌, ◌-◌, ◌≤◌, ◌<◌}
use native.Mathlib.Omega.{arith}
use native.Mathlib.Nat.{zero-add}
use borrow.Author.Tests.{eq-eqb, ne_eqb, ltb-false}
use lib.Dec.{ltb}
use lib.IntN.{ℤ}
use lib.ListN.{length}
use Rattle.model.specs.Basics.{tab, pick}
use Rattle.model.specs.Bitmap.{valid_at}
use Rattle.model.specs.Column.{Elem, Row, null_row, list_row, Column, row_at, rows_of, length_at, offset_at, row_count}
use Rattle.model.specs.Elements.{set_elems}
use Rattle.model.specs.Form.{Room, is_row, elems_of, flat}
use Rattle.model.specs.Lengths.{room_for, list_lengths}
use Rattle.model.specs.Limits.{Limits}
use Rattle.model.specs.Rows.{set_op_call, on_rows, on_call, lists_in, arguments_in, makes, made_of, at_row, row_of, rows_in, row_by_row, row_made, rows_made}
use Rattle.model.specs.Refusals.{unequal, first_of, refusal_of, sums_refusal, union_refusal, rows_refusal}
use Rattle.model.specs.Outcome.{refused, gate, columns_refusal, fitted, after_three, list_outcome, early_refusal}
use Rattle.model.specs.Outcome as O
use Rattle.model.specs.declared.SetOp.{SetOp}
use Rattle.model.specs.declared.SetOp.TheVariants.{Union, Intersect}
use Rattle.model.proofs.TabLaws.{length-tab, map-tab, tab_ext}
use Rattle.model.proofs.ColumnLaws.{length-rows, row_at_lem}
use Rattle.model.proofs.EarlyLaws.{or_first, early_outcome, early_lengths}
use Rattle.model.proofs.OutcomeLaws.{gate_open, gate_shut}
use Rattle.bitmap.specs.Push.{push_bit, push_bits}
use Rattle.column.specs.Put.{Readable, RoomInˡ, RoomForElemsˡ, Writesˡ}
use Rattle.column.specs.Rows.{RoomForRowˡ, WritesRowˡ}
use Rattle.column.proofs.OffsetLaws.{mono}
use Rattle.column.proofs.WalkLaws.{Summing, sum_more}
use Rattle.set_rows.specs.Runs.{row_elems}
use Rattle.set_rows.proofs.RunLaws.{length_row}
use Rattle.set_rows.proofs.SetLaws.{set_le, intersect_le_left}
use Rattle.set_walk.specs.Pairs.{Begun, pair_at, pair_rows, bound_of}

-- ---- a pair of rows

pair_if : (f : List Elem → List Elem → List Elem) (x y : Bool) (es fs : List Elem) → on_rows f (pick x (list_row es) null_row) (pick y (list_row fs) null_row) ≡ pick (x && y) (list_row (f es fs)) null_row
unfolding on_rows
pair_if f true true es fs = refl
pair_if f true false es fs = refl
pair_if f false y es fs = refl

elems_if : (v : Bool) (es : List Elem) → elems_of (pick v (list_row es) null_row) ≡ pick v es []
unfolding elems_of
elems_if true es = refl
elems_if false es = refl

is_row_if : (v : Bool) (es : List Elem) → is_row (pick v (list_row es) null_row) ≡ v
unfolding is_row
is_row_if true es = refl
is_row_if false es = refl

-- whatever f makes of the rows r of both columns
module _ (f : List Elem → List Elem → List Elem) (c d : Column) (r : ℕ) where
  abbrev pair_row : Row
  pair_row = on_rows f (row_at c r) (row_at d r)

  abbrev pub made : List Elem
  made = f (row_elems c r) (row_elems d r)

  pair_row_lem : pair_row ≡ pick (valid_at c.rows r && valid_at d.rows r) (list_row made) null_row
  unfolding row_at
  pair_row_lem = pair_if f (valid_at c.rows r) (valid_at d.rows r) (row_elems c r) (row_elems d r)

  none_or : (v : Bool) → length (pick v made []) ≤ length made
  none_or true = omega arith
  none_or false = omega arith

  pub pair_le : (k : ℕ) → length made ≤ k → length (elems_of pair_row) ≤ k
  pair_le k h = rw (pair_row_lem, elems_if (valid_at c.rows r && valid_at d.rows r) made) (omega (arith, none_or (valid_at c.rows r && valid_at d.rows r)))

  -- v is whether both are valid
  module _ {v : Bool} (e : v ≡ valid_at c.rows r && valid_at d.rows r) where
    elems_pair : elems_of pair_row ≡ pick v made []
    elems_pair = rw (pair_row_lem, ← e) (elems_if v made)

    is_row_pair : is_row pair_row ≡ v
    is_row_pair = rw (pair_row_lem, ← e) (is_row_if v made)

    module _ (h : v ≡ false) where
      none : elems_of pair_row ≡ []
      none = elems_pair ∙ rw h

      pub pair_none : 0 ≡ length (elems_of pair_row)
      pair_none = rw none

      pub null_written : {at : ℕ} {ro ro' eo : List ℕ} {vo : List ℤ} → ro' ≡ push_bit ro r false → WritesRowˡ pair_row r at ro ro' vo vo eo eo at
      unfolding push_bits
      null_written q = record { rows = rw (is_row_pair, h) q; values = rw none; elements = rw none; place = rw none (omega arith) }

    -- es is what f makes of the elements of both, as the code has them
    module _ (h : v ≡ true) {es : List Elem} (q : es ≡ made) where
      all : elems_of pair_row ≡ es
      all = elems_pair ∙ rw (h, q)

      pub pair_length : length es ≡ length (elems_of pair_row)
      pair_length = rw all

      pub pair_room : {at lr lv le : ℕ} → RoomForRowˡ pair_row r at lr lv le → RoomForElemsˡ es at lv le
      pair_room m = record { values = rw all at m.values; elements = rw all at m.elements }

      pub pair_written : {at k : ℕ} {ro ro' eo eo' : List ℕ} {vo vo' : List ℤ} → ro' ≡ push_bit ro r true → Writesˡ es at vo vo' eo eo' k → WritesRowˡ pair_row r at ro ro' vo vo' eo eo' k
      pair_written p w = record { rows = rw (is_row_pair, h) p; values = rw all w.values; elements = rw all w.elements; place = rw all w.next }

pub made_le : (op : SetOp) (c d : Column) (r : ℕ) → length (made (set_elems op) c d r) ≤ bound_of op (length_at c r) (length_at d r)
unfolding bound_of
made_le Union c d r = omega (arith, set_le Union (row_elems c r) (row_elems d r), length_row c r, length_row d r)
made_le Intersect c d r = omega (arith, intersect_le_left (row_elems c r) (row_elems d r), length_row c r)

-- the offsets of a row rise
pub rises : (c : Column) (r : ℕ) → Readable c → r < row_count c.offsets → offset_at c.offsets r ≤ offset_at c.offsets (r + 1)
rises c r w h = mono c.offsets (length c.values) r w.offsets (omega arith)

-- a bound grows with its parts, and an index can hold it
pub bound_grows : (op : SetOp) {a b c d : ℕ} → a ≤ b → c ≤ d → bound_of op a c ≤ bound_of op b d
unfolding bound_of
bound_grows Union h k = omega arith
bound_grows Intersect h k = h

pub bound_small : (op : SetOp) {n : ℕ} → n ≤ 9223372036854775807 → bound_of op n n ≤ 18446744073709551614
unfolding bound_of
bound_small Union h = omega arith
bound_small Intersect h = omega arith

-- ---- the call

none_of : (L : Limits) (op : SetOp) (ls rs : List Row) (a n : ℕ) → first_of (map refusal_of (tab (λ r. made_of L (at_row (set_op_call op ls rs) r)) a n)) ≡ 0
unfolding tab made_of at_row refusal_of first_of
none_of L op ls rs a zero = refl
none_of L op ls rs a (suc n) = none_of L op ls rs (suc a) n

module _ (op : SetOp) (c d : Column) where
  pub length_pairs : length (pair_rows op c d) ≡ row_count c.offsets
  unfolding pair_rows
  length_pairs = length-tab (pair_at op c d) 0 (row_count c.offsets)

  -- the rows made, counted by the code's n
  module _ (n : ℕ) (e : n ≡ row_count c.offsets) where
    pub rows_at : tab (pair_at op c d) 0 n ≡ pair_rows op c d
    unfolding pair_rows
    rows_at = rw e

    pub room_at : {lo lo' lr lv le : ℕ} → RoomInˡ (row_count c.offsets) (length (flat (pair_rows op c d))) lo lr lv le → lo' ≡ lo → RoomInˡ n (length (flat (tab (pair_at op c d) 0 n))) lo' lr lv le
    room_at h q = rw (q, rows_at, e) h

  module _ (L : Limits) (e : row_count d.offsets ≡ row_count c.offsets) where
    rows_made_lem : rows_made L (set_op_call op (rows_of c) (rows_of d)) ≡ pair_rows op c d
    unfolding rows_made row_by_row made_of at_row row_made rows_in pair_rows
    rows_made_lem = map-tab row_made (λ r. makes (on_rows (set_elems op) (row_of (rows_of c) r) (row_of (rows_of d) r))) 0 (length (rows_of c)) ∙ rw (length-rows c) (tab_ext _ _ 0 0 (row_count c.offsets) (λ r h. rw (zero-add r, row_at_lem c r h, row_at_lem d r (rw e h))))

    refusal_is : rows_refusal L (set_op_call op (rows_of c) (rows_of d)) ≡ union_refusal L op (length (flat (pair_rows op c d)))
    unfolding rows_refusal row_by_row sums_refusal rows_in
    refusal_is = rw (none_of L op (rows_of c) (rows_of d) 0 (length (rows_of c)), rows_made_lem)

  -- ---- the refusals before the rows

  pub early_lists : (k : ℕ) → k ≡ columns_refusal (c ∷ d ∷ []) [] → (k ≡ 0 → ⊥) → k ≡ early_refusal (set_op_call op c d)
  unfolding early_refusal lists_in arguments_in
  early_lists k q h = rw (← q) (sym (or_first k _ h))

  module _ (z : columns_refusal (c ∷ d ∷ []) [] ≡ 0) where
    pub early_three : (row_count d.offsets ≡ row_count c.offsets → ⊥) → 3 ≡ early_refusal (set_op_call op c d)
    unfolding early_refusal lists_in arguments_in on_call unequal
    early_three h = rw (z, length-rows c, length-rows d, ne_eqb (row_count d.offsets) (row_count c.offsets) h)

    pub early_none : row_count d.offsets ≡ row_count c.offsets → 0 ≡ early_refusal (set_op_call op c d)
    unfolding early_refusal lists_in arguments_in on_call unequal
    early_none e = rw (z, length-rows c, length-rows d, eq-eqb (row_count d.offsets) (row_count c.offsets) e)

  -- a call that is refused early, or goes on; k is what the code found
  module _ (L : Limits) (k : ℕ) (e : k ≡ early_refusal (set_op_call op c d)) where
    pub run_early : (l : Room) → (k ≡ 0 → ⊥) → list_outcome L (set_op_call op c d) l ≡ refused k
    run_early l h = early_outcome L (set_op_call op c d) l ∙ rw (← e) (gate_shut k _ h)

    pub run_goes : (l : Room) → k ≡ 0 → list_outcome L (set_op_call op c d) l ≡ after_three L (set_op_call op (rows_of c) (rows_of d)) l
    unfolding on_call
    run_goes l h = early_outcome L (set_op_call op c d) l ∙ gate_open (early_refusal (set_op_call op c d)) _ (sym e ∙ h)

    pub lengths_early : (k ≡ 0 → ⊥) → refused k ≡ list_lengths L (set_op_call op c d)
    lengths_early h = sym (early_lengths L (set_op_call op c d) ∙ rw (← e) (gate_shut k _ h))

    pub lengths_go : k ≡ 0 → row_count d.offsets ≡ row_count c.offsets → list_lengths L (set_op_call op c d) ≡ gate (union_refusal L op (length (flat (pair_rows op c d)))) (O.made (room_for (row_count c.offsets) (length (flat (pair_rows op c d)))))
    unfolding on_call
    lengths_go h q =
        early_lengths L (set_op_call op c d)
        ∙ gate_open (early_refusal (set_op_call op c d)) _ (sym e ∙ h)
        ∙ rw (rows_made_lem L q, refusal_is L q, length_pairs)

  pub set_after : (L : Limits) (l : Room) → row_count d.offsets ≡ row_count c.offsets → after_three L (set_op_call op (rows_of c) (rows_of d)) l ≡ gate (union_refusal L op (length (flat (pair_rows op c d)))) (fitted (pair_rows op c d) l)
  unfolding after_three
  set_after L l e = rw (rows_made_lem L e, refusal_is L e)

not_eight : (n m : ℕ) (t : Bool) → ltb n m ≡ t → ◌≡◌ {A = ℕ} (pick t 8 0) 0 → m ≤ n
not_eight n m true e z = let k : ⊥ = omega arith in absurd k
not_eight n m false e z = ltb-false n m e

-- what 8 leaves is no more than an offset holds
pub united : (L : Limits) (op : SetOp) (m : ℕ) → L.united ≤ L.offset → m ≤ bound_of op L.offset L.offset → union_refusal L op m ≡ 0 → m ≤ L.offset
unfolding bound_of union_refusal
united L Union m u h z = omega (arith, not_eight L.united m (ltb L.united m) refl z)
united L Intersect m u h z = h

-- a bound between offsets
pub bound_between : (op : SetOp) {a b c d : ℕ} → a ≤ b → c ≤ d → bound_of op (b - a) (d - c) ≡ bound_of op b d - bound_of op a c
unfolding bound_of
bound_between Union h k = omega arith
bound_between Intersect h k = refl

-- the measuring walk after one more pair of rows
pub pair_more : (op : SetOp) (c d : Column) (n top found r k : ℕ) → Begun c d → n ≡ row_count c.offsets → Summing (pair_at op c d) n (bound_of op (offset_at c.offsets r) (offset_at d.offsets r)) (bound_of op top top) found r (n - r) → r < n
    → offset_at c.offsets (r + 1) ≤ top → offset_at d.offsets (r + 1) ≤ top → k ≡ length (elems_of (pair_at op c d r))
    → Summing (pair_at op c d) n (bound_of op (offset_at c.offsets (r + 1)) (offset_at d.offsets (r + 1))) (bound_of op top top) (found + k) (r + 1) (n - (r + 1))
pair_more op c d n top found r k b e s h x y q =
    let m : n - (r + 1) ≡ n - r - 1 = omega arith in
    let i = rises c r b.left (omega arith) in
    let j = rises d r b.right (omega (arith, b.equal)) in
    rw m
    (sum_more (pair_at op c d) n (bound_of op top top) k _ _ s (omega arith) q
    (rw (q, ← bound_between op i j) (pair_le (set_elems op) c d r _ (made_le op c d r)))
    (bound_grows op i j) refl (bound_grows op x y))
