-- What is made row by row is what the definitions make of the call.
use Rattle.std.specs.Prelude.{None, Some}
use Prim.Native.Nat.{ℕ, zero, suc, ◌+◌, ◌-◌, ◌<◌, ◌≤◌}
use mathlib.Core.Path.{◌≡◌, refl, sym, ap, ◌∙◌, subst}
use mathlib.Core.Bool.{Bool, true, false}
use mathlib.Core.List.{List, map}
use native.Mathlib.Omega.{arith}
use native.Mathlib.Nat.{zero-add}
use borrow.Author.Tests.{eqb-true}
use lib.Dec.{T, ltb, eqb}
use lib.IntN.{pos, negsuc}
use lib.ListN.{length, length-append}
use Rattle.model.specs.Basics.{pick, tab}
use Rattle.model.specs.Bitmap.{valid_at}
use Rattle.model.specs.Column.{Elem, Row, null_row, list_row, Column, Arguments, elem_at, offset_at, length_at, row_at, rows_of, shown_by, row_count, count}
use Rattle.model.specs.Form.{Room, elems_of, flat}
use Rattle.model.specs.Lengths.{room_for, list_lengths}
use Rattle.model.specs.Limits.{Limits, largest}
use Rattle.model.specs.Outcome.{Outcome, refused, made, gate, fitted, after_three, early_refusal, list_outcome}
use Rattle.model.specs.Refusals.{RowCount, uncounted, counted, row_count_of, Sum, stopped, sum, plus, and_then, sum_of, sum_refusal, resize_refusal, or_else, first_of, refusal_of, sums_refusal, rows_refusal}
use Rattle.model.specs.Rows.{ListCall, on_call, Made, made_of, at_row, row_of, argument_of, rows_in, row_by_row, row_made, rows_made}
use Rattle.model.proofs.ColumnLaws.{length-rows, row_at_lem}
use Rattle.model.proofs.EarlyLaws.{early_outcome, early_lengths}
use Rattle.model.proofs.OutcomeLaws.{gate_open, gate_shut}
use Rattle.model.proofs.TabLaws.{length-tab, map-tab, tab_ext}
use Rattle.column.specs.Put.{RoomInˡ}
use Rattle.fills.proofs.ResizeLaws.{length-resized}
use Rattle.rows.specs.Cells.{Cell, Fill, elem_of, fill_elem}
use Rattle.ops.specs.Ops.{is_resize, call_of, takes_of, second_limit, third_limit, row_op_of, valid_op, resize_op, op_elems, op_made, table}
use Rattle.ops.proofs.OpLaws.{op_made_lem, elems_of_made}
use Rattle.ops.specs.declared.ListOp.{ListOp}
use Rattle.ops.specs.declared.ListOp.TheVariants as L
use Rattle.ops.specs.RowOp.{RowOp}
use Rattle.ops.specs.RowOp as R
use Rattle.arguments.specs.Taken.{taken_at, op_at, Serves, Served}
use Rattle.made_rows.specs.Made.{made_from, made_at, row_made_at, refusal_at, call_rows, op_refusal, rows_measure, call_measure}
use Rattle.sums.specs.Sums.{count_if, count_at, last_test, resize_measure}
use Rattle.arguments.proofs.RefusalLaws.{call-shown}
use Rattle.arguments.proofs.TakenLaws.{taken_own, at_row_lem}
use Rattle.sums.proofs.SumLaws.{stays}
use Rattle.made_rows.proofs.RowLaws.{refusal-made, op_le}
use Rattle.model.proofs.BoolLaws.{never}

-- ---- one row

rows_in_lem : {A : Type 0} (op : ListOp) (ws : List Row) (x y z : A) → rows_in (call_of op ws x y z) ≡ length ws
unfolding call_of rows_in
rows_in_lem (L.Plain u) ws x y z = refl
rows_in_lem L.Slice ws x y z = refl
rows_in_lem L.SliceBy ws x y z = refl
rows_in_lem L.Resize ws x y z = refl
rows_in_lem L.ResizeWith ws x y z = refl
rows_in_lem L.Replace ws x y z = refl
rows_in_lem L.Remove ws x y z = refl

module _ (N : Limits) (op : ListOp) (c : Column) (x y z : Arguments) where
  abbrev elems : ℕ → List Elem
  elems r = tab (elem_at c.values c.elements) (offset_at c.offsets r) (length_at c r)

  abbrev cells : {A : Type 0} → (Cell → Cell → Cell → A) → ℕ → A
  cells f r = f (taken_at (ltb 0 (takes_of op)) false x r) (taken_at (ltb 1 (takes_of op)) (second_limit op) y r) (taken_at (ltb 2 (takes_of op)) (third_limit op) z r)

  -- the code's row between a and b is row r's
  module _ (r a b : ℕ) (o : RowOp) (ea : a ≡ offset_at c.offsets r) (eb : b ≡ offset_at c.offsets (r + 1)) (eo : o ≡ op_at N op c.rows x y z r (b - a)) where
    pub made_of_lem : op_made o (tab (elem_at c.values c.elements) a (b - a)) ≡ made_at N op c x y z r
    unfolding made_at made_from
    made_of_lem = rw (eo, ea, eb)

    pub refusal_of_lem : op_refusal o ≡ refusal_at N op c x y z r
    refusal_of_lem = refusal-made o (tab (elem_at c.values c.elements) a (b - a)) ∙ ap refusal_of made_of_lem

    pub row_of_lem : row_made (op_made o (tab (elem_at c.values c.elements) a (b - a))) ≡ row_made_at N op c x y z r
    row_of_lem = ap row_made made_of_lem

    pub length_of_lem : length (op_elems o (tab (elem_at c.values c.elements) a (b - a))) ≡ length (elems_of (row_made_at N op c x y z r))
    length_of_lem = ap length (sym (elems_of_made o (tab (elem_at c.values c.elements) a (b - a)))) ∙ ap (λ (w : Row). length (elems_of w)) row_of_lem

    pub length_le : is_resize op ≡ false → length (op_elems o (tab (elem_at c.values c.elements) a (b - a))) ≤ b - a
    unfolding op_at
    length_le t = rw eo (op_le N op (valid_at c.rows r) (b - a) (tab (elem_at c.values c.elements) a (b - a)) _ _ _ (length-tab (elem_at c.values c.elements) a (b - a)) t)

  pub length-call : length (call_rows N op c x y z) ≡ row_count c.offsets
  unfolding call_rows
  length-call = length-tab (row_made_at N op c x y z) 0 (row_count c.offsets)

  -- the rows made, counted by the code's n
  module _ (n : ℕ) (e : n ≡ row_count c.offsets) where
    pub rows_at : tab (row_made_at N op c x y z) 0 n ≡ call_rows N op c x y z
    unfolding call_rows
    rows_at = rw e

    pub room_at : {lo lo' lr lv le : ℕ} → RoomInˡ (row_count c.offsets) (length (flat (call_rows N op c x y z))) lo lr lv le → lo' ≡ lo → RoomInˡ n (length (flat (tab (row_made_at N op c x y z) 0 n))) lo' lr lv le
    room_at h q = rw (q, rows_at, e) h

  module _ (s : Served op (row_count c.offsets) x y z) where
    abbrev call : ListCall (List Row) (List Elem)
    call = call_of op (rows_of c) (shown_by x) (shown_by y) (shown_by z)

    made_at_lem : (r : ℕ) → r < row_count c.offsets → made_at N op c x y z r ≡ made_of N (at_row call r)
    unfolding made_at made_from op_at row_at
    made_at_lem r h =
        let m = op_made_lem N op (valid_at c.rows r) (elems r) (taken_at (ltb 0 (takes_of op)) false x r) (taken_at (ltb 1 (takes_of op)) (second_limit op) y r) (taken_at (ltb 2 (takes_of op)) (third_limit op) z r) in
        rw (length-tab (elem_at c.values c.elements) (offset_at c.offsets r) (length_at c r)) at m ∙ ap (made_of N) (at_row_lem op c x y z r h s)

    by_row : row_by_row N call ≡ tab (made_at N op c x y z) 0 (row_count c.offsets)
    unfolding row_by_row
    by_row = rw (rows_in_lem op (rows_of c) (shown_by x) (shown_by y) (shown_by z), length-rows c) (tab_ext _ _ 0 0 (row_count c.offsets) (λ r h. rw (zero-add r) (sym (made_at_lem r h))))

    pub rows_made_lem : rows_made N call ≡ call_rows N op c x y z
    unfolding rows_made call_rows
    rows_made_lem = rw by_row (map-tab row_made (made_at N op c x y z) 0 (row_count c.offsets))

    refusals_are : first_of (map refusal_of (row_by_row N call)) ≡ first_of (tab (refusal_at N op c x y z) 0 (row_count c.offsets))
    refusals_are = rw by_row (ap first_of (map-tab refusal_of (made_at N op c x y z) 0 (row_count c.offsets)))

-- ---- the refusal of the rows, where it is no resize

or_none : (k : ℕ) → or_else k 0 ≡ k
or_none k = cases (eqb k 0) refl
  where
    cases : (t : Bool) → eqb k 0 ≡ t → pick t 0 k ≡ k
    cases true e = sym (eqb-true k 0 e)
    cases false e = refl

no_sums : (N : Limits) (op : ListOp) (ws : List Row) (x y z : List Elem) → is_resize op ≡ false → sums_refusal N (call_of op ws x y z) ≡ 0
unfolding sums_refusal call_of table
no_sums N (L.Plain u) ws x y z h = refl
no_sums N L.Slice ws x y z h = refl
no_sums N L.SliceBy ws x y z h = refl
no_sums N L.Resize ws x y z h = absurd (subst T h tt)
no_sums N L.ResizeWith ws x y z h = absurd (subst T h tt)
no_sums N L.Replace ws x y z h = refl
no_sums N L.Remove ws x y z h = refl

-- ---- resize

-- the elements that a count makes
unfoldable amount : RowCount → ℕ
amount uncounted = 0
amount (counted n) = count n

-- a sum that was not stopped is t, and a refusal that stopped it is no 0
unfoldable Comes : ℕ → Sum → Type 0
Comes t (stopped k) = k ≡ 0 → ⊥
Comes t (sum s) = s ≡ t

plus_comes : (a : ℕ) (k : RowCount) → Comes (a + amount k) (plus a k)
unfolding Comes plus amount count
plus_comes a uncounted = omega arith
plus_comes a (counted (pos n)) = cases (ltb largest (a + n))
  where
    cases : (t : Bool) → Comes (a + n) (pick t (stopped 8) (sum (a + n)))
    cases true = λ e. omega arith
    cases false = refl
plus_comes a (counted (negsuc n)) = λ e. omega arith

module _ (W : ℕ → Row) (K : ℕ → RowCount) where
  comes : (e : (r : ℕ) → length (elems_of (W r)) ≡ amount (K r)) (n r a : ℕ) → Comes (a + length (flat (tab W r n))) (sum_of (sum a) (tab K r n))
  unfolding Comes sum_of and_then tab flat
  comes e zero r a = omega arith
  comes e (suc n) r a = step (plus a (K r)) (plus_comes a (K r)) (λ b. comes e n (suc r) b)
    where
      step : (p : Sum) → Comes (a + amount (K r)) p → ((b : ℕ) → Comes (b + length (flat (tab W (suc r) n))) (sum_of (sum b) (tab K (suc r) n))) → Comes (a + length (flat (tab W r (suc n)))) (sum_of p (tab K (suc r) n))
      step (stopped k) h i = rw (stays k (tab K (suc r) n)) h
      step (sum b) h i =
          let q : b + length (flat (tab W (suc r) n)) ≡ a + length (flat (tab W r (suc n))) = omega (arith, e r, length-append (elems_of (W r)) (flat (tab W (suc r) n))) in
          rw q at (i b)

-- a row's count, and the elements that resize makes by it
count_row : (v : Bool) (es : List Elem) (k : Cell) → row_count_of (pick v (list_row es) null_row) (elem_of k) ≡ count_if v k
unfolding row_count_of count_if elem_of
count_row false es k = refl
count_row true es None = refl
count_row true es (Some n) = refl

amount_made : (v : Bool) (k : Cell) (f : Fill) (es : List Elem) → length (op_elems (pick v (resize_op k f) R.Null) es) ≡ amount (count_if v k)
unfolding op_elems resize_op count_if amount
amount_made false k f es = refl
amount_made true None f es = refl
amount_made true (Some n) f es = length-resized (count n) (fill_elem f) es

count-made : (N : Limits) (op : ListOp) (c : Column) (x y z : Arguments) → is_resize op ≡ true → (r : ℕ) → length (elems_of (row_made_at N op c x y z r)) ≡ amount (count_at c.rows x r)
unfolding made_at made_from op_at row_op_of valid_op table
count-made N (L.Plain u) c x y z h r = absurd (subst T (sym h) tt)
count-made N L.Slice c x y z h r = absurd (subst T (sym h) tt)
count-made N L.SliceBy c x y z h r = absurd (subst T (sym h) tt)
count-made N L.Resize c x y z h r = ap length (elems_of_made _ _) ∙ amount_made (valid_at c.rows r) (taken_at true false x r) None _
count-made N L.ResizeWith c x y z h r = ap length (elems_of_made _ _) ∙ amount_made (valid_at c.rows r) (taken_at true false x r) (Some (taken_at true false y r)) _
count-made N L.Replace c x y z h r = absurd (subst T (sym h) tt)
count-made N L.Remove c x y z h r = absurd (subst T (sym h) tt)

pub counts-served : (op : ListOp) {n : ℕ} {x y z : Arguments} → is_resize op ≡ true → Served op n x y z → Serves false n x
unfolding table
counts-served (L.Plain u) h s = absurd (subst T (sym h) tt)
counts-served L.Slice h s = absurd (subst T (sym h) tt)
counts-served L.SliceBy h s = absurd (subst T (sym h) tt)
counts-served L.Resize h s = s.first refl
counts-served L.ResizeWith h s = s.first refl
counts-served L.Replace h s = absurd (subst T (sym h) tt)
counts-served L.Remove h s = absurd (subst T (sym h) tt)

counts_are : (c : Column) (x : Arguments) → Serves false (row_count c.offsets) x → tab (λ r. row_count_of (row_of (rows_of c) r) (argument_of (shown_by x) r)) 0 (length (rows_of c)) ≡ tab (count_at c.rows x) 0 (row_count c.offsets)
unfolding row_at
counts_are c x s = rw (length-rows c) (tab_ext _ _ 0 0 (row_count c.offsets) (λ r h. rw (zero-add r, row_at_lem c r h, ← taken_own (row_count c.offsets) r h x s) (count_row (valid_at c.rows r) _ (taken_at true false x r))))

none_first : (f : ℕ → Made) → ((r : ℕ) → refusal_of (f r) ≡ 0) → (a n : ℕ) → first_of (map refusal_of (tab f a n)) ≡ 0
unfolding tab first_of
none_first f h a zero = refl
none_first f h a (suc n) = rw (h a) (none_first f h (suc a) n)

resize-sums : (N : Limits) (op : ListOp) (ws : List Row) (x y z : List Elem) → is_resize op ≡ true → rows_refusal N (call_of op ws x y z) ≡ resize_refusal N ws x
unfolding call_of rows_refusal row_by_row sums_refusal made_of at_row refusal_of table
resize-sums N (L.Plain u) ws x y z h = absurd (subst T (sym h) tt)
resize-sums N L.Slice ws x y z h = absurd (subst T (sym h) tt)
resize-sums N L.SliceBy ws x y z h = absurd (subst T (sym h) tt)
resize-sums N L.Resize ws x y z h = rw (none_first _ (λ r. refl) 0 _)
resize-sums N L.ResizeWith ws x y z h = rw (none_first _ (λ r. refl) 0 _)
resize-sums N L.Replace ws x y z h = absurd (subst T (sym h) tt)
resize-sums N L.Remove ws x y z h = absurd (subst T (sym h) tt)

last : (N : Limits) (t : Sum) (m : ℕ) → Comes m t → last_test N t ≡ gate (sum_refusal N t) (made m)
unfolding Comes last_test sum_refusal
last N (stopped k) m h = sym (gate_shut k _ h)
last N (sum n) m h = rw h

-- ---- what was measured

module _ (N : Limits) (op : ListOp) (c : Column) (x y z : Arguments) (s : Served op (row_count c.offsets) x y z) where
  abbrev rows : List Row
  rows = rows_of c

  abbrev refusal : ℕ
  refusal = rows_refusal N (call_of op (rows_of c) (shown_by x) (shown_by y) (shown_by z))

  rows-measured : is_resize op ≡ false → rows_measure N op c x y z ≡ gate refusal (made (length (flat (call_rows N op c x y z))))
  unfolding rows_measure rows_refusal
  rows-measured h = rw (refusals_are N op c x y z s, no_sums N op (rows_of c) (shown_by x) (shown_by y) (shown_by z) h, or_none (first_of (tab (refusal_at N op c x y z) 0 (row_count c.offsets))))

  resize-measured : is_resize op ≡ true → resize_measure N c.rows x (row_count c.offsets) ≡ gate refusal (made (length (flat (call_rows N op c x y z))))
  unfolding resize_measure resize_refusal call_rows
  resize-measured h =
      let t = comes (row_made_at N op c x y z) (count_at c.rows x) (count-made N op c x y z h) (row_count c.offsets) 0 0 in
      rw (resize-sums N op (rows_of c) (shown_by x) (shown_by y) (shown_by z) h, counts_are c x (counts-served op h s))
      (last N (sum_of (sum 0) (tab (count_at c.rows x) 0 (row_count c.offsets))) (length (flat (tab (row_made_at N op c x y z) 0 (row_count c.offsets)))) (rw (zero-add (length (flat (tab (row_made_at N op c x y z) 0 (row_count c.offsets))))) at t))

  pub measured : call_measure N op c x y z ≡ gate refusal (made (length (flat (call_rows N op c x y z))))
  unfolding call_measure
  measured = cases (is_resize op) refl
    where
      cases : (t : Bool) → is_resize op ≡ t → pick t (resize_measure N c.rows x (row_count c.offsets)) (rows_measure N op c x y z) ≡ gate refusal (made (length (flat (call_rows N op c x y z))))
      cases true h = resize-measured h
      cases false h = rows-measured h

-- a measure tells what the gate does
pub measure_refused : {A : Type 0} (k m j : ℕ) (o : Outcome A) → gate k (made m) ≡ refused j → gate k o ≡ refused j
unfolding gate
measure_refused k m j o e = cases (eqb k 0) e
  where
    cases : (t : Bool) → pick t (made m) (refused k) ≡ refused j → pick t o (refused k) ≡ refused j
    cases true h = never cc
    cases false h = let q : k ≡ j = cc in rw q

pub measure_sum : {A : Type 0} (k m j : ℕ) (o : Outcome A) → gate k (made m) ≡ made j → (gate k o ≡ o) × (j ≡ m)
unfolding gate
measure_sum k m j o e = cases (eqb k 0) e
  where
    cases : (t : Bool) → pick t (made m) (refused k) ≡ made j → (pick t o (refused k) ≡ o) × (j ≡ m)
    cases true h = let q : j ≡ m = cc in (refl, q)
    cases false h = never cc

-- what is made after 3
pub after_three_lem : (N : Limits) (op : ListOp) (c : Column) (x y z : Arguments) (l : Room) → Served op (row_count c.offsets) x y z
    → after_three N (call_of op (rows_of c) (shown_by x) (shown_by y) (shown_by z)) l ≡ gate (rows_refusal N (call_of op (rows_of c) (shown_by x) (shown_by y) (shown_by z))) (fitted (call_rows N op c x y z) l)
unfolding after_three
after_three_lem N op c x y z l s = rw (rows_made_lem N op c x y z s)

-- ---- a call that is refused early, or goes on; k is what the code found

module _ (N : Limits) (op : ListOp) (c : Column) (x y z : Arguments) (k : ℕ) (e : k ≡ early_refusal (call_of op c x y z)) where
  abbrev shown_call : ListCall (List Row) (List Elem)
  shown_call = call_of op (rows_of c) (shown_by x) (shown_by y) (shown_by z)

  pub run_early : (l : Room) → (k ≡ 0 → ⊥) → list_outcome N (call_of op c x y z) l ≡ refused k
  run_early l h = early_outcome N (call_of op c x y z) l ∙ rw (← e) (gate_shut k (after_three N (on_call rows_of shown_by (call_of op c x y z)) l) h)

  pub run_goes : (l : Room) → k ≡ 0 → list_outcome N (call_of op c x y z) l ≡ after_three N shown_call l
  run_goes l h = early_outcome N (call_of op c x y z) l ∙ gate_open (early_refusal (call_of op c x y z)) (after_three N (on_call rows_of shown_by (call_of op c x y z)) l) (sym e ∙ h) ∙ rw (call-shown op c x y z)

  pub lengths_early : (k ≡ 0 → ⊥) → refused k ≡ list_lengths N (call_of op c x y z)
  lengths_early h = sym (early_lengths N (call_of op c x y z) ∙ rw (← e) (gate_shut k _ h))

  pub lengths_go : k ≡ 0 → Served op (row_count c.offsets) x y z → list_lengths N (call_of op c x y z) ≡ gate (rows_refusal N shown_call) (made (room_for (row_count c.offsets) (length (flat (call_rows N op c x y z)))))
  lengths_go h s =
      early_lengths N (call_of op c x y z)
      ∙ gate_open (early_refusal (call_of op c x y z)) _ (sym e ∙ h)
      ∙ rw (call-shown op c x y z, rows_made_lem N op c x y z s, length-call N op c x y z)
