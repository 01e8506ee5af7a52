-- Laws of a walk of slices: what it needs of its columns, and what is done to a row.
use Prim.Native.Nat.{ℕ, zero, suc, ◌+◌, ◌-◌, ◌≤◌, ◌<◌}
use mathlib.Core.Path.{◌≡◌, refl, sym, ap, ◌∙◌}
use mathlib.Core.Bool.{Bool, true, false, not, ◌&&◌}
use mathlib.Core.List.{List}
use native.Mathlib.Omega.{arith}
use borrow.Author.Tests.{ltb-false, le-ltb}
use lib.Dec.{ltb, eqb}
use lib.IntN.{ℤ, pos}
use lib.ListN.{length}
use Rattle.model.specs.Answers.{number_of, refused_by}
use Rattle.model.specs.declared.Refusal.{Refusal}
use Rattle.model.specs.declared.Refusal.TheVariants.{BadOffsets, ShortBitmap, RowCountsDiffer, WideIndex, ZeroStride, WideStride, NegativeCount, TooMany, ShortOutput, MalformedRecipe, ViewOutside, ZeroRun, BadStartingBit, ShortArea, NoSuchStation, RowsOutside}
use Rattle.model.specs.Basics.{pick, tab}
use Rattle.model.specs.Outcome.{refused}
use Rattle.model.specs.Rows.{row_made}
use Rattle.column.proofs.WalkLaws.{sum_more}
use Rattle.index.specs.declared.slice.Steps.{Steps}
use Rattle.made_rows.specs.Made.{row_made_at, refusal_at, rows_measure}
use Rattle.made_rows.proofs.CallLaws.{refusal_of_lem, row_of_lem, length_of_lem, length_le}
use Rattle.made_rows.proofs.LoopLaws.{Measuring, measuring_more, measuring_stops, rows_stop}
use Rattle.model.specs.Bitmap.{Bits, valid_at, bytes_for, short_bits}
use Rattle.model.specs.Column.{Elem, nul, val, Column, Arguments, elem_at, offset_at, row_count}
use Rattle.model.specs.Limits.{Limits}
use Rattle.model.specs.Slice.{slice_plan}
use Rattle.model.proofs.BoolLaws.{never, never_true}
use Rattle.bitmap.specs.Push.{Covers, push_bit}
use Rattle.column.specs.Put.{RoomForElemsˡ, Writesˡ}
use Rattle.column.specs.Rows.{RoomForRowˡ, WritesRowˡ}
use Rattle.std.specs.Prelude.{Option, None, Some, IfSome, Ok, Err, is_ok}
use Rattle.index.specs.Plan.{SlicePlan, plan_of, stride_in}
use Rattle.strides.proofs.StrideLaws.{length-sliced}
use Rattle.ops.specs.Ops.{is_slice, is_resize, table, plan_op, slice_op, stride_op, valid_op, row_op_of, op_elems, op_made}
use Rattle.ops.specs.declared.ListOp.{ListOp}
use Rattle.ops.specs.declared.ListOp.TheVariants as L
use Rattle.ops.specs.RowOp as R
use Rattle.arguments.specs.Taken.{cell_of, place_in, taken_at, op_at, Serves, Served}
use Rattle.made_rows.specs.Made.{op_refusal}
use Rattle.bit_words.specs.Words.{low_bits}
use Rattle.slice_rows.specs.Columns.{Held}
use Rattle.slice_rows.specs.Sliced.{SliceArguments, slice_arguments, valid_if, all_valid, Known, HasRow, stride_at, plan_at, NullEmpty, op_if, plan_count, steps_count}
use Rattle.slice_rows.specs.declared.validity.NextBits.{NextBits}
use Rattle.slice_rows.proofs.RowLaws.{planned_bit, planned_elems, row_put}

-- ---- the operation

pub no_resize : (op : ListOp) → is_slice op ≡ true → is_resize op ≡ false
unfolding is_slice table
no_resize (L.Plain u) h = never_true (sym h)
no_resize L.Slice h = refl
no_resize L.SliceBy h = refl
no_resize L.Resize h = never_true (sym h)
no_resize L.ResizeWith h = never_true (sym h)
no_resize L.Replace h = never_true (sym h)
no_resize L.Remove h = never_true (sym h)

-- ---- the columns

-- where n bits can be read, so can fewer
fewer_bits : (b : Bits) (n m : ℕ) → n ≤ m → Covers b m → Covers b n
unfolding short_bits
fewer_bits b n m h g = record { small = g.small; long = cases (eqb (length b.bytes) 0) g.long }
  where
    cases : (t : Bool) → not t && ltb (length b.bytes) (bytes_for (b.start + m)) ≡ false → not t && ltb (length b.bytes) (bytes_for (b.start + n)) ≡ false
    cases true e = refl
    cases false e = le-ltb (length b.bytes) (bytes_for (b.start + n)) (omega (arith, ltb-false (length b.bytes) (bytes_for (b.start + m)) e))

module _ (n : ℕ) (a : Arguments) (s : Serves false n a) where
  there : (r : ℕ) → r < n → r < length a.values
  unfolding place_in
  there r h = s.there r h

  covered : Covers a.bits n
  covered = fewer_bits a.bits n (length a.values) (enough n refl) s.bits
    where
      enough : (m : ℕ) → m ≡ n → m ≤ length a.values
      enough zero e = omega arith
      enough (suc m) e = omega (arith, there m (omega arith))

-- each of them has an argument for each of n rows
record ServedBy (n : ℕ) (s : SliceArguments) : Type 0 where
  pub from : Serves false n s.from
  pub to : Serves false n s.to
  pub stride : (z : Arguments) → s.stride ≡ Some z → Serves false n z

served_by : (op : ListOp) {n : ℕ} {x y z : Arguments} → is_slice op ≡ true → Served op n x y z → ServedBy n (slice_arguments op x y z)
unfolding is_slice slice_arguments table
served_by (L.Plain u) h s = never_true (sym h)
served_by L.Slice h s = record { from = s.first refl; to = s.second refl; stride = λ z e. never cc }
served_by L.SliceBy h s = record { from = s.first refl; to = s.second refl; stride = λ z e. let q : ◌≡◌ {A = Arguments} _ z = cc in rw (← q) (s.third refl) }
served_by L.Resize h s = never_true (sym h)
served_by L.ResizeWith h s = never_true (sym h)
served_by L.Replace h s = never_true (sym h)
served_by L.Remove h s = never_true (sym h)

if_some : {A : Type 0} {P : A → Type 0} (o : Option A) → ((a : A) → o ≡ Some a → P a) → IfSome o P
if_some None h = tt
if_some (Some a) h = h a refl

module _ (op : ListOp) {n : ℕ} {x y z : Arguments} (k : is_slice op ≡ true) (t : Served op n x y z) {s : SliceArguments} (e : s ≡ slice_arguments op x y z) where
  served : ServedBy n s
  served = rw e (served_by op k t)

  pub known : (rb : Bits) → Covers rb n → Known n rb s
  known rb g = record {
    rows = g;
    from = covered n s.from served.from;
    to = covered n s.to served.to;
    stride = if_some s.stride (λ a q. covered n a (served.stride a q));
  }

  pub has_row : (r : ℕ) → r < n → HasRow s r
  has_row r h = record {
    from = there n s.from served.from r h;
    to = there n s.to served.to r h;
    stride = if_some s.stride (λ a q. there n a (served.stride a q) r h);
  }

-- none are read ahead
pub none_held : (f : ℕ → Bool) (r : ℕ) (b : NextBits) → b.known ≡ 0 → Held f r b
unfolding low_bits tab
none_held f r b e = record { bits = rw e }

-- ---- what is done to a row

module _ (lim : Limits) (n : ℕ) (f t : ℤ) where
  slice_cells : (v vx vy : Bool) → op_if (v && vx && vy && true) (pick (v && vx && vy && true) (plan_of (slice_plan lim n f t (pos 1))) (Ok None)) ≡ pick v (slice_op lim n (cell_of (pick vx (val f) nul)) (cell_of (pick vy (val t) nul)) None) R.Null
  unfolding op_if slice_op cell_of stride_in
  slice_cells false vx vy = refl
  slice_cells true false vy = refl
  slice_cells true true false = refl
  slice_cells true true true = refl

  stride_cells : (s : ℤ) (v vx vy vz : Bool) → op_if (v && vx && vy && vz) (pick (v && vx && vy && vz) (plan_of (slice_plan lim n f t s)) (Ok None)) ≡ pick v (stride_op lim n (cell_of (pick vx (val f) nul)) (cell_of (pick vy (val t) nul)) (cell_of (pick vz (val s) nul))) R.Null
  unfolding op_if slice_op stride_op cell_of stride_in
  stride_cells s false vx vy vz = refl
  stride_cells s true false vy false = refl
  stride_cells s true false vy true = refl
  stride_cells s true true false false = refl
  stride_cells s true true false true = refl
  stride_cells s true true true false = refl
  stride_cells s true true true true = refl

op_planned : (lim : Limits) (rb : Bits) (x y z : Arguments) (r n : ℕ) (op : ListOp) → is_slice op ≡ true
    → let s = slice_arguments op x y z in let v = all_valid rb s r in op_if v (plan_at lim v s r n) ≡ op_at lim op rb x y z r n
unfolding is_slice slice_arguments op_at row_op_of valid_op table taken_at place_in elem_at valid_if all_valid plan_at stride_at
op_planned lim rb x y z r n (L.Plain u) h = never_true (sym h)
op_planned lim rb x y z r n L.Slice h = slice_cells lim n _ _ (valid_at rb r) (valid_at x.bits r) (valid_at y.bits r)
op_planned lim rb x y z r n L.SliceBy h = stride_cells lim n _ _ _ (valid_at rb r) (valid_at x.bits r) (valid_at y.bits r) (valid_at z.bits r)
op_planned lim rb x y z r n L.Resize h = never_true (sym h)
op_planned lim rb x y z r n L.ResizeWith h = never_true (sym h)
op_planned lim rb x y z r n L.Replace h = never_true (sym h)
op_planned lim rb x y z r n L.Remove h = never_true (sym h)

pub null_empty : (lim : Limits) (valid : Bool) (s : SliceArguments) (r n : ℕ) (p : SlicePlan) → p ≡ plan_at lim valid s r n → NullEmpty valid p
unfolding plan_at
null_empty lim valid s r n p e h = e ∙ rw h

-- ---- by the plan alone

pub refusal-planned : (valid : Bool) (p : SlicePlan) → NullEmpty valid p → refused_by p ≡ op_refusal (op_if valid p)
unfolding op_refusal op_if plan_op
refusal-planned true (Ok None) h = refl
refusal-planned true (Ok (Some s)) h = refl
refusal-planned true (Err k) h = refl
refusal-planned false p h = rw (h refl)

pub count-planned : (valid : Bool) (p : SlicePlan) (es : List Elem) → NullEmpty valid p → plan_count p ≡ length (op_elems (op_if valid p) es)
unfolding plan_count steps_count op_elems op_if plan_op
count-planned true (Ok None) es h = refl
count-planned true (Ok (Some s)) es h = sym (length-sliced s.start s.stride s.count es)
count-planned true (Err k) es h = refl
count-planned false p es h = rw (h refl)

number_some : (k : Refusal) → number_of k ≡ 0 → ⊥
number_some BadOffsets e = omega arith
number_some ShortBitmap e = omega arith
number_some RowCountsDiffer e = omega arith
number_some WideIndex e = omega arith
number_some ZeroStride e = omega arith
number_some WideStride e = omega arith
number_some NegativeCount e = omega arith
number_some TooMany e = omega arith
number_some ShortOutput e = omega arith
number_some MalformedRecipe e = omega arith
number_some ViewOutside e = omega arith
number_some ZeroRun e = omega arith
number_some BadStartingBit e = omega arith
number_some ShortArea e = omega arith
number_some NoSuchStation e = omega arith
number_some RowsOutside e = omega arith

-- ---- a turn: row r of n, which lies from a to b

module _ (L : Limits) (op : ListOp) (k : is_slice op ≡ true) (c : Column) (x y z : Arguments) (s : SliceArguments) (t : s ≡ slice_arguments op x y z)
    (n r a b : ℕ) (place : a ≡ offset_at c.offsets r) (ends : b ≡ offset_at c.offsets (r + 1)) where
  abbrev es : List Elem
  es = tab (elem_at c.values c.elements) a (b - a)

  -- by the code's test and plan of it
  module _ (valid : Bool) (p : SlicePlan) (e : valid ≡ all_valid c.rows s r) (q : p ≡ plan_at L valid s r (b - a)) where
    pub chosen : op_if valid p ≡ op_at L op c.rows x y z r (b - a)
    chosen = rw (q, e, t) (op_planned L c.rows x y z r (b - a) op k)

    pub empty : NullEmpty valid p
    empty = null_empty L valid s r (b - a) p q

    turn_refusal : refused_by p ≡ refusal_at L op c x y z r
    turn_refusal = refusal-planned valid p empty ∙ refusal_of_lem L op c x y z r a b (op_if valid p) place ends chosen

    pub turn_row : row_made (op_made (op_if valid p) es) ≡ row_made_at L op c x y z r
    turn_row = row_of_lem L op c x y z r a b (op_if valid p) place ends chosen

    -- where there is room for the row, there is for its elements
    pub turn_room : {at lr lv le : ℕ} → RoomForRowˡ (row_made (op_made (op_if valid p) es)) r at lr lv le → RoomForElemsˡ (op_elems (plan_op p) es) at lv le
    turn_room m = rw (← planned_elems valid p es empty) (record { values = m.values; elements = m.elements })

    -- its bit and its elements make it
    pub turn_put : {i : Bool} {at m : ℕ} {ro ro' : List ℕ} {vo vo' : List ℤ} {eo eo' : List ℕ} → i ≡ is_ok p → ro' ≡ push_bit ro r (valid && i) → Writesˡ (op_elems (plan_op p) es) at vo vo' eo eo' m
        → WritesRowˡ (row_made (op_made (op_if valid p) es)) r at ro ro' vo vo' eo eo' m
    turn_put i h w = row_put _ (valid && is_ok p) _ (planned_bit valid p es empty) (planned_elems valid p es empty) (rw (← i) h) w

    module _ {found : ℕ} (m : Measuring (row_made_at L op c x y z) (refusal_at L op c x y z) n a L.offset found r (n - r)) (h : r < n) where
      -- it is not refused
      pub turn_measured : (u : Option Steps) → p ≡ Ok u → a ≤ b → b ≤ L.offset → Measuring (row_made_at L op c x y z) (refusal_at L op c x y z) n b L.offset (found + steps_count u) (r + 1) (n - (r + 1))
      unfolding plan_count
      turn_measured u o l g =
          let d : n - (r + 1) ≡ n - r - 1 = omega arith in
          let t : steps_count u ≡ length (op_elems (op_if valid p) es) = ap plan_count (sym o) ∙ count-planned valid p es empty in
          rw d
          (measuring_more _ _ m (refused_by p) (omega arith) turn_refusal (rw o refl)
          (sum_more _ n L.offset (steps_count u) a b m.sums (omega arith) (t ∙ length_of_lem L op c x y z r a b (op_if valid p) place ends chosen)
          (rw t (length_le L op c x y z r a b (op_if valid p) place ends chosen (no_resize op k))) l refl g))

      -- it is refused
      pub turn_stops : (j : Refusal) → p ≡ Err j → n ≡ row_count c.offsets → refused (number_of j) ≡ rows_measure L op c x y z
      turn_stops j o d =
          let t : number_of j ≡ refusal_at L op c x y z r = ap (λ (q : SlicePlan). refused_by q) (sym o) ∙ turn_refusal in
          rows_stop L op c x y z n d (number_of j) (measuring_stops _ _ m (number_of j) (omega arith) t (number_some j)) (number_some j)
