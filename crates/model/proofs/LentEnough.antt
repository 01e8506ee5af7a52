-- How much to lend: "Lending that much, with offsets and bitmaps to match, rules out 9." `lent_enough` says it of what a recipe comes to,
-- `rules_out_nine` of the calls. Rows null in the first list are null in every carried list (`null_stays`), each step keeps the number of rows
-- (`rows-kept`), and where the cap cuts the run answers 8 before it could answer 9 (`set_within`, `resize_within`).
use Prim.Native.Nat.{ℕ, zero, suc, ◌+◌, ◌-◌, ◌≤◌, ◌<◌}
use mathlib.Core.Path.{◌≡◌, refl, sym, ap, ◌∙◌}
use mathlib.Core.Bool.{Bool, true, false, ◌&&◌, ◌||◌}
use mathlib.Core.List.{List, [], ◌∷◌, map}
use native.Mathlib.Omega.{arith}
use borrow.Author.Tests.{ltb-false, leb-true, le-leb, eqb-true, eqb-false, eq-eqb}
use lib.Dec.{ltb, leb, eqb}
use lib.IntN.{ℤ, pos, negsuc}
use lib.Signed.{lt_z, mag}
use lib.ListN.{length, get_or, length-append}
use Rattle.model.specs.Basics.{pick, tab, any, Lent, absent, given, All, none, more}
use Rattle.model.specs.Bitmap.{valid_at}
use Rattle.model.specs.Limits.{Limits, narrow, wide, largest}
use Rattle.model.specs.Column.{Elem, nul, val, Row, null_row, list_row, count, Column, Arguments, row_count, offset_at, length_at, elem_at, row_at, rows_of, shown_by, falls, bad_offsets, refusal13, refusal13ᵃ, refusal1, refusal2, refusal2ᵃ}
use Rattle.model.specs.Form.{Room, is_row, elems_of, flat, length_of}
use Rattle.model.specs.Rows.{ListCall, unary, set_op_call, slice, resize, replace, remove, stride_of, fill_of, resize_row, made_of, row_of, argument_of, limit_of, at_row, rows_in, row_made, rows_made, on_lent}
use Rattle.model.specs.Refusals.{or_else, first_of, RowCount, uncounted, counted, row_count_of, stopped, sum, plus, and_then, sum_of, sum_refusal, resize_refusal, union_refusal, sums_refusal, rows_refusal, total, times_of}
use Rattle.model.specs.Outcome.{Outcome, refused, made, gate, columns_refusal, fitted, after_three}
use Rattle.model.specs.Recipe.{Step, Recipe, steps_of, column_of, code_call, step_call, malformed, then_on, carried, stepped, recipe_unequal, formed_recipe, recipe_outcome, stationed}
use Rattle.model.specs.Tally.{Tally}
use Rattle.model.specs.Call.{recipe, limit_recipe, refusal, counts, list_counts, limit_counts, answer_of, recipe_end, trays_end, end}
use Rattle.model.specs.Lengths.{room_for, room_of_rows, holds, length_if, shown_in, count_over, counts_over, call_limit, capped, step_limit, TrayLimits, tray_limits, steps_limits, limits_of, formed_limits, recipe_limits, LentEnough, EightsWithin, OffsetsFit}
use Rattle.model.specs.declared.Unary.{Unary}
use Rattle.model.specs.declared.Unary.TheVariants.{Reverse, Distinct, PopFront, PopBack}
use Rattle.model.specs.declared.SetOp.{SetOp}
use Rattle.model.specs.declared.SetOp.TheVariants.{Union, Intersect}
use Rattle.model.proofs.BoolLaws.{never, never_true, or_none, and_true}
use Rattle.model.proofs.TabLaws.{length-tab, length-map, get_d_map, map-tab}
use Rattle.model.proofs.ColumnLaws.{length-rows}
use Rattle.model.proofs.OutcomeLaws.{gate_open}
use Rattle.model.proofs.LengthLaws.{pick_case, of_rows, rows_no_nine}
use Rattle.model.proofs.RowLaws.{unary_row, union_row, intersect_row, slice_row_lem, replace_row_lem, remove_row_lem, length-resized, left_of, made_at, rows-kept, null_stays, made-total, flat-total}
use Rattle.model.proofs.LimitLaws.{capped_le, capped_within, shown-elements, step_stops}

-- ---- sums over rows

total_le : (f g : ℕ → ℕ) (a n : ℕ) → ((r : ℕ) → f r ≤ g r) → total (tab f a n) ≤ total (tab g a n)
unfolding total tab
total_le f g a zero h = omega arith
total_le f g a (suc n) h = omega (arith, h a, total_le f g (suc a) n h)

total-plus : (f g : ℕ → ℕ) (a n : ℕ) → total (tab (λ r. f r + g r) a n) ≡ total (tab f a n) + total (tab g a n)
unfolding total tab
total-plus f g a zero = refl
total-plus f g a (suc n) = omega (arith, total-plus f g (suc a) n)

tab-next : (f : ℕ → ℕ) (a n : ℕ) → tab f (suc a) n ≡ tab (λ r. f (suc r)) a n
unfolding tab
tab-next f a zero = refl
tab-next f a (suc n) = rw (tab-next f (suc a) n)

-- n rows of a list have at most the list's elements
total-rows : (ws : List Row) (n : ℕ) → total (tab (λ r. length_of (row_of ws r)) 0 n) ≤ length (flat ws)
unfolding total tab flat elems_of
total-rows ws zero = omega arith
total-rows [] (suc n) =
    let h = total-rows [] n in
    let e = tab-next (λ r. length_of (row_of [] r)) 0 n in
    rw e (omega arith)
total-rows (w ∷ ws) (suc n) =
    let h = total-rows ws n in
    let e = tab-next (λ r. length_of (row_of (w ∷ ws) r)) 0 n in
    rw e (omega (arith, length-append (elems_of w) (flat ws)))

-- ---- the shown elements of a column lie between its offsets

-- offsets that 1 does not refuse do not fall
count-rises : (p o : ℤ) → lt_z p o ≡ false → count o ≤ count p
unfolding count
count-rises (pos p) (pos o) h = ltb-false p o h
count-rises (pos p) (negsuc o) h = omega arith
count-rises (negsuc p) (pos o) h = never_true h
count-rises (negsuc p) (negsuc o) h = omega arith

falls_not : (o : ℤ) (os : List ℤ) (n r : ℕ) → falls o os n ≡ false → r < length os → offset_at (o ∷ os) r ≤ offset_at (o ∷ os) (suc r)
unfolding falls
falls_not o [] n r h l = let z : ⊥ = omega arith in absurd z
falls_not o (p ∷ ps) n zero h l = count-rises p o (or_none (lt_z p o) _ h).0
falls_not o (p ∷ ps) n (suc r) h l = falls_not p ps n r (or_none (lt_z p o) _ h).1 (omega arith)

rises : (os : List ℤ) (n r : ℕ) → bad_offsets os n ≡ false → r < row_count os → offset_at os r ≤ offset_at os (r + 1)
unfolding bad_offsets
rises [] n r h l = let z : ⊥ = omega arith in absurd z
rises (o ∷ os) n r h l = let e : r + 1 ≡ suc r = omega arith in rw e (falls_not o os n r (or_none (lt_z o (pos 0)) _ h).1 (omega arith))

-- steps up from f a add up to f (a + n)
steps_up : (f : ℕ → ℕ) (a n : ℕ) → ((r : ℕ) → r < n → f (a + r) ≤ f (a + r + 1)) → f a + total (tab (λ r. f (r + 1) - f r) a n) ≡ f (a + n)
unfolding total tab
steps_up f a zero h = let e : a + 0 ≡ a = omega arith in rw e (omega arith)
steps_up f a (suc n) h =
    let e : a + 0 ≡ a = omega arith in
    let one : a + 1 ≡ suc a = omega arith in
    let all : suc a + n ≡ a + suc n = omega arith in
    let first = rw (e, one) at (h 0 (omega arith)) in
    let later = rw all at (steps_up f (suc a) n (λ r l. let s : suc a + r ≡ a + suc r = omega arith in rw s (h (suc r) (omega arith)))) in
    rw one (omega arith)

pub shown-fit : (c : Column) (m : ℕ) → refusal1 c ≡ false → ((r : ℕ) → offset_at c.offsets r ≤ m) → length (flat (rows_of c)) ≤ m
unfolding rows_of row_at elems_of
shown-fit c m h l =
    let n = row_count c.offsets in
    let t = total_le (λ r. length_of (row_at c r)) (λ r. length_at c r) 0 n row_fits in
    let up = steps_up (offset_at c.offsets) 0 n (λ r k. let z : 0 + r ≡ r = omega arith in rw z (rises c.offsets (length c.values) r h k)) in
    omega (arith, flat-total (row_at c) 0 n, t, up, l (0 + n))
  where
    E : ℕ → Elem
    E = elem_at c.values c.elements

    row_fits : (r : ℕ) → length_of (row_at c r) ≤ length_at c r
    row_fits r =
        pick_case (λ (w : Row). length_of w ≤ length_at c r) (valid_at c.rows r) (list_row (tab E (offset_at c.offsets r) (length_at c r))) null_row
        (omega (arith, length-tab E (offset_at c.offsets r) (length_at c r))) (omega arith)

-- ---- 8 comes before a limit is passed

none_of : (k j : ℕ) → or_else k j ≡ 0 → j ≡ 0
none_of k j h = go (eqb k 0) refl h
  where
    go : (b : Bool) → eqb k 0 ≡ b → pick b j k ≡ 0 → j ≡ 0
    go true e p = p
    go false e p = never_true (sym (eq-eqb k 0 p) ∙ e)

eight_or_within : (m n : ℕ) → ◌≡◌ {A = ℕ} (pick (ltb m n) 8 0) 0 → n ≤ m
eight_or_within m n h = go (ltb m n) refl h
  where
    go : (b : Bool) → ltb m n ≡ b → ◌≡◌ {A = ℕ} (pick b 8 0) 0 → n ≤ m
    go true e p = let z : ⊥ = omega arith in absurd z
    go false e p = ltb-false m n e

-- what a row adds to resize's sum
counted_of : RowCount → ℕ
counted_of uncounted = 0
counted_of (counted n) = count n

stopped_stays : (k : ℕ) (ns : List RowCount) → sum_of (stopped k) ns ≡ stopped k
unfolding sum_of and_then
stopped_stays k [] = refl
stopped_stays k (n ∷ ns) = stopped_stays k ns

module _ (L : Limits) where
  sum_within : (ns : List RowCount) (a : ℕ) → sum_refusal L (sum_of (sum a) ns) ≡ 0 → a + total (map counted_of ns) ≤ L.resized
  unfolding sum_of sum_refusal and_then plus total counted_of count
  sum_within [] a h = omega (arith, eight_or_within L.resized a h)
  sum_within (uncounted ∷ ns) a h = omega (arith, sum_within ns a h)
  sum_within (counted (negsuc n) ∷ ns) a h = let z = ap (sum_refusal L) (stopped_stays 7 ns) in let e : ⊥ = omega (arith, z, h) in absurd e
  sum_within (counted (pos n) ∷ ns) a h = go (ltb largest (a + n)) h (sum_within ns (a + n))
    where
      go : (b : Bool) → sum_refusal L (sum_of (pick b (stopped 8) (sum (a + n))) ns) ≡ 0 → (sum_refusal L (sum_of (sum (a + n)) ns) ≡ 0 → a + n + total (map counted_of ns) ≤ L.resized) → a + (n + total (map counted_of ns)) ≤ L.resized
      go true p later = let z = ap (sum_refusal L) (stopped_stays 8 ns) in let e : ⊥ = omega (arith, z, p) in absurd e
      go false p later = omega (arith, later p)

resize-length : (w : Row) (n v : Elem) → length_of (resize_row w n v) ≡ counted_of (row_count_of w n)
unfolding resize_row row_count_of counted_of elems_of
resize-length null_row n v = refl
resize-length (list_row es) nul v = refl
resize-length (list_row es) (val n) v = length-resized (count n) v es

-- a row null in the first list is null in the carried rows, so its count is in neither sum
resize-over : (w w' : Row) (n v : Elem) → (is_row w ≡ false → is_row w' ≡ false) → length_of (resize_row w' n v) ≤ count_over (length_if w) n
unfolding resize_row count_over length_if times_of is_row elems_of
resize-over null_row null_row n v h = omega arith
resize-over null_row (list_row es) n v h = never_true (h refl)
resize-over (list_row ws) null_row n v h = omega arith
resize-over (list_row ws) (list_row es) nul v h = omega arith
resize-over (list_row ws) (list_row es) (val n) v h = omega (arith, length-resized (count n) v es)

-- ---- one step

-- the rows ws' that are carried, from the first list's rows ws on: as many, null where those are, and of at most n elements
pub record Carries (ws ws' : List Row) (n : ℕ) : Type 0 where
  pub many : length ws' ≡ length ws
  pub nulls : (r : ℕ) → is_row (row_of ws r) ≡ false → is_row (row_of ws' r) ≡ false
  pub few : length (flat ws') ≤ n

-- an operation on rows as one on their limits: n of its first list, m of its second
limited : ℕ → ℕ → ListCall (List Row) (List Elem) → ListCall ℕ (List Elem)
limited n m (unary k ws) = unary k n
limited n m (set_op_call k ls rs) = set_op_call k n m
limited n m (slice ws f t s) = slice n f t s
limited n m (resize ws c v) = resize n c v
limited n m (replace ws f t k) = replace n f t k
limited n m (remove ws f k) = remove n f k

code_limited : (n m code : ℕ) (ws rs : List Row) (a b c : List Elem) → limited n m (code_call code ws rs a b c) ≡ code_call code n m a b c
unfolding limited code_call
code_limited n m code ws rs a b c =
    sym
    (get_d_map (limited n m)
    (unary Reverse ws ∷ unary Distinct ws ∷ unary PopFront ws ∷ unary PopBack ws ∷ slice ws a b (given c) ∷ slice ws a b absent ∷ resize ws a (given b) ∷ replace ws a b c ∷ remove ws a b ∷ set_op_call Union ws rs ∷ set_op_call Intersect ws rs ∷ [])
    code (unary Reverse ws))

-- what holds of each operation of the table holds of the one that a code names
by_code : (P : ListCall (List Row) (List Elem) → Type 0) (ws rs : List Row) (a b c : List Elem)
    → ((k : Unary) → P (unary k ws)) → ((k : SetOp) → P (set_op_call k ws rs)) → ((s : Lent (List Elem)) → P (slice ws a b s)) → P (resize ws a (given b)) → P (replace ws a b c) → P (remove ws a b)
    → (code : ℕ) → P (code_call code ws rs a b c)
unfolding code_call
by_code P ws rs a b c u o s z p m code =
    all_get_d P (unary Reverse ws)
    (more (u Reverse) (more (u Distinct) (more (u PopFront) (more (u PopBack) (more (s (given c)) (more (s absent) (more z (more p (more m (more (o Union) (more (o Intersect) none)))))))))))
    (u Reverse) code
  where
    all_get_d : {A : Type 0} (P : A → Type 0) {xs : List A} (d : A) → All P xs → P d → (i : ℕ) → P (get_or xs i d)
    all_get_d P d none h i = h
    all_get_d P d (more g gs) h zero = g
    all_get_d P d (more g gs) h (suc i) = all_get_d P d gs h i

code-left : (code : ℕ) (ws rs : List Row) (a b c : List Elem) → left_of (code_call code ws rs a b c) ≡ ws
unfolding left_of
code-left code ws rs a b c = by_code (λ q. left_of q ≡ ws) ws rs a b c (λ k. refl) (λ k. refl) (λ s. refl) refl refl refl code

module _ (L : Limits) (w : EightsWithin L) (ws ws' rs : List Row) (n : ℕ) (cs : Carries ws ws' n) (hn : n ≤ L.offset) where
  -- what an operation makes of the carried rows is within its limit, unless it is refused
  Within : ListCall (List Row) (List Elem) → Type 0
  Within q = rows_refusal L q ≡ 0 → length (flat (rows_made L q)) ≤ capped L (call_limit (map length_if ws) (limited n (length (flat rs)) q))

  -- rows that are no longer than the carried ones
  shorter : (q : ListCall (List Row) (List Elem)) → ((r : ℕ) → length_of (made_at L q r) ≤ length_of (row_of ws' r)) → length (flat (rows_made L q)) ≤ capped L n
  shorter q h =
      let t = total_le (λ r. length_of (made_at L q r)) (λ r. length_of (row_of ws' r)) 0 (rows_in q) h in
      let f = cs.few in
      capped_within L _ n (omega (arith, made-total L q, t, total-rows ws' (rows_in q), f)) (omega (arith, made-total L q, t, total-rows ws' (rows_in q), f, hn))

  unary_within : (k : Unary) → Within (unary k ws')
  unfolding Within limited call_limit at_row made_of row_made
  unary_within k h = shorter (unary k ws') (λ r. unary_row k (row_of ws' r))

  slice_within : (f t : List Elem) (s : Lent (List Elem)) → Within (slice ws' f t s)
  unfolding Within limited call_limit at_row made_of row_made
  slice_within f t s h = shorter (slice ws' f t s) (λ r. slice_row_lem L (row_of ws' r) (argument_of f r) (argument_of t r) (stride_of (on_lent (λ es. argument_of es r) s)))

  replace_within : (f t k : List Elem) → Within (replace ws' f t k)
  unfolding Within limited call_limit at_row made_of row_made
  replace_within f t k h = shorter (replace ws' f t k) (λ r. replace_row_lem (row_of ws' r) (argument_of f r) (argument_of t r) (limit_of k r))

  remove_within : (f k : List Elem) → Within (remove ws' f k)
  unfolding Within limited call_limit at_row made_of row_made
  remove_within f k h = shorter (remove ws' f k) (λ r. remove_row_lem (row_of ws' r) (argument_of f r) (limit_of k r))

  -- where the cap cuts, union gives 8, and so does resize
  set_within : (k : SetOp) → Within (set_op_call k ws' rs)
  unfolding Within limited call_limit at_row made_of row_made rows_refusal sums_refusal union_refusal
  set_within Union h =
      let q : ListCall (List Row) (List Elem) = set_op_call Union ws' rs in
      let eight = eight_or_within L.united (length (flat (rows_made L q))) (none_of (first_of _) _ h) in
      let t = total_le (λ r. length_of (made_at L q r)) (λ r. length_of (row_of ws' r) + length_of (row_of rs r)) 0 (rows_in q) (λ r. union_row (row_of ws' r) (row_of rs r)) in
      let p = total-plus (λ r. length_of (row_of ws' r)) (λ r. length_of (row_of rs r)) 0 (rows_in q) in
      let f = cs.few in
      capped_within L _ (n + length (flat rs)) (omega (arith, made-total L q, t, p, total-rows ws' (rows_in q), total-rows rs (rows_in q), f)) (omega (arith, eight, w.united))
  set_within Intersect h = shorter (set_op_call Intersect ws' rs) (λ r. intersect_row (row_of ws' r) (row_of rs r))

  resize_within : (c : List Elem) (v : Lent (List Elem)) → Within (resize ws' c v)
  unfolding Within limited call_limit at_row made_of row_made rows_in counts_over length_if rows_refusal sums_refusal resize_refusal
  resize_within c v h =
      let q : ListCall (List Row) (List Elem) = resize ws' c v in
      let over = total_le (λ r. length_of (made_at L q r)) (λ r. count_over (get_or (map length_if ws) r absent) (argument_of c r)) 0 (length ws') by_first in
      let counts = total_le (λ r. length_of (made_at L q r)) (λ r. counted_of (row_count_of (row_of ws' r) (argument_of c r))) 0 (length ws') by_carried in
      let eight = rw (map-tab counted_of (λ r. row_count_of (row_of ws' r) (argument_of c r)) 0 (length ws')) at (sum_within L _ 0 (none_of (first_of _) _ h)) in
      let same : length (map length_if ws) ≡ length ws' = length-map length_if ws ∙ sym cs.many in
      rw same (capped_within L _ _ (omega (arith, made-total L q, over)) (omega (arith, made-total L q, counts, eight, w.resized)))
    where
      by_first : (r : ℕ) → length_of (made_at L (resize ws' c v) r) ≤ count_over (get_or (map length_if ws) r absent) (argument_of c r)
      by_first r = rw (get_d_map length_if ws r null_row) (resize-over (row_of ws r) (row_of ws' r) (argument_of c r) _ (cs.nulls r))

      by_carried : (r : ℕ) → length_of (made_at L (resize ws' c v) r) ≤ counted_of (row_count_of (row_of ws' r) (argument_of c r))
      by_carried r = omega (arith, resize-length (row_of ws' r) (argument_of c r) (fill_of (on_lent (λ es. argument_of es r) v)))

  -- a step carries on: as many rows, null where the first list's are, and within the step's limit
  step_carries : (es : List Elem) (s : Step) → rows_refusal L (step_call s ws' rs (column_of es (length rs))) ≡ 0 → Carries ws (rows_made L (step_call s ws' rs (column_of es (length rs)))) (step_limit L (map length_if ws) (map length_if rs) es s n)
  unfolding Within step_limit
  step_carries es s h =
      let q = step_call s ws' rs (column_of es (length rs)) in
      let l : left_of q ≡ ws' = code-left s.code ws' rs _ _ _ in
      record {
        many = rows-kept L q ∙ (ap length l ∙ cs.many);
        nulls = λ r z. null_stays L q r (rw l (cs.nulls r z));
        few = rw (length-map length_if rs, shown-elements rs, ← (code_limited n (length (flat rs)) s.code ws' rs (col s.first) (col s.second) (col s.third))) (within h);
      }
    where
      col : ℕ → List Elem
      col k = column_of es (length rs) k

      within : Within (step_call s ws' rs (column_of es (length rs)))
      within = by_code Within ws' rs (col s.first) (col s.second) (col s.third) unary_within set_within (slice_within _ _) (resize_within _ _) (replace_within _ _ _) (remove_within _ _) s.code

-- ---- what is lent

holds_parts : (n l : Room) → holds n l ≡ true → (n.offsets ≤ l.offsets) × (n.rows ≤ l.rows) × (n.values ≤ l.values) × (n.elements ≤ l.elements)
holds_parts n l h =
    let o = leb n.offsets l.offsets in
    let r = leb n.rows l.rows in
    let v = leb n.values l.values in
    let c = and_true (o && r && v) (leb n.elements l.elements) h in
    let b = and_true (o && r) v c.0 in
    let a = and_true o r b.0 in
    (leb-true n.offsets l.offsets a.0, leb-true n.rows l.rows a.1, leb-true n.values l.values b.1, leb-true n.elements l.elements c.1)

-- as much is lent as is needed where each slice is as long
pub holds_all : (n l : Room) → n.offsets ≤ l.offsets → n.rows ≤ l.rows → n.values ≤ l.values → n.elements ≤ l.elements → holds n l ≡ true
holds_all n l a b c d = rw (le-leb n.offsets l.offsets a, le-leb n.rows l.rows b, le-leb n.values l.values c, le-leb n.elements l.elements d)

-- what holds many elements holds fewer
holds_fewer : (rows m n : ℕ) (l : Room) → m ≤ n → holds (room_for rows n) l ≡ true → holds (room_for rows m) l ≡ true
holds_fewer rows m n l h g =
    let p = holds_parts (room_for rows n) l g in
    holds_all (room_for rows m) l p.0 p.1 (omega (arith, p.2)) (omega (arith, p.3))

-- ---- all steps

module _ (L : Limits) (w : EightsWithin L) (ws rs : List Row) (es : List Elem) where
  -- a step that is lent its limit does not come to 9
  step_enough : (s : Step) (ws' : List Row) (n m : ℕ) (l : Room) → Carries ws ws' n → n ≤ L.offset → step_limit L (map length_if ws) (map length_if rs) es s n ≤ m → holds (room_for (length ws) m) l ≡ true
      → after_three L (step_call s ws' rs (column_of es (length rs))) l ≡ refused 9 → ⊥
  unfolding after_three gate fitted
  step_enough s ws' n m l cs hn hm hl h = go (eqb (rows_refusal L q) 0) refl h
    where
      q : ListCall (List Row) (List Elem)
      q = step_call s ws' rs (column_of es (length rs))

      room : rows_refusal L q ≡ 0 → holds (room_of_rows (rows_made L q)) l ≡ true
      room e =
          let k = step_carries L w ws ws' rs n cs hn es s e in
          let f = k.few in
          rw k.many (holds_fewer (length ws) (length (flat (rows_made L q))) m l (omega (arith, f, hm)) hl)

      go : (b : Bool) → eqb (rows_refusal L q) 0 ≡ b → pick b (pick (holds (room_of_rows (rows_made L q)) l) (made (rows_made L q)) (refused 9)) (refused (rows_refusal L q)) ≡ refused 9 → ⊥
      go true e p = let z = rw (room (eqb-true (rows_refusal L q) 0 e)) at p in never cc
      go false e p = let k : rows_refusal L q ≡ 9 = cc in rows_no_nine (of_rows L q) k

  -- what a step leaves is what it makes, and it is not refused
  step-made : (q : ListCall (List Row) (List Elem)) (l : Room) (ws'' : List Row) → after_three L q l ≡ made ws'' → (rows_refusal L q ≡ 0) × (ws'' ≡ rows_made L q)
  unfolding after_three gate fitted
  step-made q l ws'' h = go (eqb (rows_refusal L q) 0) refl (holds (room_of_rows (rows_made L q)) l) h
    where
      go : (b : Bool) → eqb (rows_refusal L q) 0 ≡ b → (c : Bool) → pick b (pick c (made (rows_made L q)) (refused 9)) (refused (rows_refusal L q)) ≡ made ws'' → (rows_refusal L q ≡ 0) × (ws'' ≡ rows_made L q)
      go true e true p = (eqb-true (rows_refusal L q) 0 e, cc)
      go true e false p = never cc
      go false e c p = never cc

  steps_enough : (s : Step) (ss : List Step) (ws' : List Row) (n : ℕ) (a b o : Room) → Carries ws ws' n → n ≤ L.offset
      → LentEnough (length (s ∷ ss)) (length ws) (steps_limits L (map length_if ws) (map length_if rs) es s ss n) a b o → carried L s ss ws' rs (column_of es (length rs)) a b o ≡ refused 9 → ⊥
  unfolding carried steps_limits then_on
  steps_enough s [] ws' n a b o cs hn e h = step_enough s ws' n _ o cs hn (omega arith) e.output h
  steps_enough s (t ∷ ts) ws' n a b o cs hn e h = go (after_three L (step_call s ws' rs (column_of es (length rs))) a) refl h (λ ws''. steps_enough t ts ws'' m b a o)
    where
      m : ℕ
      m = step_limit L (map length_if ws) (map length_if rs) es s n

      go : (x : Outcome (List Row)) → after_three L (step_call s ws' rs (column_of es (length rs))) a ≡ x → then_on x (λ ws''. carried L t ts ws'' rs (column_of es (length rs)) b a o) ≡ refused 9
          → ((ws'' : List Row) → Carries ws ws'' m → m ≤ L.offset → LentEnough (length (t ∷ ts)) (length ws) (steps_limits L (map length_if ws) (map length_if rs) es t ts m) b a o → carried L t ts ws'' rs (column_of es (length rs)) b a o ≡ refused 9 → ⊥) → ⊥
      go (refused k) f p later = let j : k ≡ 9 = cc in step_enough s ws' n _ a cs hn (omega arith) (e.one (omega arith)) (f ∙ ap refused j)
      go (made ws'') f p later =
          let d = step-made (step_call s ws' rs (column_of es (length rs))) a ws'' f in
          later ws'' (rw d.1 (step_carries L w ws ws' rs n cs hn es s d.0)) (step_stops L _ _ es s n)
          (record { one = λ k. e.two (omega arith); two = λ k. holds_fewer (length ws) _ _ a (omega arith) (e.one (omega arith)); output = e.output }) p

  -- the first list's rows carry themselves
  start_carries : length (flat ws) ≤ L.offset → Carries ws ws (capped L (shown_in (map length_if ws)))
  start_carries h = record { many = refl; nulls = λ r z. z; few = rw (shown-elements ws) (capped_within L (length (flat ws)) (length (flat ws)) (omega arith) h) }

  -- a recipe of any steps, on the first list's rows
  stepped_enough : (ss : List Step) (a b o : Room) → length (flat ws) ≤ L.offset → LentEnough (length ss) (length ws) (limits_of L (map length_if ws) (map length_if rs) es ss) a b o → stepped L ss ws rs (column_of es (length rs)) a b o ≡ refused 9 → ⊥
  unfolding stepped limits_of fitted
  stepped_enough [] a b o hw e h = let z = rw (holds_fewer (length ws) (length (flat ws)) _ o (start_carries hw).few e.output) at h in never cc
  stepped_enough (s ∷ ss) a b o hw e h = steps_enough s ss ws (capped L (shown_in (map length_if ws))) a b o (start_carries hw) (capped_le L _) e h

-- ---- the recipe

-- what is made passed the gate
gate-made : {A : Type 0} (k : ℕ) (x : Outcome A) (a : A) → gate k x ≡ made a → (k ≡ 0) × (x ≡ made a)
unfolding gate
gate-made k x a h = go (eqb k 0) refl h
  where
    go : (b : Bool) → eqb k 0 ≡ b → pick b x (refused k) ≡ made a → (k ≡ 0) × (x ≡ made a)
    go true e p = (eqb-true k 0 e, p)
    go false e p = never cc

-- a step refuses with 4 to 9
step_late : (L : Limits) (q : ListCall (List Row) (List Elem)) (l : Room) (k : ℕ) → after_three L q l ≡ refused k → (3 < k) × (k < 10)
unfolding after_three gate fitted
step_late L q l k h = go (eqb (rows_refusal L q) 0) refl (holds (room_of_rows (rows_made L q)) l) h
  where
    go : (b : Bool) → eqb (rows_refusal L q) 0 ≡ b → (c : Bool) → pick b (pick c (made (rows_made L q)) (refused 9)) (refused (rows_refusal L q)) ≡ refused k → (3 < k) × (k < 10)
    go true e true p = never cc
    go true e false p = let j : 9 ≡ k = cc in omega arith
    go false e c p =
        let j : rows_refusal L q ≡ k = cc in
        let some : rows_refusal L q ≡ 0 → ⊥ = eqb-false (rows_refusal L q) 0 e in
        let r = of_rows L q in
        let low = r.0 (omega arith) in
        let high = r.1 in
        omega arith

steps_late : (L : Limits) (s : Step) (ss : List Step) (ws rs : List Row) (col : ℕ → List Elem) (a b o : Room) (k : ℕ) → carried L s ss ws rs col a b o ≡ refused k → (3 < k) × (k < 10)
unfolding carried then_on
steps_late L s [] ws rs col a b o k h = step_late L _ o k h
steps_late L s (t ∷ ts) ws rs col a b o k h = go (after_three L (step_call s ws rs col) a) refl h (λ ws'. steps_late L t ts ws' rs col b a o k)
  where
    go : (x : Outcome (List Row)) → after_three L (step_call s ws rs col) a ≡ x → then_on x (λ ws'. carried L t ts ws' rs col b a o) ≡ refused k
        → ((ws' : List Row) → carried L t ts ws' rs col b a o ≡ refused k → (3 < k) × (k < 10)) → (3 < k) × (k < 10)
    go (refused j) f p later = let q : j ≡ k = cc in step_late L _ a k (f ∙ ap refused q)
    go (made ws') f p later = later ws' p

stepped_late : (L : Limits) (ss : List Step) (ws rs : List Row) (col : ℕ → List Elem) (a b o : Room) (k : ℕ) → stepped L ss ws rs col a b o ≡ refused k → (3 < k) × (k < 10)
unfolding stepped fitted
stepped_late L [] ws rs col a b o k h = go (holds (room_of_rows ws) o) h
  where
    go : (c : Bool) → pick c (made ws) (refused 9) ≡ refused k → (3 < k) × (k < 10)
    go true p = never cc
    go false p = let j : 9 ≡ k = cc in omega arith
stepped_late L (s ∷ ss) ws rs col a b o k h = steps_late L s ss ws rs col a b o k h

-- the limits and the run refuse alike before the first step
pub refused_alike : {A B : Type 0} (k j : ℕ) (x : Outcome A) (y : Outcome B) → (x ≡ refused j → y ≡ refused j) → gate k x ≡ refused j → gate k y ≡ refused j
unfolding gate
refused_alike k j x y f h = go (eqb k 0) h
  where
    go : (b : Bool) → pick b x (refused k) ≡ refused j → pick b y (refused k) ≡ refused j
    go true p = f p
    go false p = let q : k ≡ j = cc in ap refused q

module _ (L : Limits) (p : Recipe) where
  formed-refused : (ws rs : List Row) (es : List Elem) (a b o : Room) (k : ℕ) → formed_limits L p ws rs es ≡ refused k → formed_recipe L p ws rs es a b o ≡ refused k
  unfolding formed_limits formed_recipe
  formed-refused ws rs es a b o k h = refused_alike (pick (recipe_unequal p.columns ws rs es) 3 0) k _ _ (λ e. never cc) h

  -- "The limits give 10, 1, 2 or 3 as the run would"
  pub limits-refuse : (c d : Column) (e : Arguments) (a b o : Room) (k : ℕ) → recipe_limits L p c d e ≡ refused k → recipe_outcome L p c d e a b o ≡ refused k
  unfolding recipe_limits recipe_outcome
  limits-refuse c d e a b o k h =
      refused_alike (pick (malformed p) 10 0) k _ _ (refused_alike (columns_refusal (c ∷ d ∷ []) (e ∷ [])) k _ _ (formed-refused (rows_of c) (rows_of d) (shown_by e) a b o k)) h

  -- where limits are given, the run comes to what its steps do
  formed_past : (ws rs : List Row) (es : List Elem) (a b o : Room) (m : TrayLimits) → formed_limits L p ws rs es ≡ made m
      → (formed_recipe L p ws rs es a b o ≡ stepped L (steps_of p.numbers) ws rs (column_of es (length rs)) a b o) × (limits_of L (map length_if ws) (map length_if rs) es (steps_of p.numbers) ≡ m)
  unfolding formed_limits formed_recipe
  formed_past ws rs es a b o m h = let g = gate-made _ _ m h in let e = g.1 in (gate_open _ _ g.0, cc)

  module _ (c d : Column) (e : Arguments) (a b o : Room) (m : TrayLimits) (h : recipe_limits L p c d e ≡ made m) where
    unrefused : columns_refusal (c ∷ d ∷ []) (e ∷ []) ≡ 0
    unfolding recipe_limits
    unrefused = (gate-made _ _ m (gate-made _ _ m h).1).0

    past : (recipe_outcome L p c d e a b o ≡ stepped L (steps_of p.numbers) (rows_of c) (rows_of d) (column_of (shown_by e) (length (rows_of d))) a b o) × (limits_of L (map length_if (rows_of c)) (map length_if (rows_of d)) (shown_by e) (steps_of p.numbers) ≡ m)
    unfolding recipe_limits recipe_outcome
    past =
        let g = gate-made _ _ m h in
        let k = gate-made _ _ m g.1 in
        let f = formed_past (rows_of c) (rows_of d) (shown_by e) a b o m k.1 in
        (gate_open _ _ g.0 ∙ (gate_open _ _ k.0 ∙ f.0), f.1)

    -- and refuses with none of 10, 13, 1, 2 and 3
    pub limits-given : (k : ℕ) → recipe_outcome L p c d e a b o ≡ refused k → (3 < k) × (k < 10)
    limits-given k z = stepped_late L (steps_of p.numbers) (rows_of c) (rows_of d) (column_of (shown_by e) (length (rows_of d))) a b o k (sym past.0 ∙ z)

    -- "Lending that much, with offsets and bitmaps to match, rules out 9.", whatever the columns hold: the first list's offsets fit the width, as
    -- those of every slice lent do
    pub lent_enough : EightsWithin L → OffsetsFit L c → LentEnough (length (steps_of p.numbers)) (row_count c.offsets) m a b o
        → recipe_outcome L p c d e a b o ≡ refused 9 → ⊥
    unfolding columns_refusal any
    lent_enough w hc l z =
        stepped_enough L w (rows_of c) (rows_of d) (shown_by e) (steps_of p.numbers) a b o (shown-fit c L.offset (first_good unrefused) hc) (rw (past.1, length-rows c) l) (sym past.0 ∙ z)
      where
        passed : (x y z : Bool) → ◌≡◌ {A = ℕ} (pick x 13 (pick y 1 (pick z 2 0))) 0 → y ≡ false
        passed true y z k = let n : ⊥ = omega arith in absurd n
        passed false true z k = let n : ⊥ = omega arith in absurd n
        passed false false z k = refl

        first_good : columns_refusal (c ∷ d ∷ []) (e ∷ []) ≡ 0 → refusal1 c ≡ false
        first_good k = (or_none (refusal1 c) _ (passed (any refusal13 (c ∷ d ∷ []) || any refusal13ᵃ (e ∷ [])) (any refusal1 (c ∷ d ∷ [])) (any refusal2 (c ∷ d ∷ []) || any refusal2ᵃ (e ∷ [])) k)).0

-- the same of two calls: what the limits answer, lent to a run of the recipe for whatever station, rules out the answer 9
pub rules_out_nine : (L : Limits) (s : ℕ) (p : Recipe) (c d : Column) (e : Arguments) (a b o : Room) (t : Tally) (m : TrayLimits)
    → EightsWithin L → OffsetsFit L c → (end L (limit_recipe p c d e)).answer ≡ counts (limit_counts m)
    → LentEnough (length (steps_of p.numbers)) (row_count c.offsets) m a b o → (end L (recipe s p c d e a b o t)).answer ≡ refusal 9 → ⊥
unfolding end recipe_end trays_end answer_of stationed gate
rules_out_nine L s p c d e a b o t m w hc h l z =
    lent_enough L p c d e a b o m (given-limits (recipe_limits L p c d e) h) w hc l (passed (ltb 15 s) (answered _ z))
  where
    given-limits : (x : Outcome TrayLimits) → answer_of limit_counts x ≡ counts (limit_counts m) → x ≡ made m
    given-limits (refused k) g = never cc
    given-limits (made n) g =
        let i : n.one ≡ m.one = cc in
        let j : n.two ≡ m.two = cc in
        let k : n.output ≡ m.output = cc in
        let same : tray_limits n.one n.two n.output ≡ tray_limits m.one m.two m.output = rw (i, j, k) in
        ap made same

    answered : (x : Outcome (List Row)) → answer_of list_counts x ≡ refusal 9 → x ≡ refused 9
    answered (refused k) g = cc
    answered (made ws) g = never cc

    passed : (y : Bool) → gate (pick y 15 0) (recipe_outcome L p c d e a b o) ≡ refused 9 → recipe_outcome L p c d e a b o ≡ refused 9
    passed true g = let k : ◌≡◌ {A = ℕ} 15 9 = cc in let n : ⊥ = omega arith in absurd n
    passed false g = g

-- ---- the premises hold: of 32-bit and of 64-bit offsets, of offsets that fit the width, and of lending just the limits

pub narrow_eights : EightsWithin narrow
narrow_eights = record { resized = omega arith; united = omega arith }

pub wide_eights : EightsWithin wide
wide_eights = record { resized = omega arith; united = omega arith }

pub offsets-fit : (L : Limits) (c : Column) → All (λ (z : ℤ). mag z ≤ L.offset) c.offsets → OffsetsFit L c
unfolding count
offsets-fit L c h r = each c.offsets r h
  where
    within : (z : ℤ) → mag z ≤ L.offset → count z ≤ L.offset
    within (pos n) e = e
    within (negsuc n) e = omega arith

    each : (os : List ℤ) (r : ℕ) → All (λ (z : ℤ). mag z ≤ L.offset) os → offset_at os r ≤ L.offset
    each os r none = omega arith
    each os zero (more {x} e h) = within x e
    each os (suc r) (more {xs = xs} e h) = each xs r h

pub just_enough : (steps rows : ℕ) (m : TrayLimits) → LentEnough steps rows m (room_for rows m.one) (room_for rows m.two) (room_for rows m.output)
just_enough steps rows m = record { one = λ h. itself m.one; two = λ h. itself m.two; output = itself m.output }
  where
    itself : (n : ℕ) → holds (room_for rows n) (room_for rows n) ≡ true
    itself n = holds_all (room_for rows n) (room_for rows n) (omega arith) (omega arith) (omega arith) (omega arith)
