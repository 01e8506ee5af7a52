-- How much to lend: "the exact slice lengths each operation needs, with the refusals it would give before 9". `nine_exactly` and its
-- siblings: the run refuses as its measure does, and answers 9 exactly where the measure gives lengths and what is lent falls short of one.
use Prim.Native.Nat.{ℕ, zero, suc, ◌+◌, ◌<◌}
use mathlib.Core.Path.{◌≡◌, refl, sym, ap, ◌∙◌}
use mathlib.Core.Bool.{Bool, true, false, ◌||◌}
use mathlib.Core.List.{List, [], ◌∷◌, map}
use native.Mathlib.Omega.{arith}
use lib.Dec.{ltb, eqb}
use lib.ListN.{length}
use lib.IntN.{ℤ, pos, negsuc}
use Rattle.model.specs.Basics.{pick, tab, any}
use Rattle.model.specs.Limits.{Limits, largest}
use Rattle.model.specs.Column.{Elem, nul, val, Row, null_row, list_row, Column, Arguments, rows_of, shown_by, refusal13, refusal13ᵃ, refusal1, refusal2, refusal2ᵃ}
use Rattle.model.specs.Form.{flat, Room, ValueRoom, RepeatRoom}
use Rattle.model.specs.Slice.{fits, Bound, unfit, outside, place, Plan, refuse, empty, places, step_count, is_zero, against, strided, between, slice_plan}
use Rattle.model.specs.Rows.{ListCall, unary, set_op_call, slice, resize, replace, remove, on_call, lists_in, arguments_in, planned, stride_of, slice_row, made_of, row_of, argument_of, at_row, rows_in, row_by_row, rows_made, any_value_of}
use Rattle.model.specs.Refusals.{differs, unequal, first_of, refusal_of, RowCount, uncounted, counted, Sum, stopped, sum, plus, and_then, sum_of, sum_refusal, resize_refusal, union_refusal, sums_refusal, rows_refusal, element_refusal, total, times_of, repeated_by, repeat_refusal}
use Rattle.model.specs.Outcome.{Outcome, refused, made, gate, columns_refusal, fitted, fitted_values, fitted_repeat, after_three, list_shown, any_value_shown, elements_made, elements_refusal, element_shown, repeats_made, repeat_shown, list_outcome, any_value_outcome, element_outcome, repeat_outcome}
use Rattle.model.specs.Lengths.{room_of_rows, room_of_values, room_of_outer, holds, holds_values, holds_repeat, list_lengths_shown, any_value_lengths_shown, element_lengths_shown, repeat_lengths_shown, list_lengths, any_value_lengths, element_lengths, repeat_lengths}
use Rattle.model.specs.declared.SetOp.TheVariants.{Union, Intersect}
use Rattle.model.proofs.BoolLaws.{never, never_true}
use Rattle.model.proofs.TabLaws.{map-tab}

-- ---- no refusal before the last is 9

abbrev pub NotNine : ℕ → Type 0
NotNine k = k ≡ 9 → ⊥

-- what an operation refuses after 3 and before 9 is one of 4 to 8, and 0 is none
abbrev pub OfRows : ℕ → Type 0
OfRows k = (0 < k → 3 < k) × (k < 9)

pub rows_no_nine : {k : ℕ} → OfRows k → NotNine k
rows_no_nine h e = let l = h.1 in omega arith

-- a fact of both is a fact of the one picked
pub pick_case : {A : Type 0} (P : A → Type 0) (b : Bool) (x y : A) → P x → P y → P (pick b x y)
pick_case P true x y h g = h
pick_case P false x y h g = g

pub three_not_nine : (b : Bool) → NotNine (pick b 3 0)
three_not_nine b = pick_case NotNine b 3 0 (omega arith) (omega arith)

pub columns_not_nine : (cs : List Column) (es : List Arguments) → NotNine (columns_refusal cs es)
unfolding columns_refusal
columns_not_nine cs es =
    pick_case NotNine (any refusal13 cs || any refusal13ᵃ es) 13 _ (omega arith)
    (pick_case NotNine (any refusal1 cs) 1 _ (omega arith) (pick_case NotNine (any refusal2 cs || any refusal2ᵃ es) 2 0 (omega arith) (omega arith)))

eight_of_rows : (b : Bool) → OfRows (pick b 8 0)
eight_of_rows b = pick_case OfRows b 8 0 (omega arith) (omega arith)

first_of_rows : (f : ℕ → ℕ) (a n : ℕ) → ((r : ℕ) → OfRows (f r)) → OfRows (first_of (tab f a n))
unfolding first_of tab
first_of_rows f a zero h = omega arith
first_of_rows f a (suc n) h = pick_case OfRows (eqb (f a) 0) (first_of (tab f (suc a) n)) (f a) (first_of_rows f (suc a) n h) (h a)

-- slice's 4, 5 and 6
module _ (L : Limits) (es : List Elem) where
  abbrev PlanOfRows : Plan → Type 0
  PlanOfRows p = OfRows (refusal_of (planned p es))

  strided_of_rows : (a b : ℕ) (s : ℤ) → PlanOfRows (strided L a b s)
  unfolding strided planned refusal_of
  strided_of_rows a b s =
      pick_case PlanOfRows (is_zero s) (refuse 5) _ (omega arith)
      (pick_case PlanOfRows (against a b s) empty _ (omega arith) (pick_case PlanOfRows (fits L s) (places a s (step_count a b s)) (refuse 6) (omega arith) (omega arith)))

  between_of_rows : (f t : Bound) (s : ℤ) → PlanOfRows (between L f t s)
  unfolding between planned refusal_of
  between_of_rows unfit t s = omega arith
  between_of_rows outside unfit s = omega arith
  between_of_rows outside outside s = omega arith
  between_of_rows outside (place b) s = omega arith
  between_of_rows (place a) unfit s = omega arith
  between_of_rows (place a) outside s = omega arith
  between_of_rows (place a) (place b) s = strided_of_rows a b s

  slice_of_rows : (n : ℕ) (f t s : ℤ) → PlanOfRows (slice_plan L n f t s)
  unfolding slice_plan planned refusal_of
  slice_of_rows n f t s = pick_case PlanOfRows (eqb n 0) empty _ (omega arith) (between_of_rows _ _ s)

module _ (L : Limits) where
  row_of_rows : (q : ListCall Row Elem) → OfRows (refusal_of (made_of L q))
  unfolding made_of refusal_of slice_row
  row_of_rows (unary k w) = omega arith
  row_of_rows (set_op_call k l r) = omega arith
  row_of_rows (slice w f t s) = one w f t (stride_of s)
    where
      one : (w : Row) (f t s : Elem) → OfRows (refusal_of (slice_row L w f t s))
      one null_row f t s = omega arith
      one (list_row es) nul t s = omega arith
      one (list_row es) (val f) nul s = omega arith
      one (list_row es) (val f) (val t) nul = omega arith
      one (list_row es) (val f) (val t) (val s) = slice_of_rows L es _ f t s
  row_of_rows (resize w n v) = omega arith
  row_of_rows (replace w f t n) = omega arith
  row_of_rows (remove w f n) = omega arith

  -- resize's 7 and 8
  sum_of_rows : (ns : List RowCount) (s : Sum) → OfRows (sum_refusal L s) → OfRows (sum_refusal L (sum_of s ns))
  unfolding sum_of and_then plus sum_refusal
  sum_of_rows [] s h = h
  sum_of_rows (n ∷ ns) s h = sum_of_rows ns (and_then s n) (next s n h)
    where
      next : (s : Sum) (n : RowCount) → OfRows (sum_refusal L s) → OfRows (sum_refusal L (and_then s n))
      next (stopped k) n h = h
      next (sum a) uncounted h = h
      next (sum a) (counted (pos n)) h = pick_case (λ x. OfRows (sum_refusal L x)) (ltb largest (a + n)) (stopped 8) (sum (a + n)) (omega arith) (eight_of_rows (ltb L.resized (a + n)))
      next (sum a) (counted (negsuc n)) h = omega arith

  sums_of_rows : (q : ListCall (List Row) (List Elem)) → OfRows (sums_refusal L q)
  unfolding sums_refusal resize_refusal sum_refusal union_refusal
  sums_of_rows (unary k ws) = omega arith
  sums_of_rows (set_op_call Union ls rs) = eight_of_rows (ltb L.united (length (flat (rows_made L (set_op_call Union ls rs)))))
  sums_of_rows (set_op_call Intersect ls rs) = omega arith
  sums_of_rows (slice ws f t s) = omega arith
  sums_of_rows (resize ws n v) = sum_of_rows _ (sum 0) (eight_of_rows (ltb L.resized 0))
  sums_of_rows (replace ws f t n) = omega arith
  sums_of_rows (remove ws f n) = omega arith

  pub of_rows : (q : ListCall (List Row) (List Elem)) → OfRows (rows_refusal L q)
  unfolding rows_refusal row_by_row
  of_rows q =
      pick_case OfRows (eqb (first_of _) 0) _ _ (sums_of_rows q)
      (rw (map-tab refusal_of (λ r. made_of L (at_row q r)) 0 (rows_in q)) (first_of_rows _ 0 (rows_in q) (λ r. row_of_rows (at_row q r))))

  elements_of_rows : (ws : List Row) (is : List Elem) → OfRows (elements_refusal L ws is)
  unfolding elements_refusal element_refusal
  elements_of_rows ws is = first_of_rows (λ r. element_refusal L (row_of ws r) (argument_of is r)) 0 (length ws) (λ r. one (row_of ws r) (argument_of is r))
    where
      one : (w : Row) (i : Elem) → OfRows (element_refusal L w i)
      one null_row i = omega arith
      one (list_row es) nul = omega arith
      one (list_row es) (val i) = pick_case OfRows (fits L i) 0 4 (omega arith) (omega arith)

  repeat_of_rows : (ws : List Row) (ns : List Elem) → OfRows (repeat_refusal L ws ns)
  unfolding repeat_refusal
  repeat_of_rows ws ns =
      eight_of_rows (ltb L.outer (total (tab (λ r. times_of (argument_of ns r)) 0 (length ws))) || ltb L.repeated (total (tab (λ r. repeated_by (row_of ws r) (argument_of ns r)) 0 (length ws))))

-- ---- the measure y beside the run x: `needs` tells what is needed for what is made, `enough` whether what is lent is enough for a need

pub record Measured {A R : Type 0} (needs : A → R) (enough : R → Bool) (y : Outcome R) (x : Outcome A) : Type 0 where
  -- "with the refusals it would give before 9"
  pub refuses : (k : ℕ) → y ≡ refused k → x ≡ refused k
  -- with as much as the measure gives the run is accepted, and makes what needs just that
  pub accepts : (n : R) → y ≡ made n → enough n ≡ true → (a : A) × (x ≡ made a) × (needs a ≡ n)
  -- with less it is 9
  pub short : (n : R) → y ≡ made n → enough n ≡ false → x ≡ refused 9
  -- and 9 comes of nothing else
  pub nine : x ≡ refused 9 → (n : R) × (y ≡ made n) × (enough n ≡ false)

module _ {A R : Type 0} (needs : A → R) (enough : R → Bool) where
  measured-last : (a : A) → Measured needs enough (made (needs a)) (pick (enough (needs a)) (made a) (refused 9))
  measured-last a = go (enough (needs a)) refl
    where
      go : (b : Bool) → enough (needs a) ≡ b → Measured needs enough (made (needs a)) (pick b (made a) (refused 9))
      go true e = record {
        refuses = λ k h. never cc;
        accepts = λ n h f. (a, refl, cc);
        short = λ n h f. let q : needs a ≡ n = cc in never_true (sym e ∙ (ap enough q ∙ f));
        nine = λ h. never cc;
      }
      go false e = record {
        refuses = λ k h. never cc;
        accepts = λ n h f. let q : needs a ≡ n = cc in never_true (sym f ∙ (ap enough (sym q) ∙ e));
        short = λ n h f. refl;
        nine = λ h. (needs a, refl, e);
      }

  measured-gate : (k : ℕ) {y : Outcome R} {x : Outcome A} → NotNine k → Measured needs enough y x → Measured needs enough (gate k y) (gate k x)
  unfolding gate
  measured-gate k {y} {x} h m = go (eqb k 0)
    where
      go : (b : Bool) → Measured needs enough (pick b y (refused k)) (pick b x (refused k))
      go true = m
      go false = record {
        refuses = λ j e. let q : k ≡ j = cc in ap refused q;
        accepts = λ n e f. never cc;
        short = λ n e f. never cc;
        nine = λ e. let q : k ≡ 9 = cc in absurd (h q);
      }

-- ---- the operations, on what is shown and on the columns lent

module _ (L : Limits) (l : Room) where
  nine_shown : (q : ListCall (List Row) (List Elem)) → Measured room_of_rows (λ n. holds n l) (list_lengths_shown L q) (list_shown L q l)
  unfolding list_lengths_shown list_shown after_three fitted
  nine_shown q = measured-gate _ _ (pick (unequal q) 3 0) (three_not_nine (unequal q)) (measured-gate _ _ (rows_refusal L q) (rows_no_nine (of_rows L q)) (measured-last room_of_rows (λ n. holds n l) (rows_made L q)))

  pub nine_exactly : (q : ListCall Column Arguments) → Measured room_of_rows (λ n. holds n l) (list_lengths L q) (list_outcome L q l)
  unfolding list_lengths list_outcome
  nine_exactly q = measured-gate _ _ (columns_refusal (lists_in q) (arguments_in q)) (columns_not_nine (lists_in q) (arguments_in q)) (nine_shown (on_call rows_of shown_by q))

module _ (L : Limits) (l : ValueRoom) where
  pub nine_exactly_any_value : (c : Column) → Measured room_of_values (λ n. holds_values n l) (any_value_lengths c) (any_value_outcome c l)
  unfolding any_value_lengths any_value_lengths_shown any_value_outcome any_value_shown fitted_values
  nine_exactly_any_value c = measured-gate _ _ (columns_refusal (c ∷ []) []) (columns_not_nine (c ∷ []) []) (measured-last room_of_values (λ n. holds_values n l) (map any_value_of (rows_of c)))

  nine_element : (ws : List Row) (is : List Elem) → Measured room_of_values (λ n. holds_values n l) (element_lengths_shown L ws is) (element_shown L ws is l)
  unfolding element_lengths_shown element_shown fitted_values
  nine_element ws is =
      measured-gate _ _ (pick (differs (length ws) is) 3 0) (three_not_nine (differs (length ws) is))
      (measured-gate _ _ (elements_refusal L ws is) (rows_no_nine (elements_of_rows L ws is)) (measured-last room_of_values (λ n. holds_values n l) (elements_made ws is)))

  pub nine_exactly_element : (c : Column) (a : Arguments) → Measured room_of_values (λ n. holds_values n l) (element_lengths L c a) (element_outcome L c a l)
  unfolding element_lengths element_outcome
  nine_exactly_element c a = measured-gate _ _ (columns_refusal (c ∷ []) (a ∷ [])) (columns_not_nine (c ∷ []) (a ∷ [])) (nine_element (rows_of c) (shown_by a))

module _ (L : Limits) (l : RepeatRoom) where
  nine_repeat : (ws : List Row) (ns : List Elem) → Measured room_of_outer (λ n. holds_repeat n l) (repeat_lengths_shown L ws ns) (repeat_shown L ws ns l)
  unfolding repeat_lengths_shown repeat_shown fitted_repeat
  nine_repeat ws ns =
      measured-gate _ _ (pick (differs (length ws) ns) 3 0) (three_not_nine (differs (length ws) ns))
      (measured-gate _ _ (repeat_refusal L ws ns) (rows_no_nine (repeat_of_rows L ws ns)) (measured-last room_of_outer (λ n. holds_repeat n l) (repeats_made ws ns)))

  pub nine_exactly_repeat : (c : Column) (a : Arguments) → Measured room_of_outer (λ n. holds_repeat n l) (repeat_lengths L c a) (repeat_outcome L c a l)
  unfolding repeat_lengths repeat_outcome
  nine_exactly_repeat c a = measured-gate _ _ (columns_refusal (c ∷ []) (a ∷ [])) (columns_not_nine (c ∷ []) (a ∷ [])) (nine_repeat (rows_of c) (shown_by a))
