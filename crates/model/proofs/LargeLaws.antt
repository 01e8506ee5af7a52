-- Large lists: "There 4 and 6 never occur." `no_four_or_six` says it of any call.
use Prim.Native.Nat.{ℕ, zero, suc, ◌+◌}
use mathlib.Core.Path.{◌≡◌, refl, sym, ap, ◌∙◌}
use mathlib.Core.Bool.{Bool, true, false, ◌||◌}
use mathlib.Core.List.{List, [], ◌∷◌, map}
use native.Mathlib.Omega.{arith}
use lib.Dec.{ltb, eqb}
use lib.ListN.{length}
use lib.IntN.{ℤ, pos, negsuc}
use Rattle.model.specs.Basics.{pick, tab, any}
use Rattle.model.specs.Limits.{wide, largest}
use Rattle.model.specs.Column.{Elem, nul, val, Row, null_row, list_row, Column, Arguments, rows_of, shown_by, refusal13, refusal13ᵃ, refusal1, refusal2, refusal2ᵃ}
use Rattle.model.specs.View.{View, ViewRoom, view_rows, refusal13ᵛ, refusal2ᵛ, refusal3ᵛ, refusal11, view_refusal, fits_view, import_shown, import_outcome, export_shown, export_outcome}
use Rattle.model.specs.Hash.{Hashed, plain_of, on_hashed, short_area, hashed_shown, hashed_outcome}
use Rattle.model.specs.Form.{flat, Room, ValueRoom, RepeatRoom, Outer, fits_in, fits_values, fits_repeat}
use Rattle.model.specs.Slice.{fits, from_place, in_row, from_bound, to_place, to_bound, Bound, unfit, outside, place, Plan, refuse, empty, places, is_zero, against, strided, between, slice_plan, step_count}
use Rattle.model.specs.Rows.{ListCall, unary, set_op_call, slice, resize, replace, remove, on_call, lists_in, arguments_in, planned, stride_of, slice_row, made_of, row_of, argument_of, at_row, rows_in, row_by_row, rows_made, any_value_of}
use Rattle.model.specs.Refusals.{differs, unequal, first_of, refusal_of, RowCount, uncounted, counted, Sum, stopped, sum, plus, and_then, sum_of, sum_refusal, resize_refusal, union_refusal, sums_refusal, rows_refusal, element_refusal, total, times_of, repeated_by, repeat_refusal}
use Rattle.model.specs.Outcome.{Outcome, refused, made, gate, columns_refusal, fitted, fitted_values, fitted_repeat, after_three, list_shown, any_value_shown, elements_made, elements_refusal, element_shown, repeats_made, repeat_shown, list_outcome, any_value_outcome, element_outcome, repeat_outcome}
use Rattle.model.specs.Lengths.{room_of_rows, room_of_values, room_of_outer, list_lengths_shown, any_value_lengths_shown, element_lengths_shown, repeat_lengths_shown, list_lengths, any_value_lengths, element_lengths, repeat_lengths, formed_limits, recipe_limits}
use Rattle.model.specs.Recipe.{Step, Recipe, column_of, malformed, recipe_unequal, step_call, then_on, carried, stepped, formed_recipe, recipe_shown, recipe_outcome, stationed, steps_of}
use Rattle.model.specs.Window.{no_window, formed_window, window_outcome}
use Rattle.model.specs.Call.{Call, list, any_value, element, list_repeat, recipe, measure_list, measure_any_value, measure_element, measure_repeat, limit_recipe, window, import_view, export_view, Answer, refusal, counts, answer_of, end, list_end, value_end, repeat_end, trays_end, recipe_end, window_end, view_end, grade_column, grade_recipe, grade_end, graded_end, hashed, hashed_end}
use Rattle.model.specs.Grade.{grade_refusal, graded, grade_outcome}
use Rattle.model.specs.declared.SetOp.TheVariants.{Union, Intersect}
use Rattle.model.proofs.BoolLaws.{never}
use Rattle.model.proofs.TabLaws.{map-tab}
use Rattle.model.proofs.LengthLaws.{pick_case}

-- a number that is neither
abbrev pub Neither : ℕ → Type 0
Neither k = (k ≡ 4 → ⊥) × (k ≡ 6 → ⊥)

-- an outcome whose refusal, where it has one, is neither
pub record Spared {A : Type 0} (x : Outcome A) : Type 0 where
  pub neither : (k : ℕ) → x ≡ refused k → Neither k

spared_made : {A : Type 0} (a : A) → Spared (made a)
spared_made a = record { neither = λ k e. never cc }

spared_refused : {A : Type 0} (k : ℕ) → Neither k → Spared {A = A} (refused k)
spared_refused k h = record { neither = λ j e. let q : k ≡ j = cc in rw (← q) h }

spared_gate : {A : Type 0} (k : ℕ) (o : Outcome A) → Neither k → Spared o → Spared (gate k o)
unfolding gate
spared_gate k o h g = pick_case Spared (eqb k 0) o (refused k) g (spared_refused k h)

zero_or : (b : Bool) (k : ℕ) → Neither k → Neither (pick b k 0)
zero_or b k h = pick_case Neither b k 0 h (λ e. omega arith, λ e. omega arith)

eight_or : (b : Bool) → Neither (pick b 8 0)
eight_or b = zero_or b 8 (λ e. omega arith, λ e. omega arith)

three_or : (b : Bool) → Neither (pick b 3 0)
three_or b = zero_or b 3 (λ e. omega arith, λ e. omega arith)

none : Neither 0
none = (λ e. omega arith, λ e. omega arith)

columns_neither : (cs : List Column) (es : List Arguments) → Neither (columns_refusal cs es)
unfolding columns_refusal
columns_neither cs es =
    pick_case Neither (any refusal13 cs || any refusal13ᵃ es) 13 _ (λ e. omega arith, λ e. omega arith)
    (pick_case Neither (any refusal1 cs) 1 _ (λ e. omega arith, λ e. omega arith) (pick_case Neither (any refusal2 cs || any refusal2ᵃ es) 2 0 (λ e. omega arith, λ e. omega arith) none))

first_neither : (f : ℕ → ℕ) (a n : ℕ) → ((r : ℕ) → Neither (f r)) → Neither (first_of (tab f a n))
unfolding first_of tab
first_neither f a zero h = none
first_neither f a (suc n) h = pick_case Neither (eqb (f a) 0) (first_of (tab f (suc a) n)) (f a) (first_neither f (suc a) n h) (h a)

-- ---- slice: every bound and stride fits

Fit : Bound → Type 0
Fit unfit = ⊥
Fit outside = Unit
Fit (place p) = Unit

in_row_fits : (n p : ℕ) → Fit (in_row n p)
unfolding in_row Fit
in_row_fits n p = pick_case Fit (ltb p n) (place p) outside tt tt

from-fits : (n : ℕ) (z : ℤ) → Fit (from_bound wide n z)
unfolding from_bound fits
from-fits n z = in_row_fits n (from_place n z)

to-fits : (n : ℕ) (z : ℤ) → Fit (to_bound wide n z)
unfolding to_bound fits to_place Fit
to-fits n (pos zero) = tt
to-fits n (pos (suc i)) = in_row_fits n _
to-fits n (negsuc i) = pick_case Fit (ltb i n) _ outside tt tt

module _ (es : List Elem) where
  abbrev PlanNeither : Plan → Type 0
  PlanNeither p = Neither (refusal_of (planned p es))

  strided_neither : (a b : ℕ) (s : ℤ) → PlanNeither (strided wide a b s)
  unfolding strided fits planned refusal_of
  strided_neither a b s =
      pick_case PlanNeither (is_zero s) (refuse 5) _ (λ e. omega arith, λ e. omega arith) (pick_case PlanNeither (against a b s) empty (places a s (step_count a b s)) none none)

  between_neither : (f t : Bound) (s : ℤ) → Fit f → Fit t → PlanNeither (between wide f t s)
  unfolding between planned refusal_of Fit
  between_neither unfit t s h g = absurd h
  between_neither outside unfit s h g = absurd g
  between_neither outside outside s h g = none
  between_neither outside (place b) s h g = none
  between_neither (place a) unfit s h g = absurd g
  between_neither (place a) outside s h g = none
  between_neither (place a) (place b) s h g = strided_neither a b s

  slice_neither : (n : ℕ) (f t s : ℤ) → PlanNeither (slice_plan wide n f t s)
  unfolding slice_plan planned refusal_of
  slice_neither n f t s = pick_case PlanNeither (eqb n 0) empty _ none (between_neither _ _ s (from-fits n f) (to-fits n t))

row_neither : (q : ListCall Row Elem) → Neither (refusal_of (made_of wide q))
unfolding made_of refusal_of slice_row
row_neither (unary k w) = none
row_neither (set_op_call k l r) = none
row_neither (slice w f t s) = one w f t (stride_of s)
  where
    one : (w : Row) (f t s : Elem) → Neither (refusal_of (slice_row wide w f t s))
    one null_row f t s = none
    one (list_row es) nul t s = none
    one (list_row es) (val f) nul s = none
    one (list_row es) (val f) (val t) nul = none
    one (list_row es) (val f) (val t) (val s) = slice_neither es _ f t s
row_neither (resize w n v) = none
row_neither (replace w f t n) = none
row_neither (remove w f n) = none

sum_neither : (ns : List RowCount) (s : Sum) → Neither (sum_refusal wide s) → Neither (sum_refusal wide (sum_of s ns))
unfolding sum_of and_then plus sum_refusal
sum_neither [] s h = h
sum_neither (n ∷ ns) s h = sum_neither ns (and_then s n) (next s n h)
  where
    next : (s : Sum) (n : RowCount) → Neither (sum_refusal wide s) → Neither (sum_refusal wide (and_then s n))
    next (stopped k) n h = h
    next (sum a) uncounted h = h
    next (sum a) (counted (pos n)) h = pick_case (λ x. Neither (sum_refusal wide x)) (ltb largest (a + n)) (stopped 8) (sum (a + n)) (λ e. omega arith, λ e. omega arith) (eight_or (ltb wide.resized (a + n)))
    next (sum a) (counted (negsuc n)) h = (λ e. omega arith, λ e. omega arith)

sums_neither : (q : ListCall (List Row) (List Elem)) → Neither (sums_refusal wide q)
unfolding sums_refusal resize_refusal sum_refusal union_refusal
sums_neither (unary k ws) = none
sums_neither (set_op_call Union ls rs) = eight_or (ltb wide.united (length (flat (rows_made wide (set_op_call Union ls rs)))))
sums_neither (set_op_call Intersect ls rs) = none
sums_neither (slice ws f t s) = none
sums_neither (resize ws n v) = sum_neither _ (sum 0) (eight_or (ltb wide.resized 0))
sums_neither (replace ws f t n) = none
sums_neither (remove ws f n) = none

rows_neither : (q : ListCall (List Row) (List Elem)) → Neither (rows_refusal wide q)
unfolding rows_refusal row_by_row
rows_neither q =
    pick_case Neither (eqb (first_of _) 0) _ _ (sums_neither q)
    (rw (map-tab refusal_of (λ r. made_of wide (at_row q r)) 0 (rows_in q)) (first_neither _ 0 (rows_in q) (λ r. row_neither (at_row q r))))

elements_neither : (ws : List Row) (is : List Elem) → Neither (elements_refusal wide ws is)
unfolding elements_refusal element_refusal fits
elements_neither ws is = first_neither (λ r. element_refusal wide (row_of ws r) (argument_of is r)) 0 (length ws) (λ r. one (row_of ws r) (argument_of is r))
  where
    one : (w : Row) (i : Elem) → Neither (element_refusal wide w i)
    one null_row i = none
    one (list_row es) nul = none
    one (list_row es) (val i) = none

repeat_neither : (ws : List Row) (ns : List Elem) → Neither (repeat_refusal wide ws ns)
unfolding repeat_refusal
repeat_neither ws ns =
    eight_or (ltb wide.outer (total (tab (λ r. times_of (argument_of ns r)) 0 (length ws))) || ltb wide.repeated (total (tab (λ r. repeated_by (row_of ws r) (argument_of ns r)) 0 (length ws))))

-- ---- what calls come to

or_nine : {A : Type 0} (b : Bool) (a : A) → Spared (pick b (made a) (refused 9))
or_nine b a = pick_case Spared b (made a) (refused 9) (spared_made a) (spared_refused 9 (λ e. omega arith, λ e. omega arith))

fitted_spared : (ws : List Row) (l : Room) → Spared (fitted ws l)
unfolding fitted
fitted_spared ws l = or_nine (fits_in (length ws) (length (flat ws)) l) ws

values_spared : (es : List Elem) (l : ValueRoom) → Spared (fitted_values es l)
unfolding fitted_values
values_spared es l = or_nine (fits_values (length es) l) es

outers_spared : (os : List Outer) (l : RepeatRoom) → Spared (fitted_repeat os l)
unfolding fitted_repeat
outers_spared os l = or_nine (fits_repeat os l) os

three_spared : (q : ListCall (List Row) (List Elem)) (l : Room) → Spared (after_three wide q l)
unfolding after_three
three_spared q l = spared_gate _ _ (rows_neither q) (fitted_spared (rows_made wide q) l)

list_spared : (q : ListCall Column Arguments) (l : Room) → Spared (list_outcome wide q l)
unfolding list_outcome list_shown
list_spared q l = let s = on_call rows_of shown_by q in spared_gate _ _ (columns_neither _ _) (spared_gate _ _ (three_or (unequal s)) (three_spared s l))

any_spared : (c : Column) (l : ValueRoom) → Spared (any_value_outcome c l)
unfolding any_value_outcome any_value_shown
any_spared c l = spared_gate _ _ (columns_neither _ _) (values_spared (map any_value_of (rows_of c)) l)

element_spared : (c : Column) (a : Arguments) (l : ValueRoom) → Spared (element_outcome wide c a l)
unfolding element_outcome element_shown
element_spared c a l =
    spared_gate _ _ (columns_neither _ _)
    (spared_gate _ _ (three_or (differs (length (rows_of c)) (shown_by a))) (spared_gate _ _ (elements_neither (rows_of c) (shown_by a)) (values_spared (elements_made (rows_of c) (shown_by a)) l)))

repeat_spared : (c : Column) (a : Arguments) (l : RepeatRoom) → Spared (repeat_outcome wide c a l)
unfolding repeat_outcome repeat_shown
repeat_spared c a l =
    spared_gate _ _ (columns_neither _ _)
    (spared_gate _ _ (three_or (differs (length (rows_of c)) (shown_by a))) (spared_gate _ _ (repeat_neither (rows_of c) (shown_by a)) (outers_spared (repeats_made (rows_of c) (shown_by a)) l)))

carried_spared : (s : Step) (ss : List Step) (ws rs : List Row) (col : ℕ → List Elem) (a b o : Room) → Spared (carried wide s ss ws rs col a b o)
unfolding carried then_on
carried_spared s [] ws rs col a b o = three_spared _ o
carried_spared s (t ∷ ts) ws rs col a b o = on (after_three wide (step_call s ws rs col) a) (three_spared (step_call s ws rs col) a) (λ ws'. carried_spared t ts ws' rs col b a o)
  where
    on : (x : Outcome (List Row)) → Spared x → ((ws' : List Row) → Spared (carried wide t ts ws' rs col b a o)) → Spared (then_on x (λ ws'. carried wide t ts ws' rs col b a o))
    on (refused k) h g = spared_refused k (h.neither k refl)
    on (made ws') h g = g ws'

stepped_spared : (ss : List Step) (ws rs : List Row) (col : ℕ → List Elem) (a b o : Room) → Spared (stepped wide ss ws rs col a b o)
unfolding stepped
stepped_spared [] ws rs col a b o = fitted_spared ws o
stepped_spared (s ∷ ss) ws rs col a b o = carried_spared s ss ws rs col a b o

ten_or : (b : Bool) → Neither (pick b 10 0)
ten_or b = zero_or b 10 (λ h. omega arith, λ h. omega arith)

formed_spared : (p : Recipe) (ws rs : List Row) (es : List Elem) (a b o : Room) → Spared (formed_recipe wide p ws rs es a b o)
unfolding formed_recipe
formed_spared p ws rs es a b o = spared_gate _ _ (three_or (recipe_unequal p.columns ws rs es)) (stepped_spared (steps_of p.numbers) ws rs (column_of es (length rs)) a b o)

recipe_spared : (p : Recipe) (c d : Column) (e : Arguments) (a b o : Room) → Spared (recipe_outcome wide p c d e a b o)
unfolding recipe_outcome
recipe_spared p c d e a b o = spared_gate _ _ (ten_or (malformed p)) (spared_gate _ _ (columns_neither _ _) (formed_spared p (rows_of c) (rows_of d) (shown_by e) a b o))

recipe-shown_spared : (p : Recipe) (ws rs : List Row) (es : List Elem) (a b o : Room) → Spared (recipe_shown wide p ws rs es a b o)
unfolding recipe_shown
recipe-shown_spared p ws rs es a b o = spared_gate _ _ (ten_or (malformed p)) (formed_spared p ws rs es a b o)

window_spared : (p : Recipe) (x y : ℕ) (c d : Column) (e : Arguments) (a b o : Room) → Spared (window_outcome wide p x y c d e a b o)
unfolding window_outcome formed_window
window_spared p x y c d e a b o =
    spared_gate _ _ (ten_or (malformed p))
    (spared_gate _ _ (columns_neither _ _)
    (spared_gate _ _ (three_or (recipe_unequal p.columns (rows_of c) (rows_of d) (shown_by e)))
    (spared_gate _ _ (zero_or (no_window x y (length (rows_of c))) 16 (λ h. omega arith, λ h. omega arith)) (recipe-shown_spared p _ _ _ a b o))))

stationed_spared : (s : ℕ) (x : Outcome (List Row)) → Spared x → Spared (stationed s x)
unfolding stationed
stationed_spared s x h = spared_gate _ _ (zero_or (ltb 15 s) 15 (λ e. omega arith, λ e. omega arith)) h

list-lengths_spared : (q : ListCall Column Arguments) → Spared (list_lengths wide q)
unfolding list_lengths list_lengths_shown
list-lengths_spared q =
    let s = on_call rows_of shown_by q in
    spared_gate _ _ (columns_neither _ _) (spared_gate _ _ (three_or (unequal s)) (spared_gate _ _ (rows_neither s) (spared_made (room_of_rows (rows_made wide s)))))

any-lengths_spared : (c : Column) → Spared (any_value_lengths c)
unfolding any_value_lengths any_value_lengths_shown
any-lengths_spared c = spared_gate _ _ (columns_neither _ _) (spared_made _)

element-lengths_spared : (c : Column) (a : Arguments) → Spared (element_lengths wide c a)
unfolding element_lengths element_lengths_shown
element-lengths_spared c a =
    spared_gate _ _ (columns_neither _ _)
    (spared_gate _ _ (three_or (differs (length (rows_of c)) (shown_by a))) (spared_gate _ _ (elements_neither (rows_of c) (shown_by a)) (spared_made (room_of_values (elements_made (rows_of c) (shown_by a))))))

repeat_lengths_spared : (c : Column) (a : Arguments) → Spared (repeat_lengths wide c a)
unfolding repeat_lengths repeat_lengths_shown
repeat_lengths_spared c a =
    spared_gate _ _ (columns_neither _ _)
    (spared_gate _ _ (three_or (differs (length (rows_of c)) (shown_by a))) (spared_gate _ _ (repeat_neither (rows_of c) (shown_by a)) (spared_made (room_of_outer (repeats_made (rows_of c) (shown_by a))))))

formed-limits_spared : (p : Recipe) (ws rs : List Row) (es : List Elem) → Spared (formed_limits wide p ws rs es)
unfolding formed_limits
formed-limits_spared p ws rs es = spared_gate _ _ (three_or (recipe_unequal p.columns ws rs es)) (spared_made _)

limits_spared : (p : Recipe) (c d : Column) (e : Arguments) → Spared (recipe_limits wide p c d e)
unfolding recipe_limits
limits_spared p c d e = spared_gate _ _ (ten_or (malformed p)) (spared_gate _ _ (columns_neither _ _) (formed-limits_spared p (rows_of c) (rows_of d) (shown_by e)))

import_spared : (v : View) (l : Room) → Spared (import_outcome wide v l)
unfolding import_outcome import_shown view_refusal
import_spared v l =
    spared_gate _ _ (
    pick_case Neither (refusal13ᵛ v) 13 _ (λ e. omega arith, λ e. omega arith)
    (pick_case Neither (refusal2ᵛ v) 2 _ (λ e. omega arith, λ e. omega arith) (pick_case Neither (refusal3ᵛ v) 3 _ (λ e. omega arith, λ e. omega arith) (zero_or (refusal11 v) 11 (λ e. omega arith, λ e. omega arith)))))
    (spared_gate _ _ (eight_or (ltb wide.offset (length (flat (view_rows v))))) (fitted_spared (view_rows v) l))

export_spared : (c : Column) (l : ViewRoom) → Spared (export_outcome c l)
unfolding export_outcome export_shown
export_spared c l = spared_gate _ _ (columns_neither _ _) (or_nine (fits_view (length (rows_of c)) (length (flat (rows_of c))) l) (rows_of c))

graded_spared : (k : ℕ) (ws : List Row) (g : ℕ) (x : Outcome (List Row)) → Spared x → Spared (graded k ws g x)
unfolding graded grade_refusal
graded_spared k ws g x h =
    spared_gate _ _ (pick_case Neither (eqb k 0) 12 _ (λ e. omega arith, λ e. omega arith) (zero_or (ltb g (length ws)) 9 (λ e. omega arith, λ e. omega arith))) h

grade_spared : (k : ℕ) (c : Column) (g : ℕ) → Spared (grade_outcome k c g)
unfolding grade_outcome
grade_spared k c g = graded_spared k (rows_of c) g _ (spared_gate _ _ (columns_neither _ _) (spared_made (rows_of c)))

hashed_spared : (h : Hashed Column) (n : ℕ) (l : Room) → Spared (hashed_outcome wide h n l)
unfolding hashed_outcome hashed_shown
hashed_spared h n l =
    let s = on_hashed rows_of h in
    spared_gate _ _ (columns_neither _ _)
    (spared_gate _ _ (three_or (unequal (plain_of s))) (spared_gate _ _ (zero_or (short_area n s) 14 (λ e. omega arith, λ e. omega arith)) (three_spared (plain_of s) l)))

answered : {A : Type 0} (f : A → List ℕ) (x : Outcome A) (k : ℕ) → Spared x → answer_of f x ≡ refusal k → Neither k
unfolding answer_of
answered f (refused j) k h e = let q : j ≡ k = cc in rw (← q) (h.neither j refl)
answered f (made a) k h e = never cc

pub no_four_or_six : (q : Call Column Arguments View) (k : ℕ) → (end wide q).answer ≡ refusal k → Neither k
unfolding end list_end value_end repeat_end trays_end recipe_end window_end view_end grade_end graded_end hashed_end
no_four_or_six (list q l) k e = answered _ _ k (list_spared q l) e
no_four_or_six (any_value c l) k e = answered _ _ k (any_spared c l) e
no_four_or_six (element c a l) k e = answered _ _ k (element_spared c a l) e
no_four_or_six (list_repeat c a l) k e = answered _ _ k (repeat_spared c a l) e
no_four_or_six (recipe s p c d x a b o t) k e = answered _ _ k (stationed_spared s _ (recipe_spared p c d x a b o)) e
no_four_or_six (measure_list q) k e = answered _ _ k (list-lengths_spared q) e
no_four_or_six (measure_any_value c) k e = answered _ _ k (any-lengths_spared c) e
no_four_or_six (measure_element c a) k e = answered _ _ k (element-lengths_spared c a) e
no_four_or_six (measure_repeat c a) k e = answered _ _ k (repeat_lengths_spared c a) e
no_four_or_six (limit_recipe p c d x) k e = answered _ _ k (limits_spared p c d x) e
no_four_or_six (window p x y c d z a b o) k e = answered _ _ k (window_spared p x y c d z a b o) e
no_four_or_six (import_view v l) k e = answered _ _ k (import_spared v l) e
no_four_or_six (export_view c l) k e = answered _ _ k (export_spared c l) e
no_four_or_six (grade_column j c g) k e = answered _ _ k (grade_spared j c g) e
no_four_or_six (grade_recipe j s p c d x a b o g t) k e = answered _ _ k (graded_spared j (rows_of c) g _ (stationed_spared s _ (recipe_spared p c d x a b o))) e
no_four_or_six (hashed h n l) k e = answered _ _ k (hashed_spared h n l) e
