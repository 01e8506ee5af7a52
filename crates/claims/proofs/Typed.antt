-- Demand 3 over the typed C entries, those of `duthlan`: where the number that one returned is not 100, the entry's own, what it returned and
-- wrote are the numbers of what the call ends in. Calls on well-formed columns that are alike end in one thing (`one_end`), so two such calls
-- of an entry return one number and write the same (`same_list`, `same_value`, `same_repeat`, `same_recipe`). L is the limits of the width:
-- Large.antt has the entries of `duthlan_large`.
use Prim.Native.Nat.{ℕ}
use mathlib.Core.Path.{◌≡◌, refl, sym, ap, ◌∙◌}
use mathlib.Core.Bool.{Bool, true, false}
use mathlib.Core.List.{List, ◌++◌}
use contract.Lifetimes.{Lfts}
use lib.ListN.{length, take}
use lib.Seq.{take_at}
use Rattle.model.specs.Basics.{Lent, given}
use Rattle.model.specs.Column.{Elem, Row, Column, Arguments}
use Rattle.model.specs.View.{View}
use Rattle.model.specs.Form.{Room, Outer}
use Rattle.model.specs.Limits.{Limits, narrow}
use Rattle.model.specs.Rows.{set_op_call, on_lent}
use Rattle.model.specs.Outcome.{Outcome, refused, made, gate, list_outcome, any_value_outcome, element_outcome, repeat_outcome}
use Rattle.model.specs.Recipe.{Recipe, recipe_outcome, stationed}
use Rattle.model.specs.Tally.{Tally, moved}
use Rattle.model.specs.Call.{Call, End, tally_taken, move_in, list, any_value, element, list_repeat, recipe, end, list_end, value_end, repeat_end, trays_end, recipe_end, list_numbers, list_bitmaps, answer_of, written}
use Rattle.model.specs.Contract.{Slice, MutSlice, Clears, repeat_room_of}
use Rattle.model.specs.declared.SetOp.{SetOp}
use Rattle.model.proofs.Stations.{end_moves}
use Rattle.ops.specs.Ops.{call_of}
use Rattle.ops.specs.declared.ListOp.{ListOp}
use Rattle.entry.specs.Entry.{number_of}
use Rattle.entry.specs.Inner.{number_in, counts_in}
use Rattle.entry_codes.specs.Calls.{one_of, one_call, set_of, set_call}
use Rattle.recipe_refusal.specs.Refused.{recipe as recipeOf}
use Rattle.typed.specs.Typed.{served, TypedList, TypedValues, TypedRepeat, ListServed, ValueServed, RepeatServed}
use Rattle.typed.specs.Tallies.{tally_at, with_tally, tally_after, RecipeServed}
use Rattle.typed.proofs.ReadBack.{read_back}
use Rattle.duthlan.proofs.duthlan_typed_list.Reads as OneList
use Rattle.duthlan.proofs.duthlan_typed_lists.Reads as TwoLists
use Rattle.duthlan.proofs.duthlan_typed_any_value.Reads as AnyValue
use Rattle.duthlan.proofs.duthlan_typed_element.Reads as Element
use Rattle.duthlan.proofs.duthlan_typed_list_repeat.Reads as ListRepeat
use Rattle.duthlan.proofs.duthlan_typed_recipe.Reads as Recipes
use Rattle.claims.specs.Slots.{Slices, Pair, LentList, LentValues, list_lent, values_lent, slices_room, pair_room, entry4, exit4, entry2, exit2, entry6, exit6, entry3, exit3}
use Rattle.claims.specs.Numbers.{Holds, numbers_in, bitmap_in, AnswerTyped, ListTyped, ValueTyped, RepeatTyped, tally_over, RecipeTyped}

-- ---- an outcome's numbers are those of its end

list_typed : (x : Outcome (List Row)) {n : ℕ} (o : Slices) (c : MutSlice ℕ)
    → TypedList x n o.offsets.entry.now o.offsets.exit.now o.rows.entry.now o.rows.exit.now o.values.entry.now o.values.exit.now o.elements.entry.now o.elements.exit.now c.entry.now c.exit.now
    → ListTyped (list_end x) n o c
unfolding list_end list_numbers list_bitmaps answer_of written number_of number_in counts_in
list_typed (refused k) o c h = record {
  answer = record { number = h.number; counts = h.counts };
  offsets = h.offsets;
  rows = h.rows;
  values = h.values;
  elements = h.elements;
}
list_typed (made ws) o c h = record {
  answer = record { number = h.number; counts = h.counts };
  offsets = h.offsets;
  rows = h.rows;
  values = h.values;
  elements = h.elements;
}

value_typed : (x : Outcome (List Elem)) {n : ℕ} (o : Pair) (c : MutSlice ℕ)
    → TypedValues x n o.values.entry.now o.values.exit.now o.bits.entry.now o.bits.exit.now c.entry.now c.exit.now → ValueTyped (value_end x) n o c
unfolding value_end answer_of written number_of number_in counts_in
value_typed (refused k) o c h = record { answer = record { number = h.number; counts = h.counts }; values = h.values; rows = h.rows }
value_typed (made es) o c h = record { answer = record { number = h.number; counts = h.counts }; values = h.values; rows = h.rows }

repeat_typed : (x : Outcome (List Outer)) {n : ℕ} (b : Pair) (o : Slices) (c : MutSlice ℕ)
    → TypedRepeat x n b.values.entry.now b.values.exit.now b.bits.entry.now b.bits.exit.now o.offsets.entry.now o.offsets.exit.now o.rows.entry.now o.rows.exit.now o.values.entry.now o.values.exit.now o.elements.entry.now o.elements.exit.now c.entry.now c.exit.now
    → RepeatTyped (repeat_end x) n b o c
unfolding repeat_end answer_of written number_of number_in counts_in
repeat_typed (refused k) b o c h = record {
  answer = record { number = h.number; counts = h.counts };
  outer-offsets = h.offsets;
  outer_rows = h.rows;
  offsets = h.inner-offsets;
  rows = h.inner-rows;
  values = h.values;
  elements = h.elements;
}
repeat_typed (made os) b o c h = record {
  answer = record { number = h.number; counts = h.counts };
  outer-offsets = h.offsets;
  outer_rows = h.rows;
  offsets = h.inner-offsets;
  rows = h.inner-rows;
  values = h.values;
  elements = h.elements;
}

-- ---- a number other than 100 says that the call was served

module _ {A L : Type 0} (f : L → Outcome A) (l : L) {n : ℕ} (s : n ≡ 100 → ⊥) where
  pub long : (b : Bool) → n ≡ number_of (served (given f) b l) → b ≡ false
  unfolding served gate number_of
  long true e = absurd (s e)
  long false e = refl

  pub was_served : (b : Bool) → n ≡ number_of (served (given f) b l) → served (given f) b l ≡ f l
  unfolding served gate
  was_served b e = rw (long b e)

names : {A B : Type 0} (f : A → B) {u : Lent A} {k : A} → u ≡ given k → on_lent f u ≡ given (f k)
unfolding on_lent
names f e = rw e

-- F is what the entry serves by its code
pub list-served : {n : ℕ} (s : n ≡ 100 → ⊥) (b : Bool) (o : Slices) (c : MutSlice ℕ) {F : Lent (Room → Outcome (List Row))} (f : Room → Outcome (List Row)) → F ≡ given f
    → TypedList (served F b (slices_room o)) n o.offsets.entry.now o.offsets.exit.now o.rows.entry.now o.rows.exit.now o.values.entry.now o.values.exit.now o.elements.entry.now o.elements.exit.now c.entry.now c.exit.now
    → ListTyped (list_end (f (slices_room o))) n o c
list-served s b o c f e h =
    let g = rw e at h in
    list_typed (f (slices_room o)) o c (rw (was_served f (slices_room o) s b g.number) at g)

-- ---- what the contracts of the entries come to, at the width of L: c and d are the lists lent, x, y and z the argument columns, o the output,
-- cs the counts, n the number returned, k the operation that the code names

module _ (L : Limits) {n : ℕ} (s : n ≡ 100 → ⊥) (c : LentList) (cs : MutSlice ℕ) where
  pub one_typed : (op : ℕ) (x y z : LentValues) (o : Slices) (k : ListOp)
      → ListServed (one_call L op (list_lent c) (values_lent x) (values_lent y) (values_lent z)) n o.offsets o.rows o.values o.elements cs
      → one_of op ≡ given k → ListTyped (end L (list (call_of k (list_lent c) (values_lent x) (values_lent y) (values_lent z)) (slices_room o))) n o cs
  unfolding end one_call
  one_typed op x y z o k h e = list-served s _ o cs _ (names (λ j. list_outcome L (call_of j (list_lent c) (values_lent x) (values_lent y) (values_lent z))) e) h

  pub two_typed : (op : ℕ) (d : LentList) (o : Slices) (k : SetOp)
      → ListServed (set_call L op (list_lent c) (list_lent d)) n o.offsets o.rows o.values o.elements cs
      → set_of op ≡ given k → ListTyped (end L (list (set_op_call k (list_lent c) (list_lent d)) (slices_room o))) n o cs
  unfolding end set_call
  two_typed op d o k h e = list-served s _ o cs _ (names (λ j. list_outcome L (set_op_call j (list_lent c) (list_lent d))) e) h

  pub any_typed : (o : Pair) → ValueServed (any_value_outcome (list_lent c)) n o.values o.bits cs → ValueTyped (end L (any_value (list_lent c) (pair_room o))) n o cs
  unfolding end
  any_typed o h = value_typed _ o cs (rw (was_served (any_value_outcome (list_lent c)) (pair_room o) s _ h.number) at h)

  pub element_typed : (x : LentValues) (o : Pair) → ValueServed (element_outcome L (list_lent c) (values_lent x)) n o.values o.bits cs
      → ValueTyped (end L (element (list_lent c) (values_lent x) (pair_room o))) n o cs
  unfolding end
  element_typed x o h = value_typed _ o cs (rw (was_served (element_outcome L (list_lent c) (values_lent x)) (pair_room o) s _ h.number) at h)

  -- p is the output's outer lists
  pub repeats_typed : (x : LentValues) (p : Pair) (o : Slices)
      → RepeatServed (repeat_outcome L (list_lent c) (values_lent x)) n p.values p.bits o.offsets o.rows o.values o.elements cs
      → RepeatTyped (end L (list_repeat (list_lent c) (values_lent x) (repeat_room_of p.values p.bits o.offsets o.rows o.values o.elements))) n p o cs
  unfolding end
  repeats_typed x p o h =
      repeat_typed _ p o cs
      (rw (was_served (repeat_outcome L (list_lent c) (values_lent x)) (repeat_room_of p.values p.bits o.offsets o.rows o.values o.elements) s _ h.number) at h)

  -- t is the station, p the recipe, l and m are the trays, u the tally
  pub recipe_typed : (t : ℕ) (p : Recipe) (d : LentList) (x : LentValues) (l m o : Slices) (u : MutSlice ℕ)
      → RecipeServed t (λ r. stationed t (recipe_outcome L p (list_lent c) (list_lent d) (values_lent x) (slices_room l) (slices_room m) r)) n o.offsets o.rows o.values o.elements cs u
      → Clears l.offsets l.rows l.values l.elements → Clears m.offsets m.rows m.values m.elements
      → RecipeTyped (end L (recipe t p (list_lent c) (list_lent d) (values_lent x) (slices_room l) (slices_room m) (slices_room o) (tally_at u.entry.now))) n l m o cs u
  unfolding end recipe_end trays_end list_end tally_over tally_after
  recipe_typed t p d x l m o u h y z =
      let f : Room → Outcome (List Row) = λ r. stationed t (recipe_outcome L p (list_lent c) (list_lent d) (values_lent x) (slices_room l) (slices_room m) r) in
      let a = list-served s _ o cs f refl h.list in
      record {
        answer = record { answer = record { number = a.answer.number; counts = a.answer.counts }; offsets = a.offsets; rows = a.rows; values = a.values; elements = a.elements };
        one = y;
        two = z;
        tally = rw (long f (slices_room o) s _ h.list.number) at h.tally;
      }

-- ---- the entries of `duthlan`

pub one_list : (κs : Lfts 3) (op op' : ℕ) (c : LentList) (x y z : LentValues) (o : Slices) (cs : MutSlice ℕ) (n : ℕ) (k : ListOp)
    → OneList.Post κs (op, entry6 c (entry3 x (entry3 y (entry3 z (entry4 o (cs.entry, tt)))))) n (op', exit6 c (exit3 x (exit3 y (exit3 z (exit4 o (cs.exit, tt))))))
    → (n ≡ 100 → ⊥) → one_of op ≡ given k → ListTyped (end narrow (list (call_of k (list_lent c) (values_lent x) (values_lent y) (values_lent z)) (slices_room o))) n o cs
one_list κs op op' c x y z o cs n k h s e = one_typed narrow s c cs op x y z o k h e

pub two-lists : (κs : Lfts 3) (op op' : ℕ) (c d : LentList) (o : Slices) (cs : MutSlice ℕ) (n : ℕ) (k : SetOp)
    → TwoLists.Post κs (op, entry6 c (entry6 d (entry4 o (cs.entry, tt)))) n (op', exit6 c (exit6 d (exit4 o (cs.exit, tt))))
    → (n ≡ 100 → ⊥) → set_of op ≡ given k → ListTyped (end narrow (list (set_op_call k (list_lent c) (list_lent d)) (slices_room o))) n o cs
two-lists κs op op' c d o cs n k h s e = two_typed narrow s c cs op d o k h e

pub any_value_lem : (κs : Lfts 3) (c : LentList) (o : Pair) (cs : MutSlice ℕ) (n : ℕ)
    → AnyValue.Post κs (entry6 c (entry2 o (cs.entry, tt))) n (exit6 c (exit2 o (cs.exit, tt)))
    → (n ≡ 100 → ⊥) → ValueTyped (end narrow (any_value (list_lent c) (pair_room o))) n o cs
any_value_lem κs c o cs n h s = any_typed narrow s c cs o h

pub elements : (κs : Lfts 3) (c : LentList) (x : LentValues) (o : Pair) (cs : MutSlice ℕ) (n : ℕ)
    → Element.Post κs (entry6 c (entry3 x (entry2 o (cs.entry, tt)))) n (exit6 c (exit3 x (exit2 o (cs.exit, tt))))
    → (n ≡ 100 → ⊥) → ValueTyped (end narrow (element (list_lent c) (values_lent x) (pair_room o))) n o cs
elements κs c x o cs n h s = element_typed narrow s c cs x o h

pub repeats : (κs : Lfts 3) (c : LentList) (x : LentValues) (p : Pair) (o : Slices) (cs : MutSlice ℕ) (n : ℕ)
    → ListRepeat.Post κs (entry6 c (entry3 x (entry2 p (entry4 o (cs.entry, tt))))) n (exit6 c (exit3 x (exit2 p (exit4 o (cs.exit, tt)))))
    → (n ≡ 100 → ⊥) → RepeatTyped (end narrow (list_repeat (list_lent c) (values_lent x) (repeat_room_of p.values p.bits o.offsets o.rows o.values o.elements))) n p o cs
repeats κs c x p o cs n h s = repeats_typed narrow s c cs x p o h

-- ns are the recipe's numbers, k how many argument columns there are
pub recipes : (κs : Lfts 4) (t t' k k' : ℕ) (ns : Slice ℕ) (c d : LentList) (x : LentValues) (l m o : Slices) (cs u : MutSlice ℕ) (n : ℕ)
    → Recipes.Post κs (t, (ns.entry, (k, entry6 c (entry6 d (entry3 x (entry4 l (entry4 m (entry4 o (cs.entry, (u.entry, tt))))))))))
    n (t', (ns.exit, (k', exit6 c (exit6 d (exit3 x (exit4 l (exit4 m (exit4 o (cs.exit, (u.exit, tt))))))))))
    → (n ≡ 100 → ⊥) → RecipeTyped (end narrow (recipe t (recipeOf ns.entry.now k) (list_lent c) (list_lent d) (values_lent x) (slices_room l) (slices_room m) (slices_room o) (tally_at u.entry.now))) n l m o cs u
recipes κs t t' k k' ns c d x l m o cs u n h s = recipe_typed narrow s c cs t (recipeOf ns.entry.now k) d x l m o u h.0 h.1.0 h.1.1

-- ---- two alike calls, which end in one thing x, wrote the same

-- w is what both wrote at the front of their slices
abbrev pub Same : {A : Type 0} → List A → MutSlice A → MutSlice A → Type 0
Same w a b = take (length w) a.exit.now ≡ take (length w) b.exit.now

pub same : {A : Type 0} (w : List A) (a b : MutSlice A) → Holds w a → Holds w b → Same w a b
same w a b h k = rw (h, k) (take_at w _ _ refl ∙ sym (take_at w _ _ refl))

pub record SameAnswer (x : End) (n n' : ℕ) (c c' : MutSlice ℕ) : Type 0 where
  pub number : n ≡ n'
  pub counts : Same (counts_in x.answer) c c'

pub same_answer : (x : End) {n n' : ℕ} (c c' : MutSlice ℕ) → AnswerTyped x n c → AnswerTyped x n' c' → SameAnswer x n n' c c'
same_answer x c c' h k = record { number = h.number ∙ sym k.number; counts = same (counts_in x.answer) c c' h.counts k.counts }

pub record SameList (x : End) (n n' : ℕ) (o o' : Slices) (c c' : MutSlice ℕ) : Type 0 where
  pub answer : SameAnswer x n n' c c'
  pub offsets : Same (numbers_in x 0) o.offsets o'.offsets
  pub rows : Same (bitmap_in x 0) o.rows o'.rows
  pub values : Same (numbers_in x 1) o.values o'.values
  pub elements : Same (bitmap_in x 1) o.elements o'.elements

pub same_list : (x : End) {n n' : ℕ} (o o' : Slices) (c c' : MutSlice ℕ) → ListTyped x n o c → ListTyped x n' o' c' → SameList x n n' o o' c c'
same_list x o o' c c' h k = record {
  answer = same_answer x c c' h.answer k.answer;
  offsets = same (numbers_in x 0) o.offsets o'.offsets h.offsets k.offsets;
  rows = same (bitmap_in x 0) o.rows o'.rows h.rows k.rows;
  values = same (numbers_in x 1) o.values o'.values h.values k.values;
  elements = same (bitmap_in x 1) o.elements o'.elements h.elements k.elements;
}

pub record SameValue (x : End) (n n' : ℕ) (o o' : Pair) (c c' : MutSlice ℕ) : Type 0 where
  pub answer : SameAnswer x n n' c c'
  pub values : Same (numbers_in x 0) o.values o'.values
  pub rows : Same (bitmap_in x 0) o.bits o'.bits

pub same_value : (x : End) {n n' : ℕ} (o o' : Pair) (c c' : MutSlice ℕ) → ValueTyped x n o c → ValueTyped x n' o' c' → SameValue x n n' o o' c c'
same_value x o o' c c' h k = record {
  answer = same_answer x c c' h.answer k.answer;
  values = same (numbers_in x 0) o.values o'.values h.values k.values;
  rows = same (bitmap_in x 0) o.bits o'.bits h.rows k.rows;
}

pub record SameRepeat (x : End) (n n' : ℕ) (p p' : Pair) (o o' : Slices) (c c' : MutSlice ℕ) : Type 0 where
  pub answer : SameAnswer x n n' c c'
  pub outer-offsets : Same (numbers_in x 0) p.values p'.values
  pub outer_rows : Same (bitmap_in x 0) p.bits p'.bits
  pub offsets : Same (numbers_in x 1) o.offsets o'.offsets
  pub rows : Same (bitmap_in x 1) o.rows o'.rows
  pub values : Same (numbers_in x 2) o.values o'.values
  pub elements : Same (bitmap_in x 2) o.elements o'.elements

pub same_repeat : (x : End) {n n' : ℕ} (p p' : Pair) (o o' : Slices) (c c' : MutSlice ℕ) → RepeatTyped x n p o c → RepeatTyped x n' p' o' c' → SameRepeat x n n' p p' o o' c c'
same_repeat x p p' o o' c c' h k = record {
  answer = same_answer x c c' h.answer k.answer;
  outer-offsets = same (numbers_in x 0) p.values p'.values h.outer-offsets k.outer-offsets;
  outer_rows = same (bitmap_in x 0) p.bits p'.bits h.outer_rows k.outer_rows;
  offsets = same (numbers_in x 1) o.offsets o'.offsets h.offsets k.offsets;
  rows = same (bitmap_in x 1) o.rows o'.rows h.rows k.rows;
  values = same (numbers_in x 2) o.values o'.values h.values k.values;
  elements = same (bitmap_in x 2) o.elements o'.elements h.elements k.elements;
}

-- and of a recipe: beside its list answer, the tally v after it
pub same_recipe : (x : End) (v : Tally) {n n' : ℕ} {l l' m m' o o' : Slices} {c c' : MutSlice ℕ} (t t' : MutSlice ℕ) → x.tally ≡ given v → RecipeTyped x n l m o c t → RecipeTyped x n' l' m' o' c' t'
    → Same (v.finished ++ v.refused) t t'
unfolding tally_over
same_recipe x v t t' e h k = same (v.finished ++ v.refused) t t' (rw e at h.tally) (rw e at k.tally)

-- the tally's slice, after a call that took the tally in it, holds the tally that the call gives
pub recipes_gave : (L : Limits) (q : Call Column Arguments View) {n : ℕ} {l m o : Slices} {cs : MutSlice ℕ} (t : MutSlice ℕ) → tally_taken q ≡ given (tally_at t.entry.now)
    → RecipeTyped (end L q) n l m o cs t → (end L q).tally ≡ given (tally_at t.exit.now)
unfolding tally_over
recipes_gave L q t h r =
    let g = end_moves L q (tally_at t.entry.now) h in
    let e : t.exit.now ≡ with_tally (moved (move_in L q) (tally_at t.entry.now)) t.entry.now = r.tally ∙ ap (λ (x : Lent Tally). tally_over x t.entry.now) g in
    g ∙ ap given (sym (ap tally_at e ∙ read_back (move_in L q) t.entry.now))
