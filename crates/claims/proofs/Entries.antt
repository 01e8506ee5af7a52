-- Demand 3 over the C entries over bytes. Of each entry of `duthlan_bytes`: where the number that it returned is below 100, and so none of the
-- entry's own, what it returned and wrote are the bytes of what the call ends in. Calls on well-formed columns that are alike end in one
-- thing, so two such calls of an entry return one number (`one_number`), and both write the bytes of one end (`same_bytes`, `same_written`).
use Prim.Native.Nat.{ℕ, zero, suc, ◌≤◌, ◌<◌}
use mathlib.Core.Path.{◌≡◌, refl, sym, ap, ◌∙◌}
use mathlib.Core.Bool.{Bool, true, false, ◌||◌}
use mathlib.Core.List.{List, ◌++◌, flat_map}
use native.Mathlib.Omega.{arith}
use contract.Lifetimes.{Lfts}
use lib.Dec.{ltb}
use lib.ListN.{length, take}
use lib.Seq.{take_at}
use Rattle.model.specs.Basics.{pick, any, Lent, given, All}
use Rattle.model.specs.Column.{Elem, Row, Column, Arguments}
use Rattle.model.specs.View.{View}
use Rattle.model.specs.Form.{Room, ValueRoom, RepeatRoom, Outer}
use Rattle.model.specs.Limits.{Limits, narrow}
use Rattle.model.specs.Rows.{unary, set_op_call, on_lent}
use Rattle.model.specs.Outcome.{Outcome, refused, made, list_outcome, any_value_outcome, element_outcome, repeat_outcome}
use Rattle.model.specs.Recipe.{recipe_outcome, stationed}
use Rattle.model.specs.Tally.{Tally, moved}
use Rattle.model.specs.Call.{Call, End, Formed, Alike, shown, end_shown, list, any_value, element, list_repeat, recipe, end, list_end, value_end, repeat_end, trays_end, recipe_end, list_numbers, list_bitmaps, answer_of, written, tally_taken, move_in}
use Rattle.model.specs.Contract.{Slice, MutSlice}
use Rattle.model.specs.declared.Unary.{Unary}
use Rattle.model.specs.declared.SetOp.{SetOp}
use Rattle.model.proofs.Agreement.{agreement}
use Rattle.model.proofs.OutcomeLaws.{gate_open, gate_shut}
use Rattle.model.proofs.Stations.{end_moves}
use Rattle.ops.specs.Ops.{call_of}
use Rattle.ops.specs.declared.ListOp.{ListOp}
use Rattle.wire.specs.Bytes.{nats, bytes_of, bytes_of_counts}
use Rattle.entry.specs.Entry.{Numbers, ragged, outsize, size_refusal, entered, number_of, ListReturned, ValueReturned}
use Rattle.entry.specs.Inner.{number_in, counts_in}
use Rattle.entry_codes.specs.Calls.{unary_of, unary_call, set_of, set_call, with_of, with_call}
use Rattle.entry_repeat.specs.Repeat.{RepeatReturned}
use Rattle.entry_recipe.specs.Recipe.{recipe_size_refusal, tally_after}
use Rattle.tally_bytes.specs.Bytes.{tally_in, with_tally}
use Rattle.tally_bytes.proofs.ReadBack.{read_back}
use Rattle.recipe_refusal.specs.Refused.{recipe as recipeOf}
use Rattle.duthlan_bytes.proofs.duthlan_bytes_list.Reads as OneList
use Rattle.duthlan_bytes.proofs.duthlan_bytes_list_with.Reads as ListWith
use Rattle.duthlan_bytes.proofs.duthlan_bytes_lists.Reads as TwoLists
use Rattle.duthlan_bytes.proofs.duthlan_bytes_any_value.Reads as AnyValue
use Rattle.duthlan_bytes.proofs.duthlan_bytes_element.Reads as Element
use Rattle.duthlan_bytes.proofs.duthlan_bytes_list_repeat.Reads as ListRepeat
use Rattle.duthlan_bytes.proofs.duthlan_bytes_recipe.Reads as Recipe
use Rattle.claims.specs.Bytes.{ByteSlices, BytePair, ListBytesLent, ValueBytesLent, list_in, arguments_in, room_in, value_room_in, repeat_room_in, enter4, leave4, enter2, leave2, enter6, leave6, enter3, leave3, HoldsOver, offset_bytes, value_bytes, bitmap_bytes, AnswerBytes, ListBytes, ValueBytes, RepeatBytes, RecipeBytes, over_tally}

-- calls that are alike, on well-formed columns, end in one thing, at whichever width
pub one_end : (L : Limits) (q q' : Call Column Arguments View) → Formed q → Formed q' → Alike q q' → end L q ≡ end L q'
one_end L q q' f f' a = (agreement L q q' f f' a).shares

-- what a call of an entry says of its end (ListBytes, ValueBytes, RepeatBytes or RecipeBytes below), it says of an alike call's
pub one-end-written : (L : Limits) (P : End → Type 0) {q q' : Call Column Arguments View} → Formed q → Formed q' → Alike q q' → P (end L q') → P (end L q)
one-end-written L P {q} {q'} f f' a h = rw (one_end L q q' f f' a) h

-- "two such calls that are alike return one number and write the same bytes": what the two say of their ends, P and P', they
-- say of one end, that which the definitions give from what is shown, the same of both (`same_written` below says what that makes of the bytes)
pub same_bytes : (P P' : End → Type 0) {q q' : Call Column Arguments View} → Formed q → Formed q' → Alike q q' → P (end narrow q) → P' (end narrow q') → P (end_shown narrow (shown q)) × P' (end_shown narrow (shown q))
same_bytes P P' {q} {q'} f f' a h h' =
    let g = agreement narrow q q' f f' a in
    (rw (← g.exact) h, rw (← g.exact, g.shares) h')

-- w is what both wrote at the front of their slices a and b
abbrev SameFront : List ℕ → MutSlice ℕ → MutSlice ℕ → Type 0
SameFront w a b = take (length w) a.exit.now ≡ take (length w) b.exit.now

same_front : (w : List ℕ) (a b : MutSlice ℕ) → HoldsOver w a → HoldsOver w b → SameFront w a b
same_front w a b h k = rw (h, k) (take_at w _ _ refl ∙ sym (take_at w _ _ refl))

-- of two alike calls with a list answer: one number, the same counts, and the same bytes in each of the four outputs; x is their end
pub record SameWritten (x : End) (n n' : ℕ) (o o' : ByteSlices) (c c' : MutSlice ℕ) : Type 0 where
  pub number : n ≡ n'
  pub counts : SameFront (bytes_of_counts (counts_in x.answer)) c c'
  pub offsets : SameFront (offset_bytes x 0) o.offsets o'.offsets
  pub rows : SameFront (bitmap_bytes x 0) o.rows o'.rows
  pub values : SameFront (value_bytes x 1) o.values o'.values
  pub elements : SameFront (bitmap_bytes x 1) o.elements o'.elements

pub same_written : (x : End) {n n' : ℕ} (o o' : ByteSlices) (c c' : MutSlice ℕ) → ListBytes x n o c → ListBytes x n' o' c' → SameWritten x n n' o o' c c'
same_written x o o' c c' h k = record {
  number = h.answer.number ∙ sym k.answer.number;
  counts = same_front (bytes_of_counts (counts_in x.answer)) c c' h.answer.counts k.answer.counts;
  offsets = same_front (offset_bytes x 0) o.offsets o'.offsets h.offsets k.offsets;
  rows = same_front (bitmap_bytes x 0) o.rows o'.rows h.rows k.rows;
  values = same_front (value_bytes x 1) o.values o'.values h.values k.values;
  elements = same_front (bitmap_bytes x 1) o.elements o'.elements h.elements k.elements;
}

-- the same of a value answer, and of list-repeat's
pub record SameValues (x : End) (n n' : ℕ) (o o' : BytePair) (c c' : MutSlice ℕ) : Type 0 where
  pub number : n ≡ n'
  pub counts : SameFront (bytes_of_counts (counts_in x.answer)) c c'
  pub values : SameFront (value_bytes x 0) o.numbers o'.numbers
  pub rows : SameFront (bitmap_bytes x 0) o.bits o'.bits

pub same_values : (x : End) {n n' : ℕ} (o o' : BytePair) (c c' : MutSlice ℕ) → ValueBytes x n o c → ValueBytes x n' o' c' → SameValues x n n' o o' c c'
same_values x o o' c c' h k = record {
  number = h.answer.number ∙ sym k.answer.number;
  counts = same_front (bytes_of_counts (counts_in x.answer)) c c' h.answer.counts k.answer.counts;
  values = same_front (value_bytes x 0) o.numbers o'.numbers h.values k.values;
  rows = same_front (bitmap_bytes x 0) o.bits o'.bits h.rows k.rows;
}

pub record SameRepeats (x : End) (n n' : ℕ) (p p' : BytePair) (o o' : ByteSlices) (c c' : MutSlice ℕ) : Type 0 where
  pub number : n ≡ n'
  pub counts : SameFront (bytes_of_counts (counts_in x.answer)) c c'
  pub outer-offsets : SameFront (offset_bytes x 0) p.numbers p'.numbers
  pub outer_rows : SameFront (bitmap_bytes x 0) p.bits p'.bits
  pub offsets : SameFront (offset_bytes x 1) o.offsets o'.offsets
  pub rows : SameFront (bitmap_bytes x 1) o.rows o'.rows
  pub values : SameFront (value_bytes x 2) o.values o'.values
  pub elements : SameFront (bitmap_bytes x 2) o.elements o'.elements

pub same_repeats : (x : End) {n n' : ℕ} (p p' : BytePair) (o o' : ByteSlices) (c c' : MutSlice ℕ) → RepeatBytes x n p o c → RepeatBytes x n' p' o' c' → SameRepeats x n n' p p' o o' c c'
same_repeats x p p' o o' c c' h k = record {
  number = h.answer.number ∙ sym k.answer.number;
  counts = same_front (bytes_of_counts (counts_in x.answer)) c c' h.answer.counts k.answer.counts;
  outer-offsets = same_front (offset_bytes x 0) p.numbers p'.numbers h.outer-offsets k.outer-offsets;
  outer_rows = same_front (bitmap_bytes x 0) p.bits p'.bits h.outer_rows k.outer_rows;
  offsets = same_front (offset_bytes x 1) o.offsets o'.offsets h.offsets k.offsets;
  rows = same_front (bitmap_bytes x 1) o.rows o'.rows h.rows k.rows;
  values = same_front (value_bytes x 2) o.values o'.values h.values k.values;
  elements = same_front (bitmap_bytes x 2) o.elements o'.elements h.elements k.elements;
}

-- and of a recipe: its list answer, and the bytes of the tally t after it
pub same_tally : (x : End) (u : Tally) {n n' : ℕ} {l l' m m' o o' : ByteSlices} {c c' : MutSlice ℕ} (t t' : MutSlice ℕ) → x.tally ≡ given u → RecipeBytes x n l m o c t → RecipeBytes x n' l' m' o' c' t'
    → SameFront (bytes_of_counts u.finished ++ bytes_of_counts u.refused) t t'
unfolding over_tally
same_tally x u t t' e h k = same_front (bytes_of_counts u.finished ++ bytes_of_counts u.refused) t t' (rw e at h.tally) (rw e at k.tally)

pub one_number : {q q' : Call Column Arguments View} {n n' : ℕ} {c c' : MutSlice ℕ} → Formed q → Formed q' → Alike q q' → AnswerBytes (end narrow q) n c → AnswerBytes (end narrow q') n' c' → n ≡ n'
one_number {q} {q'} f f' a h h' = h.number ∙ ap (λ (x : End). number_in x.answer) (one_end narrow q q' f f' a) ∙ sym h'.number

-- ---- an outcome's bytes are those of its end

list-bytes : (x : Outcome (List Row)) {n : ℕ} (o : ByteSlices) (c : MutSlice ℕ) → ListReturned (λ l. x) n o.offsets o.rows o.values o.elements c → ListBytes (list_end x) n o c
unfolding list_end list_numbers list_bitmaps answer_of written number_of number_in counts_in bytes_of bytes_of_counts flat_map
list-bytes (refused k) o c h = record {
  answer = record { number = h.number; counts = h.counts };
  offsets = h.offsets;
  rows = h.rows;
  values = h.values;
  elements = h.elements;
}
list-bytes (made ws) o c h = record {
  answer = record { number = h.number; counts = h.counts };
  offsets = h.offsets;
  rows = h.rows;
  values = h.values;
  elements = h.elements;
}

value_bytes_lem : (x : Outcome (List Elem)) {n : ℕ} (o : BytePair) (c : MutSlice ℕ) → ValueReturned (λ l. x) n o.numbers o.bits c → ValueBytes (value_end x) n o c
unfolding value_end answer_of written number_of number_in counts_in bytes_of bytes_of_counts flat_map
value_bytes_lem (refused k) o c h = record { answer = record { number = h.number; counts = h.counts }; values = h.values; rows = h.rows }
value_bytes_lem (made es) o c h = record { answer = record { number = h.number; counts = h.counts }; values = h.values; rows = h.rows }

repeat_bytes : (x : Outcome (List Outer)) {n : ℕ} (b : BytePair) (o : ByteSlices) (c : MutSlice ℕ)
    → RepeatReturned (λ l. x) n b.numbers b.bits o.offsets o.rows o.values o.elements c → RepeatBytes (repeat_end x) n b o c
unfolding repeat_end answer_of written number_of number_in counts_in bytes_of bytes_of_counts flat_map
repeat_bytes (refused k) b o c h = record {
  answer = record { number = h.number; counts = h.counts };
  outer-offsets = h.offsets;
  outer_rows = h.rows;
  offsets = h.inner-offsets;
  rows = h.inner-rows;
  values = h.values;
  elements = h.elements;
}
repeat_bytes (made os) b o c h = record {
  answer = record { number = h.number; counts = h.counts };
  outer-offsets = h.offsets;
  outer_rows = h.rows;
  offsets = h.inner-offsets;
  rows = h.inner-rows;
  values = h.values;
  elements = h.elements;
}

-- ---- a number below 100 says that the sizes were taken

-- a number from 100 on, or 0
abbrev Far : ℕ → Type 0
Far k = (k ≡ 0 → ⊥) → 100 ≤ k

far_or : (t : Bool) (k j : ℕ) → 100 ≤ k → Far j → Far (pick t k j)
far_or true k j h f z = h
far_or false k j h f z = f z

size_far : (ss : List Numbers) (counts need : ℕ) → Far (size_refusal ss counts need)
unfolding size_refusal
size_far ss counts need = far_or (any ragged ss || ltb counts need) 100 _ (omega arith) (far_or (any outsize ss) 101 0 (omega arith) (λ z. absurd (z refl)))

recipe_far : (ss : List Numbers) (counts tally : ℕ) → Far (recipe_size_refusal ss counts tally)
unfolding recipe_size_refusal
recipe_far ss counts tally = far_or (ltb tally 256) 100 _ (omega arith) (size_far ss counts 32)

below : {A L : Type 0} (f : L → Outcome A) (l : L) (k n : ℕ) → Far k → n ≡ number_of (entered (given f) k l) → n < 100 → k ≡ 0
unfolding entered number_of
below f l zero n far e h = refl
below f l (suc k) n far e h =
    let s : suc k ≡ 0 → ⊥ = λ y. omega (arith, y) in
    let q : n ≡ suc k = e ∙ ap number_of (gate_shut (suc k) (f l) s) in
    let z : ⊥ = omega (arith, far s, q) in
    absurd z

taken : {A L : Type 0} (f : L → Outcome A) (l : L) (k n : ℕ) → Far k → n ≡ number_of (entered (given f) k l) → n < 100 → entered (given f) k l ≡ f l
unfolding entered
taken f l k n far e h = gate_open k (f l) (below f l k n far e h)

module _ {n : ℕ} (b : n < 100) (k : ℕ) (far : Far k) where
  list-taken : (o : ByteSlices) (c : MutSlice ℕ) {F : Lent (Room → Outcome (List Row))} (f : Room → Outcome (List Row)) → F ≡ given f
      → ListReturned (entered F k) n o.offsets o.rows o.values o.elements c → ListBytes (list_end (f (room_in o))) n o c
  list-taken o c f e h =
      let g = rw e at h in
      list-bytes (f (room_in o)) o c (rw (taken f (room_in o) k n far g.number b) at g)

  value_taken : (o : BytePair) (c : MutSlice ℕ) (f : ValueRoom → Outcome (List Elem)) → ValueReturned (entered (given f) k) n o.numbers o.bits c → ValueBytes (value_end (f (value_room_in o))) n o c
  value_taken o c f h = value_bytes_lem (f (value_room_in o)) o c (rw (taken f (value_room_in o) k n far h.number b) at h)

  repeat_taken : (p : BytePair) (o : ByteSlices) (c : MutSlice ℕ) (f : RepeatRoom → Outcome (List Outer))
      → RepeatReturned (entered (given f) k) n p.numbers p.bits o.offsets o.rows o.values o.elements c → RepeatBytes (repeat_end (f (repeat_room_in p o))) n p o c
  repeat_taken p o c f h = repeat_bytes (f (repeat_room_in p o)) p o c (rw (taken f (repeat_room_in p o) k n far h.number b) at h)

names : {A B : Type 0} (f : A → B) {u : Lent A} {k : A} → u ≡ given k → on_lent f u ≡ given (f k)
unfolding on_lent
names f e = rw e

-- ---- the entries: c and d are the lists lent, x, y and z the argument columns, o the output, cs the counts, n the number returned

-- k is the operation that the code names
pub one_list : (κs : Lfts 9) (op op' : ℕ) (c : ListBytesLent) (o : ByteSlices) (cs : MutSlice ℕ) (n : ℕ) (k : Unary)
    → OneList.Post κs (op, enter6 c (enter4 o (cs.entry, tt))) n (op', leave6 c (leave4 o (cs.exit, tt)))
    → n < 100 → unary_of op ≡ given k → ListBytes (end narrow (list (unary k (list_in c)) (room_in o))) n o cs
unfolding end unary_call
one_list κs op op' c o cs n k h b e = list-taken b _ (size_far _ _ _) o cs _ (names (λ j. list_outcome narrow (unary j (list_in c))) e) h

pub list_with : (κs : Lfts 15) (op op' : ℕ) (c : ListBytesLent) (x y z : ValueBytesLent) (o : ByteSlices) (cs : MutSlice ℕ) (n : ℕ) (k : ListOp)
    → ListWith.Post κs (op, enter6 c (enter3 x (enter3 y (enter3 z (enter4 o (cs.entry, tt)))))) n (op', leave6 c (leave3 x (leave3 y (leave3 z (leave4 o (cs.exit, tt))))))
    → n < 100 → with_of op ≡ given k → ListBytes (end narrow (list (call_of k (list_in c) (arguments_in x) (arguments_in y) (arguments_in z)) (room_in o))) n o cs
unfolding end with_call
list_with κs op op' c x y z o cs n k h b e = list-taken b _ (size_far _ _ _) o cs _ (names (λ j. list_outcome narrow (call_of j (list_in c) (arguments_in x) (arguments_in y) (arguments_in z))) e) h

pub two-lists : (κs : Lfts 13) (op op' : ℕ) (c d : ListBytesLent) (o : ByteSlices) (cs : MutSlice ℕ) (n : ℕ) (k : SetOp)
    → TwoLists.Post κs (op, enter6 c (enter6 d (enter4 o (cs.entry, tt)))) n (op', leave6 c (leave6 d (leave4 o (cs.exit, tt))))
    → n < 100 → set_of op ≡ given k → ListBytes (end narrow (list (set_op_call k (list_in c) (list_in d)) (room_in o))) n o cs
unfolding end set_call
two-lists κs op op' c d o cs n k h b e = list-taken b _ (size_far _ _ _) o cs _ (names (λ j. list_outcome narrow (set_op_call j (list_in c) (list_in d))) e) h

pub any_value_lem : (κs : Lfts 7) (c : ListBytesLent) (o : BytePair) (cs : MutSlice ℕ) (n : ℕ)
    → AnyValue.Post κs (enter6 c (enter2 o (cs.entry, tt))) n (leave6 c (leave2 o (cs.exit, tt)))
    → n < 100 → ValueBytes (end narrow (any_value (list_in c) (value_room_in o))) n o cs
unfolding end
any_value_lem κs c o cs n h b = value_taken b _ (size_far _ _ _) o cs (any_value_outcome (list_in c)) h

pub elements : (κs : Lfts 9) (c : ListBytesLent) (x : ValueBytesLent) (o : BytePair) (cs : MutSlice ℕ) (n : ℕ)
    → Element.Post κs (enter6 c (enter3 x (enter2 o (cs.entry, tt)))) n (leave6 c (leave3 x (leave2 o (cs.exit, tt))))
    → n < 100 → ValueBytes (end narrow (element (list_in c) (arguments_in x) (value_room_in o))) n o cs
unfolding end
elements κs c x o cs n h b = value_taken b _ (size_far _ _ _) o cs (element_outcome narrow (list_in c) (arguments_in x)) h

-- p is the output's outer lists
pub repeats : (κs : Lfts 13) (c : ListBytesLent) (x : ValueBytesLent) (p : BytePair) (o : ByteSlices) (cs : MutSlice ℕ) (n : ℕ)
    → ListRepeat.Post κs (enter6 c (enter3 x (enter2 p (enter4 o (cs.entry, tt))))) n (leave6 c (leave3 x (leave2 p (leave4 o (cs.exit, tt)))))
    → n < 100 → RepeatBytes (end narrow (list_repeat (list_in c) (arguments_in x) (repeat_room_in p o))) n p o cs
unfolding end
repeats κs c x p o cs n h b = repeat_taken b _ (size_far _ _ _) p o cs (repeat_outcome narrow (list_in c) (arguments_in x)) h

-- s is the station, ns are the recipe's numbers, l and m the trays, t the tally
pub recipes : (κs : Lfts 25) (s s' k k' : ℕ) (ns : Slice ℕ) (c d : ListBytesLent) (x : ValueBytesLent) (l m o : ByteSlices) (cs t : MutSlice ℕ) (n : ℕ)
    → Recipe.Post κs (s, (k, (ns.entry, enter6 c (enter6 d (enter3 x (enter4 l (enter4 m (enter4 o (cs.entry, (t.entry, tt))))))))))
    n (s', (k', (ns.exit, leave6 c (leave6 d (leave3 x (leave4 l (leave4 m (leave4 o (cs.exit, (t.exit, tt))))))))))
    → n < 100 → RecipeBytes (end narrow (recipe s (recipeOf (nats 4 ns.entry.now) k) (list_in c) (list_in d) (arguments_in x) (room_in l) (room_in m) (room_in o) (tally_in t.entry.now))) n l m o cs t
unfolding end recipe_end trays_end list_end over_tally tally_after
recipes κs s s' k k' ns c d x l m o cs t n h b =
    let f : Room → Outcome (List Row) = λ r. stationed s (recipe_outcome narrow (recipeOf (nats 4 ns.entry.now) k) (list_in c) (list_in d) (arguments_in x) (room_in l) (room_in m) r) in
    let a = list-taken b _ (recipe_far _ _ _) o cs f refl h.0 in
    record {
      answer = record { answer = record { number = a.answer.number; counts = a.answer.counts }; offsets = a.offsets; rows = a.rows; values = a.values; elements = a.elements };
      one = record { offsets = h.1.0; rows = h.1.1; values = h.1.2; elements = h.1.3 };
      two = record { offsets = h.2.0; rows = h.2.1; values = h.2.2; elements = h.2.3 };
      tally = rw (below f (room_in o) _ n (recipe_far _ _ _) h.0.number b) at h.3;
    }

-- the tally's bytes, after a call that took the tally in them, hold the tally that the call gives
pub recipes_gave : (q : Call Column Arguments View) {n : ℕ} {l m o : ByteSlices} {cs : MutSlice ℕ} (t : MutSlice ℕ) → All (λ (b : ℕ). b < 256) t.entry.now → tally_taken q ≡ given (tally_in t.entry.now)
    → RecipeBytes (end narrow q) n l m o cs t → (end narrow q).tally ≡ given (tally_in t.exit.now)
unfolding over_tally
recipes_gave q t a h r =
    let g = end_moves narrow q (tally_in t.entry.now) h in
    let e : t.exit.now ≡ with_tally (moved (move_in narrow q) (tally_in t.entry.now)) t.entry.now = r.tally ∙ ap (λ (x : Lent Tally). over_tally x t.entry.now) g in
    g ∙ ap given (sym (ap tally_in e ∙ read_back (move_in narrow q) t.entry.now a))
