-- How much to lend, over the code: what the contract of each `.._lengths` function of `lists`, and of `recipe_limits`, says of
-- a call makes the call a run of demand 3's claim (Runs.antt); and what a typed C entry returns and writes, where its number is not 100, are the
-- numbers of what such a call ends in. That the lengths are those that the run needs is `nine_exactly`, that a recipe's limits rule out 9
-- is `rules_out_nine`.
use Prim.Native.Nat.{ℕ}
use mathlib.Core.Path.{◌≡◌, refl, sym, ap, ◌∙◌}
use mathlib.Core.Bool.{Bool, true, false}
use mathlib.Core.List.{List}
use contract.Lifetimes.{Lfts}
use Rattle.model.specs.Basics.{Lent, given}
use Rattle.model.specs.Column.{Column, Arguments}
use Rattle.model.specs.View.{View}
use Rattle.model.specs.Form.{over}
use Rattle.model.specs.Lengths.{list_lengths, any_value_lengths, element_lengths, repeat_lengths, recipe_limits}
use Rattle.model.specs.Limits.{Limits, narrow}
use Rattle.model.specs.Rows.{unary, set_op_call, slice, resize, replace, remove, on_lent}
use Rattle.model.specs.Outcome.{Outcome, gate}
use Rattle.model.specs.Recipe.{Recipe}
use Rattle.model.specs.Call.{Call, end, answer_of, measure_end, measure_list, measure_any_value, measure_element, measure_repeat, limit_recipe, room_counts, value_room_counts, repeat_room_counts, limit_counts}
use Rattle.model.specs.Contract.{Slice, MutSlice, told_lengths, told_value_lengths, told_repeat_lengths, told_limits}
use Rattle.model.specs.Run.{Run, measure_list_run, measure_any_value_run, measure_element_run, measure_repeat_run, limit_recipe_run}
use Rattle.model.proofs.AskedLaws.{list_measures, value_measures, repeat_measures, recipe_limited}
use Rattle.model.specs.Answers.{ListLengths, ValueLengths, RepeatLengths, RecipeLimits}
use Rattle.model.specs.declared.SetOp.{SetOp}
use Rattle.model.specs.declared.Unary.TheVariants as U
use Rattle.ops.specs.Ops.{call_of}
use Rattle.ops.specs.declared.ListOp.{ListOp}
use Rattle.entry.specs.Entry.{number_of}
use Rattle.entry.proofs.AnswerLaws.{number_of_lem, counts_of}
use Rattle.entry_codes.specs.Calls.{one_of, one_lengths, set_of, set_lengths}
use Rattle.recipe_refusal.specs.Refused.{recipe, recipe_in}
use Rattle.recipe_refusal.specs.declared.Inputs.{Inputs}
use Rattle.recipe_refusal.specs.declared.Recipe as R
use Rattle.column.specs.Columns.{column_in, lent_in, values_in}
use Rattle.column.specs.declared.elements.ValueColumn.{ValueColumn}
use Rattle.column.specs.declared.lists.ListColumn.{ListColumn}
use Rattle.std.specs.Prelude.{Option}
use Rattle.claims.specs.Columns.{Width, Offsets, limits, numbers, at, Passed}
use Rattle.typed.specs.Typed.{measured, TypedLengths, LengthsServed}
use Rattle.lists.proofs.reverse.general_array_reverse_lengths.Reads as Reverse
use Rattle.lists.proofs.set_ops.general_array_distinct_lengths.Reads as Distinct
use Rattle.lists.proofs.set_ops.generic_set_lists_lengths.Reads as Sets
use Rattle.lists.proofs.extract.general_pop_front_list_lengths.Reads as PopFront
use Rattle.lists.proofs.extract.general_pop_back_list_lengths.Reads as PopBack
use Rattle.lists.proofs.extract.general_array_slice_lengths.Reads as Sliced
use Rattle.lists.proofs.extract.general_array_any_value_lengths.Reads as AnyValue
use Rattle.lists.proofs.extract.general_array_element_lengths.Reads as Element
use Rattle.lists.proofs.resize.general_list_resize_lengths.Reads as Resize
use Rattle.lists.proofs.replace.general_replace_lengths.Reads as Replace
use Rattle.lists.proofs.remove.general_remove_lengths.Reads as Remove
use Rattle.lists.proofs.repeat.general_list_repeat_lengths.Reads as Repeat
use Rattle.recipe_limits.proofs.recipe_limits.Reads as Limited
use Rattle.duthlan.proofs.lengths.duthlan_typed_list_lengths.Reads as TypedOne
use Rattle.duthlan.proofs.lengths.duthlan_typed_lists_lengths.Reads as TypedTwo
use Rattle.duthlan.proofs.lengths.duthlan_typed_any_value_lengths.Reads as TypedAnyValue
use Rattle.duthlan.proofs.lengths.duthlan_typed_element_lengths.Reads as TypedElement
use Rattle.duthlan.proofs.lengths.duthlan_typed_list_repeat_lengths.Reads as TypedRepeat
use Rattle.duthlan.proofs.lengths.duthlan_typed_recipe_limits.Reads as TypedLimits
use Rattle.claims.specs.Slots.{LentList, LentValues, list_lent, values_lent, entry6, exit6, entry3, exit3}
use Rattle.claims.specs.Numbers.{AnswerTyped}

-- ---- the functions of `lists`, and `recipe_limits`, at any width W: c and d are the lists, x, y and z the argument columns, a the answer

abbrev pub ListAsked : Limits → Call Column Arguments View → ListLengths → Type 0
ListAsked L q a = Run L q (measure_end (told_lengths a))

abbrev pub ValueAsked : Limits → Call Column Arguments View → ValueLengths → Type 0
ValueAsked L q a = Run L q (measure_end (told_value_lengths a))

abbrev pub RepeatAsked : Limits → Call Column Arguments View → RepeatLengths → Type 0
RepeatAsked L q a = Run L q (measure_end (told_repeat_lengths a))

abbrev pub LimitsAsked : Limits → Call Column Arguments View → RecipeLimits → Type 0
LimitsAsked L q a = Run L q (measure_end (told_limits a))

pub reverse : (W : Width) (κs : Lfts 2) (c : Passed (ListColumn (Offsets W))) (a : ListLengths)
    → at W Reverse.Post κs (c.entry, tt) a (c.exit, tt)
    → ListAsked (limits W) (measure_list (unary U.Reverse (column_in (numbers W) c.entry))) a
reverse W κs c a h = measure_list_run (list_measures h)

pub distinct : (W : Width) (κs : Lfts 2) (c : Passed (ListColumn (Offsets W))) (a : ListLengths)
    → at W Distinct.Post κs (c.entry, tt) a (c.exit, tt)
    → ListAsked (limits W) (measure_list (unary U.Distinct (column_in (numbers W) c.entry))) a
distinct W κs c a h = measure_list_run (list_measures h)

pub pop_front : (W : Width) (κs : Lfts 2) (c : Passed (ListColumn (Offsets W))) (a : ListLengths)
    → at W PopFront.Post κs (c.entry, tt) a (c.exit, tt)
    → ListAsked (limits W) (measure_list (unary U.PopFront (column_in (numbers W) c.entry))) a
pop_front W κs c a h = measure_list_run (list_measures h)

pub pop_back : (W : Width) (κs : Lfts 2) (c : Passed (ListColumn (Offsets W))) (a : ListLengths)
    → at W PopBack.Post κs (c.entry, tt) a (c.exit, tt)
    → ListAsked (limits W) (measure_list (unary U.PopBack (column_in (numbers W) c.entry))) a
pop_back W κs c a h = measure_list_run (list_measures h)

pub set-lists : (W : Width) (κs : Lfts 3) (k k' : SetOp) (c d : Passed (ListColumn (Offsets W))) (a : ListLengths)
    → at W Sets.Post κs (c.entry, (d.entry, (k, tt))) a (c.exit, (d.exit, (k', tt)))
    → ListAsked (limits W) (measure_list (set_op_call k (column_in (numbers W) c.entry) (column_in (numbers W) d.entry))) a
set-lists W κs k k' c d a h = measure_list_run (list_measures h)

pub slices : (W : Width) (κs : Lfts 5) (c : Passed (ListColumn (Offsets W))) (x y : Passed ValueColumn) (z : Passed (Option ValueColumn)) (a : ListLengths)
    → at W Sliced.Post κs (c.entry, (x.entry, (y.entry, (z.entry, tt)))) a (c.exit, (x.exit, (y.exit, (z.exit, tt))))
    → ListAsked (limits W) (measure_list (slice (column_in (numbers W) c.entry) (values_in x.entry) (values_in y.entry) (lent_in z.entry))) a
slices W κs c x y z a h = measure_list_run (list_measures h)

pub resizes : (W : Width) (κs : Lfts 4) (c : Passed (ListColumn (Offsets W))) (x : Passed ValueColumn) (y : Passed (Option ValueColumn)) (a : ListLengths)
    → at W Resize.Post κs (c.entry, (x.entry, (y.entry, tt))) a (c.exit, (x.exit, (y.exit, tt)))
    → ListAsked (limits W) (measure_list (resize (column_in (numbers W) c.entry) (values_in x.entry) (lent_in y.entry))) a
resizes W κs c x y a h = measure_list_run (list_measures h)

pub replaces : (W : Width) (κs : Lfts 5) (c : Passed (ListColumn (Offsets W))) (x y z : Passed ValueColumn) (a : ListLengths)
    → at W Replace.Post κs (c.entry, (x.entry, (y.entry, (z.entry, tt)))) a (c.exit, (x.exit, (y.exit, (z.exit, tt))))
    → ListAsked (limits W) (measure_list (replace (column_in (numbers W) c.entry) (values_in x.entry) (values_in y.entry) (values_in z.entry))) a
replaces W κs c x y z a h = measure_list_run (list_measures h)

pub removes : (W : Width) (κs : Lfts 4) (c : Passed (ListColumn (Offsets W))) (x y : Passed ValueColumn) (a : ListLengths)
    → at W Remove.Post κs (c.entry, (x.entry, (y.entry, tt))) a (c.exit, (x.exit, (y.exit, tt)))
    → ListAsked (limits W) (measure_list (remove (column_in (numbers W) c.entry) (values_in x.entry) (values_in y.entry))) a
removes W κs c x y a h = measure_list_run (list_measures h)

pub any_value_lem : (W : Width) (κs : Lfts 2) (c : Passed (ListColumn (Offsets W))) (a : ValueLengths)
    → at W AnyValue.Post κs (c.entry, tt) a (c.exit, tt)
    → ValueAsked (limits W) (measure_any_value (column_in (numbers W) c.entry)) a
any_value_lem W κs c a h = measure_any_value_run (value_measures h)

pub elements : (W : Width) (κs : Lfts 3) (c : Passed (ListColumn (Offsets W))) (x : Passed ValueColumn) (a : ValueLengths)
    → at W Element.Post κs (c.entry, (x.entry, tt)) a (c.exit, (x.exit, tt))
    → ValueAsked (limits W) (measure_element (column_in (numbers W) c.entry) (values_in x.entry)) a
elements W κs c x a h = measure_element_run (value_measures h)

pub repeats : (W : Width) (κs : Lfts 3) (c : Passed (ListColumn (Offsets W))) (x : Passed ValueColumn) (a : RepeatLengths)
    → at W Repeat.Post κs (c.entry, (x.entry, tt)) a (c.exit, (x.exit, tt))
    → RepeatAsked (limits W) (measure_repeat (column_in (numbers W) c.entry) (values_in x.entry)) a
repeats W κs c x a h = measure_repeat_run (repeat_measures h)

-- p is the recipe, i what it reads
pub recipe-limits : (W : Width) (κs : Lfts 3) (p : Passed R.Recipe) (i : Passed (Inputs (Offsets W))) (a : RecipeLimits)
    → at W Limited.Post κs (p.entry, (i.entry, tt)) a (p.exit, (i.exit, tt))
    → LimitsAsked (limits W) (limit_recipe (recipe_in p.entry) (column_in (numbers W) i.entry.list) (column_in (numbers W) i.entry.second) (values_in i.entry.arguments)) a
recipe-limits W κs p i a h = limit_recipe_run (recipe_limited h)

-- ---- the typed entries: cs is the slice of the lengths, n the number returned

module _ {A : Type 0} (f : A → List ℕ) {n : ℕ} (s : n ≡ 100 → ⊥) where
  own : (b : Bool) (x : Outcome A) → n ≡ number_of (measured (given x) b) → measured (given x) b ≡ x
  unfolding measured gate number_of
  own true x e = absurd (s e)
  own false x e = refl

  -- X is what the entry serves by its code
  told : (b : Bool) {X : Lent (Outcome A)} (x : Outcome A) (cs : MutSlice ℕ) → X ≡ given x → TypedLengths f (measured X b) n cs.entry.now cs.exit.now → AnswerTyped (measure_end (answer_of f x)) n cs
  told b x cs e h =
      let g = rw e at h in
      let k = rw (own b x g.number) at g in
      record { number = k.number ∙ sym (number_of_lem f x); counts = k.lengths ∙ ap (λ w. over w cs.entry.now) (sym (counts_of f x)) }

names : {A B : Type 0} (f : A → B) {u : Lent A} {k : A} → u ≡ given k → on_lent f u ≡ given (f k)
unfolding on_lent
names f e = rw e

-- what the contracts of the entries come to, at the width of L; k is the operation that the code names
module _ (L : Limits) {n : ℕ} (s : n ≡ 100 → ⊥) (c : LentList) (cs : MutSlice ℕ) where
  pub one-measured : (op : ℕ) (x y z : LentValues) (k : ListOp) → LengthsServed room_counts 4 (one_lengths L op (list_lent c) (values_lent x) (values_lent y) (values_lent z)) n cs
      → one_of op ≡ given k → AnswerTyped (end L (measure_list (call_of k (list_lent c) (values_lent x) (values_lent y) (values_lent z)))) n cs
  unfolding end one_lengths
  one-measured op x y z k h e = told room_counts s _ _ cs (names (λ j. list_lengths L (call_of j (list_lent c) (values_lent x) (values_lent y) (values_lent z))) e) h

  pub two-measured : (op : ℕ) (d : LentList) (k : SetOp) → LengthsServed room_counts 4 (set_lengths L op (list_lent c) (list_lent d)) n cs
      → set_of op ≡ given k → AnswerTyped (end L (measure_list (set_op_call k (list_lent c) (list_lent d)))) n cs
  unfolding end set_lengths
  two-measured op d k h e = told room_counts s _ _ cs (names (λ j. list_lengths L (set_op_call j (list_lent c) (list_lent d))) e) h

  pub any-measured : LengthsServed value_room_counts 2 (given (any_value_lengths (list_lent c))) n cs → AnswerTyped (end L (measure_any_value (list_lent c))) n cs
  unfolding end
  any-measured h = told value_room_counts s _ (any_value_lengths (list_lent c)) cs refl h

  pub element-measured : (x : LentValues) → LengthsServed value_room_counts 2 (given (element_lengths L (list_lent c) (values_lent x))) n cs → AnswerTyped (end L (measure_element (list_lent c) (values_lent x))) n cs
  unfolding end
  element-measured x h = told value_room_counts s _ (element_lengths L (list_lent c) (values_lent x)) cs refl h

  pub repeats_measured : (x : LentValues) → LengthsServed repeat_room_counts 6 (given (repeat_lengths L (list_lent c) (values_lent x))) n cs → AnswerTyped (end L (measure_repeat (list_lent c) (values_lent x))) n cs
  unfolding end
  repeats_measured x h = told repeat_room_counts s _ (repeat_lengths L (list_lent c) (values_lent x)) cs refl h

  pub recipe-measured : (p : Recipe) (d : LentList) (x : LentValues) → LengthsServed limit_counts 3 (given (recipe_limits L p (list_lent c) (list_lent d) (values_lent x))) n cs
      → AnswerTyped (end L (limit_recipe p (list_lent c) (list_lent d) (values_lent x))) n cs
  unfolding end
  recipe-measured p d x h = told limit_counts s _ (recipe_limits L p (list_lent c) (list_lent d) (values_lent x)) cs refl h

pub typed_one : (κs : Lfts 2) (op op' : ℕ) (c : LentList) (x y z : LentValues) (cs : MutSlice ℕ) (n : ℕ) (k : ListOp)
    → TypedOne.Post κs (op, entry6 c (entry3 x (entry3 y (entry3 z (cs.entry, tt))))) n (op', exit6 c (exit3 x (exit3 y (exit3 z (cs.exit, tt)))))
    → (n ≡ 100 → ⊥) → one_of op ≡ given k → AnswerTyped (end narrow (measure_list (call_of k (list_lent c) (values_lent x) (values_lent y) (values_lent z)))) n cs
typed_one κs op op' c x y z cs n k h s e = one-measured narrow s c cs op x y z k h e

pub typed_two : (κs : Lfts 2) (op op' : ℕ) (c d : LentList) (cs : MutSlice ℕ) (n : ℕ) (k : SetOp)
    → TypedTwo.Post κs (op, entry6 c (entry6 d (cs.entry, tt))) n (op', exit6 c (exit6 d (cs.exit, tt)))
    → (n ≡ 100 → ⊥) → set_of op ≡ given k → AnswerTyped (end narrow (measure_list (set_op_call k (list_lent c) (list_lent d)))) n cs
typed_two κs op op' c d cs n k h s e = two-measured narrow s c cs op d k h e

pub typed_any_value : (κs : Lfts 2) (c : LentList) (cs : MutSlice ℕ) (n : ℕ) → TypedAnyValue.Post κs (entry6 c (cs.entry, tt)) n (exit6 c (cs.exit, tt))
    → (n ≡ 100 → ⊥) → AnswerTyped (end narrow (measure_any_value (list_lent c))) n cs
typed_any_value κs c cs n h s = any-measured narrow s c cs h

pub typed_element : (κs : Lfts 2) (c : LentList) (x : LentValues) (cs : MutSlice ℕ) (n : ℕ) → TypedElement.Post κs (entry6 c (entry3 x (cs.entry, tt))) n (exit6 c (exit3 x (cs.exit, tt)))
    → (n ≡ 100 → ⊥) → AnswerTyped (end narrow (measure_element (list_lent c) (values_lent x))) n cs
typed_element κs c x cs n h s = element-measured narrow s c cs x h

pub typed_repeat : (κs : Lfts 2) (c : LentList) (x : LentValues) (cs : MutSlice ℕ) (n : ℕ) → TypedRepeat.Post κs (entry6 c (entry3 x (cs.entry, tt))) n (exit6 c (exit3 x (cs.exit, tt)))
    → (n ≡ 100 → ⊥) → AnswerTyped (end narrow (measure_repeat (list_lent c) (values_lent x))) n cs
typed_repeat κs c x cs n h s = repeats_measured narrow s c cs x h

pub typed_limits : (κs : Lfts 2) (ns : Slice ℕ) (k k' : ℕ) (c d : LentList) (x : LentValues) (cs : MutSlice ℕ) (n : ℕ)
    → TypedLimits.Post κs (ns.entry, (k, entry6 c (entry6 d (entry3 x (cs.entry, tt))))) n (ns.exit, (k', exit6 c (exit6 d (exit3 x (cs.exit, tt)))))
    → (n ≡ 100 → ⊥) → AnswerTyped (end narrow (limit_recipe (recipe ns.entry.now k) (list_lent c) (list_lent d) (values_lent x))) n cs
typed_limits κs ns k k' c d x cs n h s = recipe-measured narrow s c cs (recipe ns.entry.now k) d x h
