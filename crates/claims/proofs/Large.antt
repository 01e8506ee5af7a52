-- Large lists, over the code: the lines of Runs.antt and Lending.antt at 64 bits, those of Typed.antt for the entries of `duthlan_large`, of the
-- same claims, at `wide`. A column is the same slices with 64-bit offsets, so that a claim over calls (`demand_3`, `sums_grow`, `one_end`,
-- `recipes_gave`) needs nothing more.
use Prim.Native.Nat.{ℕ, ◌+◌}
use mathlib.Core.Path.{◌≡◌, sym, ap, ◌∙◌}
use mathlib.Core.List.{List, [], ◌∷◌, map}
use native.Mathlib.Omega.{arith}
use lib.ListN.{length}
use contract.Lifetimes.{Lfts}
use Rattle.model.specs.Basics.{given}
use Rattle.model.specs.Column.{Column, Arguments, row_count}
use Rattle.model.specs.View.{View}
use Rattle.model.specs.Form.{Room}
use Rattle.model.specs.Lengths.{TrayLimits, OffsetsFit, LentEnough}
use Rattle.model.specs.Limits.{wide}
use Rattle.model.specs.Rows.{unary, set_op_call, slice, resize, replace, remove}
use Rattle.model.specs.Recipe.{Recipe, steps_of}
use Rattle.model.specs.Tally.{Sixteen, moved, While, no_more, still}
use Rattle.model.specs.Tally as M
use Rattle.model.specs.Call.{Call, End, end, refusal, counts, list, any_value, element, list_repeat, recipe, measure_list, measure_any_value, measure_element, measure_repeat, limit_recipe, limit_counts}
use Rattle.model.specs.Call as C
use Rattle.model.specs.Contract.{Slice, MutSlice, repeat_room_of}
use Rattle.model.specs.Run.{Run}
use Rattle.model.proofs.LargeLaws.{Neither, no_four_or_six}
use Rattle.model.proofs.LentEnough.{rules_out_nine, wide_eights}
use Rattle.model.proofs.RunLaws.{run_ends}
use Rattle.model.proofs.Stations.{end_moves, recipes_split, sixteen_stay}
use Rattle.model.specs.Answers.{ListAnswer, RepeatAnswer, ValueAnswer, ListLengths, ValueLengths, RepeatLengths, RecipeLimits}
use Rattle.model.specs.declared.SetOp.{SetOp}
use Rattle.model.specs.declared.Unary.TheVariants as U
use Rattle.ops.specs.Ops.{call_of}
use Rattle.ops.specs.declared.ListOp.{ListOp}
use Rattle.entry_codes.specs.Calls.{one_of, set_of}
use Rattle.recipe_refusal.specs.Refused.{recipe as recipeOf, recipe_in}
use Rattle.tally.specs.declared.RecipeAnswer.{RecipeAnswer}
use Rattle.tally.specs.declared.Tally.{Tally}
use Rattle.typed.specs.Tallies.{tally_at}
use Rattle.lists.proofs.reverse.general_array_reverse.Reads as Reverse
use Rattle.lists.proofs.set_ops.general_array_distinct.Reads as Distinct
use Rattle.lists.proofs.set_ops.generic_set_lists.Reads as Sets
use Rattle.lists.proofs.extract.general_pop_front_list.Reads as PopFront
use Rattle.lists.proofs.extract.general_pop_back_list.Reads as PopBack
use Rattle.lists.proofs.extract.general_array_slice.Reads as Sliced
use Rattle.lists.proofs.extract.general_array_any_value.Reads as AnyValue
use Rattle.lists.proofs.extract.general_array_element.Reads as Element
use Rattle.lists.proofs.resize.general_list_resize.Reads as Resize
use Rattle.lists.proofs.replace.general_replace.Reads as Replace
use Rattle.lists.proofs.remove.general_remove.Reads as Remove
use Rattle.lists.proofs.repeat.general_list_repeat.Reads as Repeat
use Rattle.lists.proofs.reverse.general_array_reverse_lengths.Reads as ReverseLengths
use Rattle.lists.proofs.set_ops.general_array_distinct_lengths.Reads as DistinctLengths
use Rattle.lists.proofs.set_ops.generic_set_lists_lengths.Reads as SetsLengths
use Rattle.lists.proofs.extract.general_pop_front_list_lengths.Reads as PopFrontLengths
use Rattle.lists.proofs.extract.general_pop_back_list_lengths.Reads as PopBackLengths
use Rattle.lists.proofs.extract.general_array_slice_lengths.Reads as SlicedLengths
use Rattle.lists.proofs.extract.general_array_any_value_lengths.Reads as AnyValueLengths
use Rattle.lists.proofs.extract.general_array_element_lengths.Reads as ElementLengths
use Rattle.lists.proofs.resize.general_list_resize_lengths.Reads as ResizeLengths
use Rattle.lists.proofs.replace.general_replace_lengths.Reads as ReplaceLengths
use Rattle.lists.proofs.remove.general_remove_lengths.Reads as RemoveLengths
use Rattle.lists.proofs.repeat.general_list_repeat_lengths.Reads as RepeatLengthsOf
use Rattle.recipes.proofs.run_recipe.Reads as Recipes
use Rattle.recipe_limits.proofs.recipe_limits.Reads as Limited
use Rattle.duthlan_large.proofs.duthlan_large_list.Reads as TypedOne
use Rattle.duthlan_large.proofs.duthlan_large_lists.Reads as TypedTwo
use Rattle.duthlan_large.proofs.duthlan_large_any_value.Reads as TypedAnyValue
use Rattle.duthlan_large.proofs.duthlan_large_element.Reads as TypedElement
use Rattle.duthlan_large.proofs.duthlan_large_list_repeat.Reads as TypedRepeat
use Rattle.duthlan_large.proofs.duthlan_large_recipe.Reads as TypedRecipe
use Rattle.duthlan_large.proofs.lengths.duthlan_large_list_lengths.Reads as OneLengths
use Rattle.duthlan_large.proofs.lengths.duthlan_large_lists_lengths.Reads as TwoLengths
use Rattle.duthlan_large.proofs.lengths.duthlan_large_any_value_lengths.Reads as TypedAnyLengths
use Rattle.duthlan_large.proofs.lengths.duthlan_large_element_lengths.Reads as TypedElementLengths
use Rattle.duthlan_large.proofs.lengths.duthlan_large_list_repeat_lengths.Reads as TypedRepeatLengths
use Rattle.duthlan_large.proofs.lengths.duthlan_large_recipe_limits.Reads as TypedLimits
use Rattle.claims.specs.Slots.{Slices, Pair, LentList, LentValues, list_lent, values_lent, slices_room, pair_room, entry4, exit4, entry2, exit2, entry6, exit6, entry3, exit3}
use Rattle.claims.specs.Columns.{at, i64, Passed, MutPassed, itself, ListRuns, ValueRuns, RepeatRuns, RecipeRuns}
use Rattle.column.specs.Columns.{column_in, lent_in, values_in}
use Rattle.column.specs.declared.elements.ValueColumn.{ValueColumn}
use Rattle.column.specs.declared.elements.ValueOutput.{ValueOutput}
use Rattle.column.specs.declared.lists.ListColumn.{ListColumn}
use Rattle.column.specs.declared.lists.ListOutput.{ListOutput}
use Rattle.column.specs.declared.lists.OuterOutput.{OuterOutput}
use Rattle.recipe_refusal.specs.declared.Inputs.{Inputs}
use Rattle.recipe_refusal.specs.declared.Recipe as R
use Rattle.std.specs.Prelude.{Option, ℤ}
use Rattle.claims.proofs.Runs as Any
use Rattle.claims.proofs.Lending as Asked
use Rattle.claims.specs.Chains.{Sized, Handed, last, next, move_of, finished_in, refused_in}
use Rattle.claims.specs.Numbers.{AnswerTyped, ListTyped, ValueTyped, RepeatTyped, RecipeTyped}
use Rattle.claims.proofs.Typed.{one_typed, two_typed, any_typed, element_typed, repeats_typed, recipe_typed}
use Rattle.claims.proofs.Lending.{ListAsked, ValueAsked, RepeatAsked, LimitsAsked, one-measured, two-measured, any-measured, element-measured, repeats_measured, recipe-measured}

-- "There 4 and 6 never occur.": no run on large lists, of whatever call, answers either
pub four_and_six : {q : Call Column Arguments View} {e : End} (k : ℕ) → Run wide q e → e.answer ≡ refusal k → Neither k
four_and_six {q} k r h = no_four_or_six q k (ap (λ (x : End). x.answer) (sym (run_ends wide r)) ∙ h)

-- "Lending that much, with offsets and bitmaps to match, rules out 9.": m is what the limits answer, lent to a run of the recipe
pub nine_ruled_out : {e e' : End} (s : ℕ) (p : Recipe) (c d : Column) (x : Arguments) (a b o : Room) (t : M.Tally) (m : TrayLimits) → OffsetsFit wide c
    → Run wide (limit_recipe p c d x) e → e.answer ≡ counts (limit_counts m) → LentEnough (length (steps_of p.numbers)) (row_count c.offsets) m a b o
    → Run wide (recipe s p c d x a b o t) e' → e'.answer ≡ refusal 9 → ⊥
nine_ruled_out s p c d x a b o t m f r h l r' h' =
    rules_out_nine wide s p c d x a b o t m wide_eights f (ap (λ (y : End). y.answer) (sym (run_ends wide r)) ∙ h) l (ap (λ (y : End). y.answer) (sym (run_ends wide r')) ∙ h')

-- `sums_grow` of Runs.antt where calls at both widths hand on one tally
pub sums_grow_both : {t u : M.Tally} (ps : List Sized) → Handed t ps u → Sixteen t → While (map move_of ps) t
    → (M.total u.finished ≡ M.total t.finished + M.total (map finished_in ps)) × (M.total u.refused ≡ M.total t.refused + M.total (map refused_in ps))
unfolding M.total
sums_grow_both [] last z w = (omega arith, omega arith)
sums_grow_both (p ∷ ps) (next {t = t} {t' = t'} h g c) z (still b w) =
    let i : given t' ≡ given (moved (move_of p) t) = sym g ∙ end_moves p.limits p.call t h in
    let k : t' ≡ moved (move_of p) t = cc in
    let one = recipes_split p.limits (p.call ∷ []) (C.next h g C.none) z (still b no_more) in
    let more = sums_grow_both ps c (rw k (sixteen_stay (move_of p) t z)) (rw k w) in
    (omega (arith, one.0, more.0), omega (arith, one.1, more.1))

-- ---- the functions of `lists`, and `run_recipe`, at 64 bits: c is the list, x, y and z the argument columns, o is the output, a the answer (Runs.antt says
-- what the others are)

pub reverse : (κs : Lfts 5) (c : Passed (ListColumn ℤ)) (o : MutPassed (ListOutput ℤ)) (a : ListAnswer)
    → at i64 Reverse.Post κs (c.entry, (o.entry, tt)) a (c.exit, (o.exit, tt))
    → ListRuns wide itself (unary U.Reverse (column_in itself c.entry)) a o
reverse κs c o a h = Any.reverse i64 κs c o a h

pub distinct : (κs : Lfts 5) (c : Passed (ListColumn ℤ)) (o : MutPassed (ListOutput ℤ)) (a : ListAnswer)
    → at i64 Distinct.Post κs (c.entry, (o.entry, tt)) a (c.exit, (o.exit, tt))
    → ListRuns wide itself (unary U.Distinct (column_in itself c.entry)) a o
distinct κs c o a h = Any.distinct i64 κs c o a h

pub pop_front : (κs : Lfts 5) (c : Passed (ListColumn ℤ)) (o : MutPassed (ListOutput ℤ)) (a : ListAnswer)
    → at i64 PopFront.Post κs (c.entry, (o.entry, tt)) a (c.exit, (o.exit, tt))
    → ListRuns wide itself (unary U.PopFront (column_in itself c.entry)) a o
pop_front κs c o a h = Any.pop_front i64 κs c o a h

pub pop_back : (κs : Lfts 5) (c : Passed (ListColumn ℤ)) (o : MutPassed (ListOutput ℤ)) (a : ListAnswer)
    → at i64 PopBack.Post κs (c.entry, (o.entry, tt)) a (c.exit, (o.exit, tt))
    → ListRuns wide itself (unary U.PopBack (column_in itself c.entry)) a o
pop_back κs c o a h = Any.pop_back i64 κs c o a h

pub set-lists : (κs : Lfts 6) (k k' : SetOp) (c d : Passed (ListColumn ℤ)) (o : MutPassed (ListOutput ℤ)) (a : ListAnswer)
    → at i64 Sets.Post κs (c.entry, (d.entry, (k, (o.entry, tt)))) a (c.exit, (d.exit, (k', (o.exit, tt))))
    → ListRuns wide itself (set_op_call k (column_in itself c.entry) (column_in itself d.entry)) a o
set-lists κs k k' c d o a h = Any.set-lists i64 κs k k' c d o a h

pub slices : (κs : Lfts 8) (c : Passed (ListColumn ℤ)) (x y : Passed ValueColumn) (z : Passed (Option ValueColumn)) (o : MutPassed (ListOutput ℤ)) (a : ListAnswer)
    → at i64 Sliced.Post κs (c.entry, (x.entry, (y.entry, (z.entry, (o.entry, tt))))) a (c.exit, (x.exit, (y.exit, (z.exit, (o.exit, tt)))))
    → ListRuns wide itself (slice (column_in itself c.entry) (values_in x.entry) (values_in y.entry) (lent_in z.entry)) a o
slices κs c x y z o a h = Any.slices i64 κs c x y z o a h

pub resizes : (κs : Lfts 7) (c : Passed (ListColumn ℤ)) (x : Passed ValueColumn) (y : Passed (Option ValueColumn)) (o : MutPassed (ListOutput ℤ)) (a : ListAnswer)
    → at i64 Resize.Post κs (c.entry, (x.entry, (y.entry, (o.entry, tt)))) a (c.exit, (x.exit, (y.exit, (o.exit, tt))))
    → ListRuns wide itself (resize (column_in itself c.entry) (values_in x.entry) (lent_in y.entry)) a o
resizes κs c x y o a h = Any.resizes i64 κs c x y o a h

pub replaces : (κs : Lfts 8) (c : Passed (ListColumn ℤ)) (x y z : Passed ValueColumn) (o : MutPassed (ListOutput ℤ)) (a : ListAnswer)
    → at i64 Replace.Post κs (c.entry, (x.entry, (y.entry, (z.entry, (o.entry, tt))))) a (c.exit, (x.exit, (y.exit, (z.exit, (o.exit, tt)))))
    → ListRuns wide itself (replace (column_in itself c.entry) (values_in x.entry) (values_in y.entry) (values_in z.entry)) a o
replaces κs c x y z o a h = Any.replaces i64 κs c x y z o a h

pub removes : (κs : Lfts 7) (c : Passed (ListColumn ℤ)) (x y : Passed ValueColumn) (o : MutPassed (ListOutput ℤ)) (a : ListAnswer)
    → at i64 Remove.Post κs (c.entry, (x.entry, (y.entry, (o.entry, tt)))) a (c.exit, (x.exit, (y.exit, (o.exit, tt))))
    → ListRuns wide itself (remove (column_in itself c.entry) (values_in x.entry) (values_in y.entry)) a o
removes κs c x y o a h = Any.removes i64 κs c x y o a h

pub any_value_lem : (κs : Lfts 4) (c : Passed (ListColumn ℤ)) (o : MutPassed ValueOutput) (a : ValueAnswer)
    → at i64 AnyValue.Post κs (c.entry, (o.entry, tt)) a (c.exit, (o.exit, tt))
    → ValueRuns wide (any_value (column_in itself c.entry)) a o
any_value_lem κs c o a h = Any.any_value_lem i64 κs c o a h

pub elements : (κs : Lfts 5) (c : Passed (ListColumn ℤ)) (x : Passed ValueColumn) (o : MutPassed ValueOutput) (a : ValueAnswer)
    → at i64 Element.Post κs (c.entry, (x.entry, (o.entry, tt))) a (c.exit, (x.exit, (o.exit, tt)))
    → ValueRuns wide (element (column_in itself c.entry) (values_in x.entry)) a o
elements κs c x o a h = Any.elements i64 κs c x o a h

pub repeats : (κs : Lfts 8) (c : Passed (ListColumn ℤ)) (x : Passed ValueColumn) (b : MutPassed (OuterOutput ℤ)) (o : MutPassed (ListOutput ℤ)) (a : RepeatAnswer)
    → at i64 Repeat.Post κs (c.entry, (x.entry, (b.entry, (o.entry, tt)))) a (c.exit, (x.exit, (b.exit, (o.exit, tt))))
    → RepeatRuns wide itself (list_repeat (column_in itself c.entry) (values_in x.entry)) a b o
repeats κs c x b o a h = Any.repeats i64 κs c x b o a h

pub run_recipe : (κs : Lfts 12) (t t' : Tally) (s s' : ℕ) (p : Passed R.Recipe) (i : Passed (Inputs ℤ)) (l m o : MutPassed (ListOutput ℤ)) (a : RecipeAnswer)
    → at i64 Recipes.Post κs (t, (s, (p.entry, (i.entry, (l.entry, (m.entry, (o.entry, tt))))))) a (t', (s', (p.exit, (i.exit, (l.exit, (m.exit, (o.exit, tt)))))))
    → RecipeRuns wide itself s p.entry i.entry l m o t a
run_recipe κs t t' s s' p i l m o a h = Any.run_recipe i64 κs t t' s s' p i l m o a h

-- ---- how much to lend for them

pub reverse-lengths : (κs : Lfts 2) (c : Passed (ListColumn ℤ)) (a : ListLengths)
    → at i64 ReverseLengths.Post κs (c.entry, tt) a (c.exit, tt)
    → ListAsked wide (measure_list (unary U.Reverse (column_in itself c.entry))) a
reverse-lengths κs c a h = Asked.reverse i64 κs c a h

pub distinct-lengths : (κs : Lfts 2) (c : Passed (ListColumn ℤ)) (a : ListLengths)
    → at i64 DistinctLengths.Post κs (c.entry, tt) a (c.exit, tt)
    → ListAsked wide (measure_list (unary U.Distinct (column_in itself c.entry))) a
distinct-lengths κs c a h = Asked.distinct i64 κs c a h

pub pop_front-lengths : (κs : Lfts 2) (c : Passed (ListColumn ℤ)) (a : ListLengths)
    → at i64 PopFrontLengths.Post κs (c.entry, tt) a (c.exit, tt)
    → ListAsked wide (measure_list (unary U.PopFront (column_in itself c.entry))) a
pop_front-lengths κs c a h = Asked.pop_front i64 κs c a h

pub pop_back_lengths : (κs : Lfts 2) (c : Passed (ListColumn ℤ)) (a : ListLengths)
    → at i64 PopBackLengths.Post κs (c.entry, tt) a (c.exit, tt)
    → ListAsked wide (measure_list (unary U.PopBack (column_in itself c.entry))) a
pop_back_lengths κs c a h = Asked.pop_back i64 κs c a h

pub set-lists-lengths : (κs : Lfts 3) (k k' : SetOp) (c d : Passed (ListColumn ℤ)) (a : ListLengths)
    → at i64 SetsLengths.Post κs (c.entry, (d.entry, (k, tt))) a (c.exit, (d.exit, (k', tt)))
    → ListAsked wide (measure_list (set_op_call k (column_in itself c.entry) (column_in itself d.entry))) a
set-lists-lengths κs k k' c d a h = Asked.set-lists i64 κs k k' c d a h

pub slices_lengths : (κs : Lfts 5) (c : Passed (ListColumn ℤ)) (x y : Passed ValueColumn) (z : Passed (Option ValueColumn)) (a : ListLengths)
    → at i64 SlicedLengths.Post κs (c.entry, (x.entry, (y.entry, (z.entry, tt)))) a (c.exit, (x.exit, (y.exit, (z.exit, tt))))
    → ListAsked wide (measure_list (slice (column_in itself c.entry) (values_in x.entry) (values_in y.entry) (lent_in z.entry))) a
slices_lengths κs c x y z a h = Asked.slices i64 κs c x y z a h

pub resizes_lengths : (κs : Lfts 4) (c : Passed (ListColumn ℤ)) (x : Passed ValueColumn) (y : Passed (Option ValueColumn)) (a : ListLengths)
    → at i64 ResizeLengths.Post κs (c.entry, (x.entry, (y.entry, tt))) a (c.exit, (x.exit, (y.exit, tt)))
    → ListAsked wide (measure_list (resize (column_in itself c.entry) (values_in x.entry) (lent_in y.entry))) a
resizes_lengths κs c x y a h = Asked.resizes i64 κs c x y a h

pub replaces_lengths : (κs : Lfts 5) (c : Passed (ListColumn ℤ)) (x y z : Passed ValueColumn) (a : ListLengths)
    → at i64 ReplaceLengths.Post κs (c.entry, (x.entry, (y.entry, (z.entry, tt)))) a (c.exit, (x.exit, (y.exit, (z.exit, tt))))
    → ListAsked wide (measure_list (replace (column_in itself c.entry) (values_in x.entry) (values_in y.entry) (values_in z.entry))) a
replaces_lengths κs c x y z a h = Asked.replaces i64 κs c x y z a h

pub removes_lengths : (κs : Lfts 4) (c : Passed (ListColumn ℤ)) (x y : Passed ValueColumn) (a : ListLengths)
    → at i64 RemoveLengths.Post κs (c.entry, (x.entry, (y.entry, tt))) a (c.exit, (x.exit, (y.exit, tt)))
    → ListAsked wide (measure_list (remove (column_in itself c.entry) (values_in x.entry) (values_in y.entry))) a
removes_lengths κs c x y a h = Asked.removes i64 κs c x y a h

pub any_value_lengths_lem : (κs : Lfts 2) (c : Passed (ListColumn ℤ)) (a : ValueLengths)
    → at i64 AnyValueLengths.Post κs (c.entry, tt) a (c.exit, tt)
    → ValueAsked wide (measure_any_value (column_in itself c.entry)) a
any_value_lengths_lem κs c a h = Asked.any_value_lem i64 κs c a h

pub elements-lengths : (κs : Lfts 3) (c : Passed (ListColumn ℤ)) (x : Passed ValueColumn) (a : ValueLengths)
    → at i64 ElementLengths.Post κs (c.entry, (x.entry, tt)) a (c.exit, (x.exit, tt))
    → ValueAsked wide (measure_element (column_in itself c.entry) (values_in x.entry)) a
elements-lengths κs c x a h = Asked.elements i64 κs c x a h

pub repeats_lengths : (κs : Lfts 3) (c : Passed (ListColumn ℤ)) (x : Passed ValueColumn) (a : RepeatLengths)
    → at i64 RepeatLengthsOf.Post κs (c.entry, (x.entry, tt)) a (c.exit, (x.exit, tt))
    → RepeatAsked wide (measure_repeat (column_in itself c.entry) (values_in x.entry)) a
repeats_lengths κs c x a h = Asked.repeats i64 κs c x a h

pub recipe-limits : (κs : Lfts 3) (p : Passed R.Recipe) (i : Passed (Inputs ℤ)) (a : RecipeLimits)
    → at i64 Limited.Post κs (p.entry, (i.entry, tt)) a (p.exit, (i.exit, tt))
    → LimitsAsked wide (limit_recipe (recipe_in p.entry) (column_in itself i.entry.list) (column_in itself i.entry.second) (values_in i.entry.arguments)) a
recipe-limits κs p i a h = Asked.recipe-limits i64 κs p i a h

-- ---- the entries of `duthlan_large`: cs is the slice of the counts or of the lengths, n the number returned, k the operation that the code names

pub typed_one : (κs : Lfts 3) (op op' : ℕ) (c : LentList) (x y z : LentValues) (o : Slices) (cs : MutSlice ℕ) (n : ℕ) (k : ListOp)
    → TypedOne.Post κs (op, entry6 c (entry3 x (entry3 y (entry3 z (entry4 o (cs.entry, tt)))))) n (op', exit6 c (exit3 x (exit3 y (exit3 z (exit4 o (cs.exit, tt))))))
    → (n ≡ 100 → ⊥) → one_of op ≡ given k → ListTyped (end wide (list (call_of k (list_lent c) (values_lent x) (values_lent y) (values_lent z)) (slices_room o))) n o cs
typed_one κs op op' c x y z o cs n k h s e = one_typed wide s c cs op x y z o k h e

pub typed_two : (κs : Lfts 3) (op op' : ℕ) (c d : LentList) (o : Slices) (cs : MutSlice ℕ) (n : ℕ) (k : SetOp)
    → TypedTwo.Post κs (op, entry6 c (entry6 d (entry4 o (cs.entry, tt)))) n (op', exit6 c (exit6 d (exit4 o (cs.exit, tt))))
    → (n ≡ 100 → ⊥) → set_of op ≡ given k → ListTyped (end wide (list (set_op_call k (list_lent c) (list_lent d)) (slices_room o))) n o cs
typed_two κs op op' c d o cs n k h s e = two_typed wide s c cs op d o k h e

pub typed_any_value : (κs : Lfts 3) (c : LentList) (o : Pair) (cs : MutSlice ℕ) (n : ℕ)
    → TypedAnyValue.Post κs (entry6 c (entry2 o (cs.entry, tt))) n (exit6 c (exit2 o (cs.exit, tt)))
    → (n ≡ 100 → ⊥) → ValueTyped (end wide (any_value (list_lent c) (pair_room o))) n o cs
typed_any_value κs c o cs n h s = any_typed wide s c cs o h

pub typed_element : (κs : Lfts 3) (c : LentList) (x : LentValues) (o : Pair) (cs : MutSlice ℕ) (n : ℕ)
    → TypedElement.Post κs (entry6 c (entry3 x (entry2 o (cs.entry, tt)))) n (exit6 c (exit3 x (exit2 o (cs.exit, tt))))
    → (n ≡ 100 → ⊥) → ValueTyped (end wide (element (list_lent c) (values_lent x) (pair_room o))) n o cs
typed_element κs c x o cs n h s = element_typed wide s c cs x o h

-- p is the output's outer lists
pub typed_repeat : (κs : Lfts 3) (c : LentList) (x : LentValues) (p : Pair) (o : Slices) (cs : MutSlice ℕ) (n : ℕ)
    → TypedRepeat.Post κs (entry6 c (entry3 x (entry2 p (entry4 o (cs.entry, tt))))) n (exit6 c (exit3 x (exit2 p (exit4 o (cs.exit, tt)))))
    → (n ≡ 100 → ⊥) → RepeatTyped (end wide (list_repeat (list_lent c) (values_lent x) (repeat_room_of p.values p.bits o.offsets o.rows o.values o.elements))) n p o cs
typed_repeat κs c x p o cs n h s = repeats_typed wide s c cs x p o h

-- t is the station, ns are the recipe's numbers, k how many argument columns there are, l and m the trays, u the tally
pub typed_recipe : (κs : Lfts 4) (t t' k k' : ℕ) (ns : Slice ℕ) (c d : LentList) (x : LentValues) (l m o : Slices) (cs u : MutSlice ℕ) (n : ℕ)
    → TypedRecipe.Post κs (t, (ns.entry, (k, entry6 c (entry6 d (entry3 x (entry4 l (entry4 m (entry4 o (cs.entry, (u.entry, tt))))))))))
    n (t', (ns.exit, (k', exit6 c (exit6 d (exit3 x (exit4 l (exit4 m (exit4 o (cs.exit, (u.exit, tt))))))))))
    → (n ≡ 100 → ⊥) → RecipeTyped (end wide (recipe t (recipeOf ns.entry.now k) (list_lent c) (list_lent d) (values_lent x) (slices_room l) (slices_room m) (slices_room o) (tally_at u.entry.now))) n l m o cs u
typed_recipe κs t t' k k' ns c d x l m o cs u n h s = recipe_typed wide s c cs t (recipeOf ns.entry.now k) d x l m o u h.0 h.1.0 h.1.1

pub typed_one-lengths : (κs : Lfts 2) (op op' : ℕ) (c : LentList) (x y z : LentValues) (cs : MutSlice ℕ) (n : ℕ) (k : ListOp)
    → OneLengths.Post κs (op, entry6 c (entry3 x (entry3 y (entry3 z (cs.entry, tt))))) n (op', exit6 c (exit3 x (exit3 y (exit3 z (cs.exit, tt)))))
    → (n ≡ 100 → ⊥) → one_of op ≡ given k → AnswerTyped (end wide (measure_list (call_of k (list_lent c) (values_lent x) (values_lent y) (values_lent z)))) n cs
typed_one-lengths κs op op' c x y z cs n k h s e = one-measured wide s c cs op x y z k h e

pub typed_two-lengths : (κs : Lfts 2) (op op' : ℕ) (c d : LentList) (cs : MutSlice ℕ) (n : ℕ) (k : SetOp)
    → TwoLengths.Post κs (op, entry6 c (entry6 d (cs.entry, tt))) n (op', exit6 c (exit6 d (cs.exit, tt)))
    → (n ≡ 100 → ⊥) → set_of op ≡ given k → AnswerTyped (end wide (measure_list (set_op_call k (list_lent c) (list_lent d)))) n cs
typed_two-lengths κs op op' c d cs n k h s e = two-measured wide s c cs op d k h e

pub typed_any_value_lengths : (κs : Lfts 2) (c : LentList) (cs : MutSlice ℕ) (n : ℕ) → TypedAnyLengths.Post κs (entry6 c (cs.entry, tt)) n (exit6 c (cs.exit, tt))
    → (n ≡ 100 → ⊥) → AnswerTyped (end wide (measure_any_value (list_lent c))) n cs
typed_any_value_lengths κs c cs n h s = any-measured wide s c cs h

pub typed_element-lengths : (κs : Lfts 2) (c : LentList) (x : LentValues) (cs : MutSlice ℕ) (n : ℕ) → TypedElementLengths.Post κs (entry6 c (entry3 x (cs.entry, tt))) n (exit6 c (exit3 x (cs.exit, tt)))
    → (n ≡ 100 → ⊥) → AnswerTyped (end wide (measure_element (list_lent c) (values_lent x))) n cs
typed_element-lengths κs c x cs n h s = element-measured wide s c cs x h

pub typed_repeat_lengths : (κs : Lfts 2) (c : LentList) (x : LentValues) (cs : MutSlice ℕ) (n : ℕ) → TypedRepeatLengths.Post κs (entry6 c (entry3 x (cs.entry, tt))) n (exit6 c (exit3 x (cs.exit, tt)))
    → (n ≡ 100 → ⊥) → AnswerTyped (end wide (measure_repeat (list_lent c) (values_lent x))) n cs
typed_repeat_lengths κs c x cs n h s = repeats_measured wide s c cs x h

pub typed_limits : (κs : Lfts 2) (ns : Slice ℕ) (k k' : ℕ) (c d : LentList) (x : LentValues) (cs : MutSlice ℕ) (n : ℕ)
    → TypedLimits.Post κs (ns.entry, (k, entry6 c (entry6 d (entry3 x (cs.entry, tt))))) n (ns.exit, (k', exit6 c (exit6 d (exit3 x (cs.exit, tt)))))
    → (n ≡ 100 → ⊥) → AnswerTyped (end wide (limit_recipe (recipeOf ns.entry.now k) (list_lent c) (list_lent d) (values_lent x))) n cs
typed_limits κs ns k k' c d x cs n h s = recipe-measured wide s c cs (recipeOf ns.entry.now k) d x h
