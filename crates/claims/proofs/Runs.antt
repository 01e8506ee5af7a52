-- Demand 3 over the code, in one place: `demand_3` is the claim, over any two runs at one width, whose limits are L; `sums_grow` is the claim
-- over many calls. Each line after them says of a public function of `lists`, and of `run_recipe`, that what its contract, F.Post,
-- says of a call makes the call a run, its outputs and trays being as it returns the slices that were lent. If a contract said less of its
-- answer, written results, trays or tally than the definitions, or let an output or a tray be exchanged, its line would not hold. Each is of
-- offsets of any width W, so of both (`widths`): Large.antt cites them at 64 bits. Entries.antt does the same for the C entries over bytes, Typed.antt
-- for the typed ones.
use Prim.Native.Nat.{ℕ, ◌+◌, ◌-◌, ◌<◌}
use mathlib.Core.Path.{◌≡◌, refl}
use mathlib.Core.Bool.{true}
use mathlib.Core.List.{List, map}
use lib.IntN.{ℤ}
use lib.ListN.{length}
use contract.Lifetimes.{Lfts}
use Rattle.model.specs.Basics.{given}
use Rattle.model.specs.Bitmap.{Bits, valid_at}
use Rattle.model.specs.Column.{Column, column, Arguments, arguments, row_count, offset_at, EqualRows, EqualArguments}
use Rattle.model.specs.View.{View}
use Rattle.model.specs.Limits.{Limits, narrow, wide}
use Rattle.model.specs.Rows.{unary, set_op_call, slice, resize, replace, remove}
use Rattle.model.specs.Call.{Call, any_value, element, list_repeat, End, Formed, Alike, end, move_in, Chain, finished_by, refused_by}
use Rattle.model.specs.Run.{Run, list_run, any_value_run, element_run, repeat_run, recipe_run}
use Rattle.model.specs.Tally.{Sixteen, While}
use Rattle.model.specs.Tally as M
use Rattle.model.proofs.Agreement.{Agree, runs_agree}
use Rattle.model.proofs.Stations.{recipes_split, run_gives}
use Rattle.model.proofs.ColumnLaws.{other_bits, other_bitsᵃ}
use Rattle.model.specs.Answers.{ListAnswer, RepeatAnswer, ValueAnswer}
use Rattle.model.specs.declared.SetOp.{SetOp}
use Rattle.model.specs.declared.Unary.TheVariants as U
use Rattle.lists.proofs.reverse.general_array_reverse.Reads as Reverse
use Rattle.lists.proofs.set_ops.general_array_distinct.Reads as Distinct
use Rattle.lists.proofs.set_ops.generic_set_lists.Reads as Sets
use Rattle.lists.proofs.extract.general_pop_front_list.Reads as PopFront
use Rattle.lists.proofs.extract.general_pop_back_list.Reads as PopBack
use Rattle.lists.proofs.extract.general_array_slice.Reads as Sliced
use Rattle.lists.proofs.extract.general_array_any_value.Reads as AnyValue
use Rattle.lists.proofs.extract.general_array_element.Reads as Element
use Rattle.lists.proofs.resize.general_list_resize.Reads as Resize
use Rattle.lists.proofs.replace.general_replace.Reads as Replace
use Rattle.lists.proofs.remove.general_remove.Reads as Remove
use Rattle.lists.proofs.repeat.general_list_repeat.Reads as Repeat
use Rattle.tally.specs.declared.RecipeAnswer.{RecipeAnswer}
use Rattle.tally.specs.declared.Tally.{Tally}
use Rattle.recipes.proofs.run_recipe.Reads as Recipes
use Rattle.recipe_refusal.specs.declared.Inputs.{Inputs}
use Rattle.recipe_refusal.specs.declared.Recipe.{Recipe}
use Rattle.column.specs.Columns.{column_in, lent_in, values_in}
use Rattle.column.specs.declared.elements.ValueColumn.{ValueColumn}
use Rattle.column.specs.declared.elements.ValueOutput.{ValueOutput}
use Rattle.column.specs.declared.lists.ListColumn.{ListColumn}
use Rattle.column.specs.declared.lists.ListOutput.{ListOutput}
use Rattle.column.specs.declared.lists.OuterOutput.{OuterOutput}
use Rattle.std.specs.Prelude.{Option}
use Rattle.claims.specs.Columns.{Width, Offsets, limits, numbers, at, i32, i64, Passed, MutPassed, itself, ListRuns, ValueRuns, RepeatRuns, RecipeRuns}

-- "Take any two runs of one operation or one recipe, whatever its steps and whichever of them, if any, is refused.": two runs on
-- well-formed columns, alike in what is shown, in arguments, lengths lent, station and tally, end in the same, and that is what the definitions
-- give from what is shown alone
pub demand_3 : (L : Limits) {q q' : Call Column Arguments View} {e e' : End} → Run L q e → Run L q' e' → Formed q → Formed q' → Alike q q' → Agree L q q' e e'
demand_3 L r r' f f' a = runs_agree L r r' f f' a

-- "Where each call takes the tally the last one gave, and while no count has reached its largest value, the sums over stations grow by
-- the calls made, split by outcome": of any recipes, the first taking t and the last giving u. What a run gave
-- is what its call gives (`gave`), so runs are calls of such a chain; Entries.antt says so of the C entry (`recipes_gave`).
pub sums_grow : (L : Limits) {t u : M.Tally} (qs : List (Call Column Arguments View)) → Chain L t qs u → Sixteen t → While (map (move_in L) qs) t
    → (M.total u.finished ≡ M.total t.finished + M.total (map (finished_by L) qs)) × (M.total u.refused ≡ M.total t.refused + M.total (map (refused_by L) qs))
sums_grow L qs c z w = recipes_split L qs c z w

pub gave : (L : Limits) {q : Call Column Arguments View} {e : End} {t : M.Tally} → Run L q e → e.tally ≡ given t → (end L q).tally ≡ given t
gave L r h = run_gives L r h

-- "Columns with equal rows but other starting bits answer alike in two runs.": no premise of the claim speaks of starting bits. So for two
-- runs of any call that takes a list at some place (K, in which lists that show equal rows make alike calls), on the same offsets and values,
-- with bitmaps that start at other bits, or hold other bytes, and mark the same rows and places
pub other_starts : (L : Limits) (K : Column → Call Column Arguments View) → ((c d : Column) → EqualRows c d → Alike (K c) (K d)) → (o v : List ℤ) (rb rb' eb eb' : Bits)
    → ((r : ℕ) → r < row_count o → valid_at rb r ≡ valid_at rb' r)
    → ((r i : ℕ) → r < row_count o → valid_at rb r ≡ true → i < offset_at o (r + 1) - offset_at o r → valid_at eb (offset_at o r + i) ≡ valid_at eb' (offset_at o r + i))
    → (e e' : End) → Run L (K (column o rb v eb)) e → Run L (K (column o rb' v eb')) e' → Formed (K (column o rb v eb)) → Formed (K (column o rb' v eb')) → Agree L (K (column o rb v eb)) (K (column o rb' v eb')) e e'
other_starts L K same o v rb rb' eb eb' h g e e' x x' f f' = demand_3 L x x' f f' (same _ _ (other_bits o v rb rb' eb eb' h g))

-- the same of any call that takes an argument column at some place
pub other_startsᵃ : (L : Limits) (K : Arguments → Call Column Arguments View) → ((a b : Arguments) → EqualArguments a b → Alike (K a) (K b)) → (v : List ℤ) (b b' : Bits) → ((i : ℕ) → i < length v → valid_at b i ≡ valid_at b' i)
    → (e e' : End) → Run L (K (arguments v b)) e → Run L (K (arguments v b')) e' → Formed (K (arguments v b)) → Formed (K (arguments v b')) → Agree L (K (arguments v b)) (K (arguments v b')) e e'
other_startsᵃ L K same v b b' h e e' x x' f f' = demand_3 L x x' f f' (same _ _ (other_bitsᵃ v b b' h))

-- what the two widths decide, and the numbers that their offsets are
pub widths : ((limits i32 ≡ narrow) × (limits i64 ≡ wide)) × ((numbers i32 ≡ itself) × (numbers i64 ≡ itself))
widths = ((refl, refl), (refl, refl))

-- c is the list, x, y and z the argument columns; o is the output, a the answer

pub reverse : (W : Width) (κs : Lfts 5) (c : Passed (ListColumn (Offsets W))) (o : MutPassed (ListOutput (Offsets W))) (a : ListAnswer)
    → at W Reverse.Post κs (c.entry, (o.entry, tt)) a (c.exit, (o.exit, tt))
    → ListRuns (limits W) (numbers W) (unary U.Reverse (column_in (numbers W) c.entry)) a o
reverse W κs c o a h = (list_run h.meets, h.same)

pub distinct : (W : Width) (κs : Lfts 5) (c : Passed (ListColumn (Offsets W))) (o : MutPassed (ListOutput (Offsets W))) (a : ListAnswer)
    → at W Distinct.Post κs (c.entry, (o.entry, tt)) a (c.exit, (o.exit, tt))
    → ListRuns (limits W) (numbers W) (unary U.Distinct (column_in (numbers W) c.entry)) a o
distinct W κs c o a h = (list_run h.meets, h.same)

pub pop_front : (W : Width) (κs : Lfts 5) (c : Passed (ListColumn (Offsets W))) (o : MutPassed (ListOutput (Offsets W))) (a : ListAnswer)
    → at W PopFront.Post κs (c.entry, (o.entry, tt)) a (c.exit, (o.exit, tt))
    → ListRuns (limits W) (numbers W) (unary U.PopFront (column_in (numbers W) c.entry)) a o
pop_front W κs c o a h = (list_run h.meets, h.same)

pub pop_back : (W : Width) (κs : Lfts 5) (c : Passed (ListColumn (Offsets W))) (o : MutPassed (ListOutput (Offsets W))) (a : ListAnswer)
    → at W PopBack.Post κs (c.entry, (o.entry, tt)) a (c.exit, (o.exit, tt))
    → ListRuns (limits W) (numbers W) (unary U.PopBack (column_in (numbers W) c.entry)) a o
pop_back W κs c o a h = (list_run h.meets, h.same)

-- k is union or intersect, c and d are its two lists
pub set-lists : (W : Width) (κs : Lfts 6) (k k' : SetOp) (c d : Passed (ListColumn (Offsets W))) (o : MutPassed (ListOutput (Offsets W))) (a : ListAnswer)
    → at W Sets.Post κs (c.entry, (d.entry, (k, (o.entry, tt)))) a (c.exit, (d.exit, (k', (o.exit, tt))))
    → ListRuns (limits W) (numbers W) (set_op_call k (column_in (numbers W) c.entry) (column_in (numbers W) d.entry)) a o
set-lists W κs k k' c d o a h = (list_run h.meets, h.same)

-- z is the stride, if one is lent
pub slices : (W : Width) (κs : Lfts 8) (c : Passed (ListColumn (Offsets W))) (x y : Passed ValueColumn) (z : Passed (Option ValueColumn)) (o : MutPassed (ListOutput (Offsets W))) (a : ListAnswer)
    → at W Sliced.Post κs (c.entry, (x.entry, (y.entry, (z.entry, (o.entry, tt))))) a (c.exit, (x.exit, (y.exit, (z.exit, (o.exit, tt)))))
    → ListRuns (limits W) (numbers W) (slice (column_in (numbers W) c.entry) (values_in x.entry) (values_in y.entry) (lent_in z.entry)) a o
slices W κs c x y z o a h = (list_run h.meets, h.same)

-- y is the fill, if one is lent
pub resizes : (W : Width) (κs : Lfts 7) (c : Passed (ListColumn (Offsets W))) (x : Passed ValueColumn) (y : Passed (Option ValueColumn)) (o : MutPassed (ListOutput (Offsets W))) (a : ListAnswer)
    → at W Resize.Post κs (c.entry, (x.entry, (y.entry, (o.entry, tt)))) a (c.exit, (x.exit, (y.exit, (o.exit, tt))))
    → ListRuns (limits W) (numbers W) (resize (column_in (numbers W) c.entry) (values_in x.entry) (lent_in y.entry)) a o
resizes W κs c x y o a h = (list_run h.meets, h.same)

pub replaces : (W : Width) (κs : Lfts 8) (c : Passed (ListColumn (Offsets W))) (x y z : Passed ValueColumn) (o : MutPassed (ListOutput (Offsets W))) (a : ListAnswer)
    → at W Replace.Post κs (c.entry, (x.entry, (y.entry, (z.entry, (o.entry, tt))))) a (c.exit, (x.exit, (y.exit, (z.exit, (o.exit, tt)))))
    → ListRuns (limits W) (numbers W) (replace (column_in (numbers W) c.entry) (values_in x.entry) (values_in y.entry) (values_in z.entry)) a o
replaces W κs c x y z o a h = (list_run h.meets, h.same)

pub removes : (W : Width) (κs : Lfts 7) (c : Passed (ListColumn (Offsets W))) (x y : Passed ValueColumn) (o : MutPassed (ListOutput (Offsets W))) (a : ListAnswer)
    → at W Remove.Post κs (c.entry, (x.entry, (y.entry, (o.entry, tt)))) a (c.exit, (x.exit, (y.exit, (o.exit, tt))))
    → ListRuns (limits W) (numbers W) (remove (column_in (numbers W) c.entry) (values_in x.entry) (values_in y.entry)) a o
removes W κs c x y o a h = (list_run h.meets, h.same)

pub any_value_lem : (W : Width) (κs : Lfts 4) (c : Passed (ListColumn (Offsets W))) (o : MutPassed ValueOutput) (a : ValueAnswer)
    → at W AnyValue.Post κs (c.entry, (o.entry, tt)) a (c.exit, (o.exit, tt))
    → ValueRuns (limits W) (any_value (column_in (numbers W) c.entry)) a o
any_value_lem W κs c o a h = (any_value_run h.meets, h.same)

pub elements : (W : Width) (κs : Lfts 5) (c : Passed (ListColumn (Offsets W))) (x : Passed ValueColumn) (o : MutPassed ValueOutput) (a : ValueAnswer)
    → at W Element.Post κs (c.entry, (x.entry, (o.entry, tt))) a (c.exit, (x.exit, (o.exit, tt)))
    → ValueRuns (limits W) (element (column_in (numbers W) c.entry) (values_in x.entry)) a o
elements W κs c x o a h = (element_run h.meets, h.same)

-- b is the output's outer lists, o its inner lists
pub repeats : (W : Width) (κs : Lfts 8) (c : Passed (ListColumn (Offsets W))) (x : Passed ValueColumn) (b : MutPassed (OuterOutput (Offsets W))) (o : MutPassed (ListOutput (Offsets W))) (a : RepeatAnswer)
    → at W Repeat.Post κs (c.entry, (x.entry, (b.entry, (o.entry, tt)))) a (c.exit, (x.exit, (b.exit, (o.exit, tt))))
    → RepeatRuns (limits W) (numbers W) (list_repeat (column_in (numbers W) c.entry) (values_in x.entry)) a b o
repeats W κs c x b o a h = (repeat_run h.meets, h.outer, h.lists)

-- t is the tally that goes in, s the station, p the recipe, i what it reads, l and m the trays
pub run_recipe : (W : Width) (κs : Lfts 12) (t t' : Tally) (s s' : ℕ) (p : Passed Recipe) (i : Passed (Inputs (Offsets W))) (l m o : MutPassed (ListOutput (Offsets W))) (a : RecipeAnswer)
    → at W Recipes.Post κs (t, (s, (p.entry, (i.entry, (l.entry, (m.entry, (o.entry, tt))))))) a (t', (s', (p.exit, (i.exit, (l.exit, (m.exit, (o.exit, tt)))))))
    → RecipeRuns (limits W) (numbers W) s p.entry i.entry l m o t a
run_recipe W κs t t' s s' p i l m o a h = (recipe_run h.0.meets h.1.0.zeroed h.1.1.0.zeroed h.1.1.1, (h.1.0.same, h.1.1.0.same, h.0.same))
