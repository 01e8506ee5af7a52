-- A recipe's result "for rows a up to, not including, b". What the contract of `run_window` says of a call makes it a run,
-- of which `demand_3` (Runs.antt) is the claim; and the typed entry tells what the call ends in.
use Prim.Native.Nat.{ℕ}
use mathlib.Core.Path.{◌≡◌, refl}
use mathlib.Core.List.{List}
use contract.Lifetimes.{Lfts}
use Rattle.model.specs.Column.{Row}
use Rattle.model.specs.Form.{Room}
use Rattle.model.specs.Limits.{narrow}
use Rattle.model.specs.Outcome.{Outcome}
use Rattle.model.specs.Call.{window, end, window_end, trays_end, list_end}
use Rattle.model.specs.Contract.{Slice, MutSlice}
use Rattle.model.specs.Run.{window_run}
use Rattle.model.specs.Window.{window_outcome}
use Rattle.model.specs.Answers.{ListAnswer}
use Rattle.recipe_refusal.specs.Refused.{recipe}
use Rattle.windows.proofs.run_window.Reads as Window
use Rattle.duthlan.proofs.windowed.duthlan_typed_recipe_rows.Reads as TypedWindow
use Rattle.claims.specs.Slots.{Slices, LentList, LentValues, list_lent, values_lent, slices_room, entry4, exit4, entry6, exit6, entry3, exit3}
use Rattle.claims.specs.Columns.{Width, Offsets, limits, numbers, at, Passed, MutPassed, WindowRuns}
use Rattle.column.specs.declared.lists.ListOutput.{ListOutput}
use Rattle.recipe_refusal.specs.declared.Inputs.{Inputs}
use Rattle.recipe_refusal.specs.declared.Recipe.{Recipe}
use Rattle.claims.specs.Numbers.{WindowTyped}
use Rattle.claims.proofs.Typed.{list-served}

-- at any width W: a and b are the rows, p the recipe, i what it reads, l and m the trays, w the answer
pub run_window : (W : Width) (κs : Lfts 12) (a a' b b' : ℕ) (p : Passed Recipe) (i : Passed (Inputs (Offsets W))) (l m o : MutPassed (ListOutput (Offsets W))) (w : ListAnswer)
    → at W Window.Post κs (a, (b, (p.entry, (i.entry, (l.entry, (m.entry, (o.entry, tt))))))) w (a', (b', (p.exit, (i.exit, (l.exit, (m.exit, (o.exit, tt)))))))
    → WindowRuns (limits W) (numbers W) p.entry a b i.entry l m o w
run_window W κs a a' b b' p i l m o w h = (window_run h.0.meets h.1.0.zeroed h.1.1.zeroed, (h.1.0.same, h.1.1.same, h.0.same))

-- the typed entry: n is the number returned, cs are the counts
pub typed_window : (κs : Lfts 3) (a a' b b' : ℕ) (ns : Slice ℕ) (k k' : ℕ) (c d : LentList) (x : LentValues) (l m o : Slices) (cs : MutSlice ℕ) (n : ℕ)
    → TypedWindow.Post κs (a, (b, (ns.entry, (k, entry6 c (entry6 d (entry3 x (entry4 l (entry4 m (entry4 o (cs.entry, tt))))))))))
    n (a', (b', (ns.exit, (k', exit6 c (exit6 d (exit3 x (exit4 l (exit4 m (exit4 o (cs.exit, tt))))))))))
    → (n ≡ 100 → ⊥) → WindowTyped (end narrow (window (recipe ns.entry.now k) a b (list_lent c) (list_lent d) (values_lent x) (slices_room l) (slices_room m) (slices_room o))) n l m o cs
unfolding end window_end trays_end list_end
typed_window κs a a' b b' ns k k' c d x l m o cs n h s =
    let f : Room → Outcome (List Row) = λ r. window_outcome narrow (recipe ns.entry.now k) a b (list_lent c) (list_lent d) (values_lent x) (slices_room l) (slices_room m) r in
    let q = list-served s _ o cs f refl h.0 in
    record {
      answer = record { answer = record { number = q.answer.number; counts = q.answer.counts }; offsets = q.offsets; rows = q.rows; values = q.values; elements = q.elements };
      one = h.1.0;
      two = h.1.1;
    }
