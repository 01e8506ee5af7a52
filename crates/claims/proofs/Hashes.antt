-- Distinct, union and intersect with a work area. What the contracts of `general_array_distinct_hashed` and
-- `generic_set_lists_hashed` say of a call makes it a run, of which `demand_3` (Runs.antt) is the claim; the typed entries tell what the call
-- ends in; and `hashed_as_plain`: "Except for 14, their answers and outputs equal the plain ones on every input".
use Prim.Native.Nat.{ℕ}
use mathlib.Core.Path.{◌≡◌, refl, sym, ap, ◌∙◌}
use mathlib.Core.Bool.{false}
use mathlib.Core.List.{List}
use lib.ListN.{length}
use contract.Lifetimes.{Lfts}
use Rattle.model.specs.Basics.{Lent, given}
use Rattle.model.specs.Column.{Row, Column, rows_of}
use Rattle.model.specs.Form.{Room}
use Rattle.model.specs.Limits.{Limits, narrow}
use Rattle.model.specs.Hash.{Hashed, distinct_of, plain_of, on_hashed, short_area, hashed_outcome}
use Rattle.model.specs.Hash as H
use Rattle.model.specs.Outcome.{Outcome}
use Rattle.model.specs.Rows.{on_lent}
use Rattle.model.specs.Call.{list, hashed, End, end, hashed_end, list_end}
use Rattle.model.specs.Contract.{MutSlice}
use Rattle.model.specs.Run.{Run, hashed_run}
use Rattle.model.specs.Answers.{ListAnswer}
use Rattle.model.specs.declared.SetOp.{SetOp}
use Rattle.model.proofs.HashLaws.{ends_as_plain}
use Rattle.model.proofs.RunLaws.{run_ends}
use Rattle.entry_codes.specs.Calls.{set_of, hashed_call}
use Rattle.typed.specs.Typed.{HashServed}
use Rattle.hashed_lists.proofs.set_ops.general_array_distinct_hashed.Reads as Distinct
use Rattle.hashed_lists.proofs.set_ops.generic_set_lists_hashed.Reads as Sets
use Rattle.duthlan.proofs.hash.duthlan_typed_distinct_hashed.Reads as TypedDistinct
use Rattle.duthlan.proofs.hash.duthlan_typed_lists_hashed.Reads as TypedSets
use Rattle.claims.specs.Slots.{Slices, LentList, list_lent, slices_room, entry4, exit4, entry6, exit6}
use Rattle.claims.specs.Columns.{Passed, MutPassed, itself, HashRuns}
use Rattle.column.specs.Columns.{column_in}
use Rattle.column.specs.declared.lists.ListColumn.{ListColumn}
use Rattle.column.specs.declared.lists.ListOutput.{ListOutput}
use lib.IntN.{ℤ}
use Rattle.claims.specs.Numbers.{HashTyped}
use Rattle.claims.proofs.Typed.{list-served}

-- c and d are the lists, o the output, w the work area, a the answer
pub distinct-hashed : (κs : Lfts 5) (c : Passed (ListColumn ℤ)) (o : MutPassed (ListOutput ℤ)) (w : MutSlice ℕ) (a : ListAnswer)
    → Distinct.Post κs (c.entry, (o.entry, (w.entry, tt))) a (c.exit, (o.exit, (w.exit, tt))) → HashRuns (distinct_of (column_in itself c.entry)) a o w
distinct-hashed κs c o w a h = (hashed_run h.meets, h.same)

pub sets_hashed : (κs : Lfts 5) (k k' : SetOp) (c d : Passed (ListColumn ℤ)) (o : MutPassed (ListOutput ℤ)) (w : MutSlice ℕ) (a : ListAnswer)
    → Sets.Post κs (c.entry, (d.entry, (k, (o.entry, (w.entry, tt))))) a (c.exit, (d.exit, (k', (o.exit, (w.exit, tt)))))
    → HashRuns (H.set_of k (column_in itself c.entry) (column_in itself d.entry)) a o w
sets_hashed κs k k' c d o w a h = (hashed_run h.meets, h.same)

-- a run with enough slots, and one of the plain operation: one answer, and the same written results
pub hashed_as_plain : (L : Limits) {h : Hashed Column} {n : ℕ} {l : Room} {e e' : End} → Run L (hashed h n l) e → Run L (list (plain_of h) l) e' → short_area n (on_hashed rows_of h) ≡ false → (e.answer ≡ e'.answer) × ((e.numbers ≡ e'.numbers) × (e.bitmaps ≡ e'.bitmaps))
hashed_as_plain L {h} {n} {l} r r' s =
    let p = run_ends L r ∙ ends_as_plain L n l h s in
    let q = sym (run_ends L r') in
    (ap (λ (x : End). x.answer) p ∙ ap (λ (x : End). x.answer) q, (ap (λ (x : End). x.numbers) p ∙ ap (λ (x : End). x.numbers) q, ap (λ (x : End). x.bitmaps) p ∙ ap (λ (x : End). x.bitmaps) q))

-- ---- the typed entries: n is the number returned, cs are the counts

hash_typed : (h : Hashed Column) {n : ℕ} (s : n ≡ 100 → ⊥) (o : Slices) (w cs : MutSlice ℕ) (F : ℕ → Lent (Room → Outcome (List Row))) → F (length w.entry.now) ≡ given (hashed_outcome narrow h (length w.entry.now))
    → HashServed F n o.offsets o.rows o.values o.elements w cs
    → HashTyped (end narrow (hashed h (length w.entry.now) (slices_room o))) n o w cs
unfolding end hashed_end list_end
hash_typed h s o w cs F e t =
    let a = list-served s _ o cs (hashed_outcome narrow h (length w.entry.now)) e t.list in
    record {
      list = record { answer = record { number = a.answer.number; counts = a.answer.counts }; offsets = a.offsets; rows = a.rows; values = a.values; elements = a.elements };
      area = ap given (sym t.area);
    }

pub typed_distinct-hashed : (κs : Lfts 4) (c : LentList) (o : Slices) (w cs : MutSlice ℕ) (n : ℕ)
    → TypedDistinct.Post κs (entry6 c (entry4 o (w.entry, (cs.entry, tt)))) n (exit6 c (exit4 o (w.exit, (cs.exit, tt))))
    → (n ≡ 100 → ⊥) → HashTyped (end narrow (hashed (distinct_of (list_lent c)) (length w.entry.now) (slices_room o))) n o w cs
typed_distinct-hashed κs c o w cs n h s = hash_typed (distinct_of (list_lent c)) s o w cs (λ m. given (hashed_outcome narrow (distinct_of (list_lent c)) m)) refl h

-- k is the operation that the code names
pub typed_sets_hashed : (κs : Lfts 4) (op op' : ℕ) (c d : LentList) (o : Slices) (w cs : MutSlice ℕ) (n : ℕ) (k : SetOp)
    → TypedSets.Post κs (op, entry6 c (entry6 d (entry4 o (w.entry, (cs.entry, tt))))) n (op', exit6 c (exit6 d (exit4 o (w.exit, (cs.exit, tt)))))
    → (n ≡ 100 → ⊥) → set_of op ≡ given k → HashTyped (end narrow (hashed (H.set_of k (list_lent c) (list_lent d)) (length w.entry.now) (slices_room o))) n o w cs
unfolding hashed_call on_lent
typed_sets_hashed κs op op' c d o w cs n k h s e = hash_typed (H.set_of k (list_lent c) (list_lent d)) s o w cs (hashed_call op (list_lent c) (list_lent d)) (rw e) h
