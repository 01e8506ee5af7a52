-- "Import and export give list answers, and demand 3 covers them." What the contracts of `import_view` and `export_view`
-- say of a call makes it a run, of which `demand_3` (Runs.antt) is the claim; and the typed entries tell what the call ends in.
use Prim.Native.Nat.{ℕ}
use mathlib.Core.Path.{◌≡◌, refl}
use mathlib.Core.List.{List}
use contract.Lifetimes.{Lfts}
use Rattle.model.specs.Column.{Row}
use Rattle.model.specs.Limits.{narrow}
use Rattle.model.specs.Outcome.{Outcome, refused, made}
use Rattle.model.specs.Call.{import_view, export_view, end, view_end, list_bitmaps, answer_of, written}
use Rattle.model.specs.Contract.{MutSlice}
use Rattle.model.specs.Run.{import_run, export_run}
use Rattle.model.specs.View.{import_outcome, export_outcome}
use Rattle.model.specs.Answers.{ListAnswer}
use Rattle.views.proofs.import_view.Reads as Import
use Rattle.views.proofs.export_view.Reads as Export
use Rattle.duthlan.proofs.view.duthlan_typed_import_view.Reads as TypedImport
use Rattle.duthlan.proofs.view.duthlan_typed_export_view.Reads as TypedExport
use Rattle.entry.specs.Entry.{number_of}
use Rattle.entry.specs.Inner.{number_in, counts_in}
use Rattle.typed.specs.Typed.{TypedView}
use Rattle.claims.specs.Slots.{Slices, ViewSlices, LentList, LentView, list_lent, view_lent, slices_room, view_slices_room, entry4, exit4, entry5, exit5, entry6, exit6, entry7, exit7}
use Rattle.claims.specs.Columns.{Passed, MutPassed, itself, ImportRuns, ExportRuns}
use Rattle.column.specs.Columns.{column_in}
use Rattle.column.specs.declared.lists.ListColumn.{ListColumn}
use Rattle.column.specs.declared.lists.ListOutput.{ListOutput}
use Rattle.view_checks.specs.Views.{view_in}
use Rattle.view_checks.specs.declared.ViewColumn.{ViewColumn}
use Rattle.view_checks.specs.declared.ViewOutput.{ViewOutput}
use lib.IntN.{ℤ}
use Rattle.claims.specs.Numbers.{ListTyped, ViewTyped}
use Rattle.claims.proofs.Typed.{was_served, list-served}

-- c is the view, or the list, o the output, a the answer
pub imports : (κs : Lfts 4) (c : Passed ViewColumn) (o : MutPassed (ListOutput ℤ)) (a : ListAnswer)
    → Import.Post κs (c.entry, (o.entry, tt)) a (c.exit, (o.exit, tt)) → ImportRuns (view_in c.entry) a o
imports κs c o a h = (import_run h.meets, h.same)

pub exports : (κs : Lfts 4) (c : Passed (ListColumn ℤ)) (o : MutPassed ViewOutput) (a : ListAnswer)
    → Export.Post κs (c.entry, (o.entry, tt)) a (c.exit, (o.exit, tt)) → ExportRuns (column_in itself c.entry) a o
exports κs c o a h = (export_run h.meets, h.same)

-- ---- the typed entries: n is the number returned, cs are the counts

view_typed : (x : Outcome (List Row)) {n : ℕ} (o : ViewSlices) (c : MutSlice ℕ)
    → TypedView x n o.offsets.entry.now o.offsets.exit.now o.sizes.entry.now o.sizes.exit.now o.rows.entry.now o.rows.exit.now o.values.entry.now o.values.exit.now o.elements.entry.now o.elements.exit.now c.entry.now c.exit.now
    → ViewTyped (view_end x) n o c
unfolding view_end list_bitmaps answer_of written number_of number_in counts_in
view_typed (refused k) o c h = record {
  answer = record { number = h.number; counts = h.counts };
  offsets = h.offsets;
  sizes = h.sizes;
  rows = h.rows;
  values = h.values;
  elements = h.elements;
}
view_typed (made ws) o c h = record {
  answer = record { number = h.number; counts = h.counts };
  offsets = h.offsets;
  sizes = h.sizes;
  rows = h.rows;
  values = h.values;
  elements = h.elements;
}

pub typed_import : (κs : Lfts 3) (c : LentView) (o : Slices) (cs : MutSlice ℕ) (n : ℕ)
    → TypedImport.Post κs (entry7 c (entry4 o (cs.entry, tt))) n (exit7 c (exit4 o (cs.exit, tt)))
    → (n ≡ 100 → ⊥) → ListTyped (end narrow (import_view (view_lent c) (slices_room o))) n o cs
unfolding end
typed_import κs c o cs n h s = list-served s _ o cs (import_outcome narrow (view_lent c)) refl h

pub typed_export : (κs : Lfts 3) (c : LentList) (o : ViewSlices) (cs : MutSlice ℕ) (n : ℕ)
    → TypedExport.Post κs (entry6 c (entry5 o (cs.entry, tt))) n (exit6 c (exit5 o (cs.exit, tt)))
    → (n ≡ 100 → ⊥) → ViewTyped (end narrow (export_view (list_lent c) (view_slices_room o))) n o cs
unfolding end
typed_export κs c o cs n h s = view_typed _ o cs (rw (was_served (export_outcome (list_lent c)) (view_slices_room o) s _ h.number) at h)
