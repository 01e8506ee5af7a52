-- "Unseen bytes change no grade." Gradings are calls of the one claim: what the contracts of `grade_column` and `grade_recipe`
-- say of a call makes it a run, of which `demand_3` (Runs.antt) is the claim, `same_grades` its case for the grades of two columns, and `sums_grow` the
-- claim over many calls; and the typed entries tell what the call ends in.
use Prim.Native.Nat.{ℕ}
use mathlib.Core.Path.{◌≡◌, refl, ap}
use mathlib.Core.List.{List}
use lib.ListN.{length}
use contract.Lifetimes.{Lfts}
use Rattle.model.specs.Basics.{none, more}
use Rattle.model.specs.Column.{Row, Column, rows_of, WellFormed, EqualRows}
use Rattle.model.specs.Contract.{Slice, MutSlice}
use Rattle.model.specs.Form.{Room}
use Rattle.model.specs.Grade.{graded, grade_outcome}
use Rattle.model.specs.Limits.{narrow}
use Rattle.model.specs.Outcome.{Outcome, refused, made}
use Rattle.model.specs.Recipe.{recipe_outcome, stationed}
use Rattle.model.specs.Call.{grade_column, grade_recipe, End, Formed, alike_grade_column, end, grade_end, graded_end, recipe_end, trays_end, list_end, answer_of, written, lists_of, arguments_of, views_of}
use Rattle.model.specs.Run.{Run, grade_column_run, grade_recipe_run}
use Rattle.model.specs.Answers.{GradeAnswer}
use Rattle.grades.proofs.grade_column.Reads as GradeColumn
use Rattle.grades.proofs.grade_recipe.Reads as GradeRecipe
use Rattle.duthlan.proofs.grade.duthlan_typed_grade.Reads as TypedGrade
use Rattle.duthlan.proofs.grade.duthlan_typed_grade_recipe.Reads as TypedRecipe
use Rattle.recipe_refusal.specs.Refused.{recipe}
use Rattle.tally.specs.declared.RecipeAnswer.{RecipeAnswer}
use Rattle.tally.specs.declared.Tally.{Tally}
use Rattle.entry.specs.Entry.{number_of}
use Rattle.entry.specs.Inner.{number_in, counts_in}
use Rattle.typed.specs.Typed.{TypedGrades}
use Rattle.typed.specs.Tallies.{tally_at}
use Rattle.claims.specs.Slots.{Slices, LentList, LentValues, list_lent, values_lent, slices_room, entry4, exit4, entry6, exit6, entry3, exit3}
use Rattle.claims.specs.Columns.{Passed, MutPassed, itself, GradeRuns, GradedRuns}
use Rattle.column.specs.Columns.{column_in}
use Rattle.column.specs.declared.lists.ListColumn.{ListColumn}
use Rattle.column.specs.declared.lists.ListOutput.{ListOutput}
use Rattle.recipe_refusal.specs.declared.Inputs.{Inputs}
use Rattle.recipe_refusal.specs.declared.Recipe as D
use lib.IntN.{ℤ}
use Rattle.claims.specs.Numbers.{GradeTyped, GradedTyped, tally_over}
use Rattle.claims.proofs.Runs.{demand_3}
use Rattle.claims.proofs.Typed.{long, was_served, list-served, Same, same, SameAnswer, same_answer}

-- k is what is graded by, c the list, g the grades, a the answer
pub grades : (κs : Lfts 2) (k k' : ℕ) (c : Passed (ListColumn ℤ)) (g : MutSlice ℕ) (a : GradeAnswer)
    → GradeColumn.Post κs (k, (c.entry, (g.entry, tt))) a (k', (c.exit, (g.exit, tt))) → GradeRuns k (column_in itself c.entry) a g
grades κs k k' c g a h = grade_column_run h

-- t is the tally that goes in, s the station, p the recipe, i what it reads, l and m the trays, o the output
pub graded_recipes : (κs : Lfts 12) (t t' : Tally) (k k' s s' : ℕ) (p : Passed D.Recipe) (i : Passed (Inputs ℤ)) (l m o : MutPassed (ListOutput ℤ)) (g : MutSlice ℕ) (a : RecipeAnswer)
    → GradeRecipe.Post κs (t, (k, (s, (p.entry, (i.entry, (l.entry, (m.entry, (o.entry, (g.entry, tt))))))))) a (t', (k', (s', (p.exit, (i.exit, (l.exit, (m.exit, (o.exit, (g.exit, tt)))))))))
    → GradedRuns k s p.entry i.entry l m o g t a
graded_recipes κs t t' k k' s s' p i l m o g a h = (grade_recipe_run h.0.meets h.1.0.zeroed h.1.1.0.zeroed h.1.1.1.0 h.1.1.1.1, (h.1.0.same, h.1.1.0.same, h.0.same))

-- "Unseen bytes change no grade": two gradings of columns that show equal rows, by one k into as many places, write the same grades
pub same_grades : (k g : ℕ) {c d : Column} {e e' : End} → Run narrow (grade_column k c g) e → Run narrow (grade_column k d g) e' → WellFormed c → WellFormed d → EqualRows c d → e.grades ≡ e'.grades
unfolding lists_of arguments_of views_of
same_grades k g {c} {d} r r' w w' q = ap (λ (x : End). x.grades) (demand_3 narrow r r' (formed c w) (formed d w') (alike_grade_column k g q)).shares
  where
    formed : (c : Column) → WellFormed c → Formed (grade_column k c g)
    formed c w = record { lists = more w none; arguments = none; views = none }

-- ---- the typed entries: n is the number returned, cs are the counts, u is the tally

grade_typed : (k : ℕ) (x : Outcome (List Row)) {n : ℕ} (g c : MutSlice ℕ) → TypedGrades k x n g.entry.now g.exit.now c.entry.now c.exit.now → GradeTyped (grade_end k x) n g c
unfolding grade_end answer_of written number_of number_in counts_in
grade_typed k (refused j) g c h = record { answer = record { number = h.number; counts = h.counts }; grades = h.grades }
grade_typed k (made ws) g c h = record { answer = record { number = h.number; counts = h.counts }; grades = h.grades }

pub typed_grade : (κs : Lfts 3) (k k' : ℕ) (c : LentList) (g cs : MutSlice ℕ) (n : ℕ)
    → TypedGrade.Post κs (k, entry6 c (g.entry, (cs.entry, tt))) n (k', exit6 c (g.exit, (cs.exit, tt)))
    → (n ≡ 100 → ⊥) → GradeTyped (end narrow (grade_column k (list_lent c) (length g.entry.now))) n g cs
unfolding end
typed_grade κs k k' c g cs n h s = grade_typed k _ g cs (rw (was_served (grade_outcome k (list_lent c)) (length g.entry.now) s _ h.number) at h)

pub typed_recipe : (κs : Lfts 5) (k k' t t' j j' : ℕ) (ns : Slice ℕ) (c d : LentList) (x : LentValues) (l m o : Slices) (g cs u : MutSlice ℕ) (n : ℕ)
    → TypedRecipe.Post κs (k, (t, (ns.entry, (j, entry6 c (entry6 d (entry3 x (entry4 l (entry4 m (entry4 o (g.entry, (cs.entry, (u.entry, tt))))))))))))
    n (k', (t', (ns.exit, (j', exit6 c (exit6 d (exit3 x (exit4 l (exit4 m (exit4 o (g.exit, (cs.exit, (u.exit, tt))))))))))))
    → (n ≡ 100 → ⊥)
    → GradedTyped (end narrow (grade_recipe k t (recipe ns.entry.now j) (list_lent c) (list_lent d) (values_lent x) (slices_room l) (slices_room m) (slices_room o) (length g.entry.now) (tally_at u.entry.now))) n l m o g cs u
unfolding end graded_end recipe_end trays_end list_end tally_over
typed_recipe κs k k' t t' j j' ns c d x l m o g cs u n h s =
    let f : Room → Outcome (List Row) = λ r. graded k (rows_of (list_lent c)) (length g.entry.now) (stationed t (recipe_outcome narrow (recipe ns.entry.now j) (list_lent c) (list_lent d) (values_lent x) (slices_room l) (slices_room m) r)) in
    let a = list-served s _ o cs f refl h.0.list in
    record {
      recipe = record {
        answer = record { answer = record { number = a.answer.number; counts = a.answer.counts }; offsets = a.offsets; rows = a.rows; values = a.values; elements = a.elements };
        one = h.1.0;
        two = h.1.1;
        tally = rw (long f (slices_room o) s _ h.0.list.number) at h.0.tally;
      };
      grades = (rw (was_served f (slices_room o) s _ h.0.list.number) at h.0.grades).grades;
    }

-- two alike calls, which end in one thing x, returned one number, counted alike and wrote the same grades; of a recipe `same_list` and `same_recipe`
-- (Typed.antt) say the rest
pub same_grade : (x : End) {n n' : ℕ} (g g' c c' : MutSlice ℕ) → GradeTyped x n g c → GradeTyped x n' g' c' → SameAnswer x n n' c c' × Same x.grades g g'
same_grade x g g' c c' h k = (same_answer x c c' h.answer k.answer, same x.grades g g' h.grades k.grades)

pub same_graded : (x : End) {n n' : ℕ} {l l' m m' o o' : Slices} (g g' : MutSlice ℕ) {c c' t t' : MutSlice ℕ} → GradedTyped x n l m o g c t → GradedTyped x n' l' m' o' g' c' t' → Same x.grades g g'
same_graded x g g' h k = same x.grades g g' h.grades k.grades
