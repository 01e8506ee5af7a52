-- From the tests of a grading, and what a measure or a recipe's run promises, to what a contract says of the call.
use Prim.Native.Nat.{ℕ, ◌-◌, ◌≤◌, ◌<◌}
use mathlib.Core.Path.{◌≡◌, refl, sym, ap, ◌∙◌}
use mathlib.Core.Bool.{Bool, true, false}
use mathlib.Core.List.{List, [], ◌∷◌, map}
use native.Mathlib.Omega.{arith}
use borrow.Author.Tests.{eqb-true, eqb-false, ltb-false, ne_eqb}
use lib.Dec.{eqb, ltb}
use lib.IntN.{ℤ}
use lib.ListN.{length}
use Rattle.model.specs.Asked.{asked_values}
use Rattle.model.specs.Basics.{pick}
use Rattle.model.specs.Call.{answer_of, written, list_counts, row_counts}
use Rattle.model.specs.Column.{Row, Column, rows_of}
use Rattle.model.specs.Contract.{told, told_grade, value_room, ListMeets, GradeMeets, Grades}
use Rattle.model.specs.Form.{ValueRoom, flat, over}
use Rattle.model.specs.Grade.{grades_of, grade_refusal, graded, grade_outcome, graded_move}
use Rattle.model.specs.Lengths.{room_of_values, any_value_lengths_shown, any_value_lengths}
use Rattle.model.specs.Outcome.{Outcome, refused, made, gate, columns_refusal}
use Rattle.model.specs.Recipe.{stationed}
use Rattle.model.specs.Rows.{any_value_of}
use Rattle.model.specs.Tally.{Tally, nobody, moved, move_of, named, tallied}
use Rattle.std.specs.Prelude.{Result, Ok, Err}
use Rattle.model.specs.Answers.{number_of, refused_by, ListAnswer, ValueLengths}
use Rattle.model.specs.declared.Refusal.{Refusal}
use Rattle.model.specs.declared.ValueSlots.{ValueSlots}
use Rattle.checks.proofs.RefusedLaws.{number_positive}
use Rattle.model.proofs.BoolLaws.{never, never_true}
use Rattle.model.proofs.ColumnLaws.{length-rows}
use Rattle.model.proofs.OutcomeLaws.{gate_open, gate_shut}
use Rattle.model.proofs.Stations.{station_over}
use Rattle.model.proofs.TabLaws.{length-map}
use Rattle.column.proofs.RoundLaws.{at-front-over, rows-over}
use Rattle.grade_rows.specs.Grades.{early_of, answered, is_made, rows_in, elements_in, refusal_in, rows_measured, Counted, front_grades}
use Rattle.grades.proofs.LengthLaws.{opened}

-- ---- 12 and 9

-- of any list, also of a malformed one: its rows are its offsets less one
pub early_is : (k : ℕ) (c : Column) (g : ℕ) {early : ℕ} → early ≡ early_of k (length c.offsets - 1) g → early ≡ grade_refusal k (rows_of c) g
unfolding early_of grade_refusal
early_is k c g e = e ∙ ap (λ n. pick (eqb k 0) 12 (pick (ltb g n) 9 0)) (sym (length-rows c))

pub none_early : (k : ℕ) (ws : List Row) (g : ℕ) → grade_refusal k ws g ≡ 0 → (0 < k) × (length ws ≤ g)
unfolding grade_refusal
none_early k ws g h = go (eqb k 0) (ltb g (length ws)) refl refl h
  where
    go : (b d : Bool) → eqb k 0 ≡ b → ltb g (length ws) ≡ d → ◌≡◌ {A = ℕ} (pick b 12 (pick d 9 0)) 0 → (0 < k) × (length ws ≤ g)
    go true d e f q = let z : ⊥ = omega arith in absurd z
    go false true e f q = let z : ⊥ = omega arith in absurd z
    go false false e f q = let n = eqb-false k 0 e in (positive k n, ltb-false g (length ws) f)
      where
        positive : (k : ℕ) → (k ≡ 0 → ⊥) → 0 < k
        positive k n = omega (arith, n)

-- ---- a column

module _ (a : ValueLengths) (c : Column) (h : asked_values a ≡ any_value_lengths c) where
  pub column-refusal : refusal_in a ≡ columns_refusal (c ∷ []) []
  unfolding asked_values any_value_lengths any_value_lengths_shown gate refusal_in
  column-refusal = go a (eqb (columns_refusal (c ∷ []) []) 0) refl h
    where
      go : (a : ValueLengths) (b : Bool) → eqb (columns_refusal (c ∷ []) []) 0 ≡ b → asked_values a ≡ pick b (any_value_lengths_shown (rows_of c)) (refused (columns_refusal (c ∷ []) [])) → refusal_in a ≡ columns_refusal (c ∷ []) []
      go (Ok l) true e q = sym (eqb-true _ 0 e)
      go (Ok l) false e q = never cc
      go (Err k) true e q = never cc
      go (Err k) false e q = cc

  pub column-rows : refusal_in a ≡ 0 → rows_measured a ≡ length (rows_of c)
  unfolding asked_values any_value_lengths any_value_lengths_shown rows_measured refusal_in
  column-rows z = go a (h ∙ gate_open _ _ (sym column-refusal ∙ z))
    where
      go : (a : ValueLengths) → asked_values a ≡ any_value_lengths_shown (rows_of c) → rows_measured a ≡ length (rows_of c)
      go (Ok l) q = let e : value_room l.values l.rows ≡ room_of_values (map any_value_of (rows_of c)) = cc in ap (λ (x : ValueRoom). x.values) e ∙ length-map any_value_of (rows_of c)
      go (Err k) q = never cc

pub column-refused : (c : Column) (k : Refusal) → asked_values (Err k) ≡ any_value_lengths c → number_of k ≡ columns_refusal (c ∷ []) []
unfolding refusal_in
column-refused c k h = column-refusal (Err k) c h

pub column-passed : (c : Column) (l : ValueSlots) → asked_values (Ok l) ≡ any_value_lengths c → (0 ≡ columns_refusal (c ∷ []) []) × (l.values ≡ length (rows_of c))
unfolding refusal_in rows_measured
column-passed c l h = (column-refusal (Ok l) c h, column-rows (Ok l) c h refl)

module _ (k : ℕ) (c : Column) (g : ℕ) where
  pub grade_early : {gs : List ℕ} (j : Refusal) → number_of j ≡ grade_refusal k (rows_of c) g → GradeMeets k (grade_outcome k c g) (Err j) gs gs
  unfolding grade_outcome graded told_grade answer_of written
  grade_early j e = rw (← e, gate_shut (number_of j) _ (number_positive j)) (record { answer = refl; grades = refl })

  module _ (e : 0 ≡ grade_refusal k (rows_of c) g) where
    pub grade_refused : {gs : List ℕ} (j : Refusal) → number_of j ≡ columns_refusal (c ∷ []) [] → GradeMeets k (grade_outcome k c g) (Err j) gs gs
    unfolding grade_outcome graded told_grade answer_of written
    grade_refused j f = rw (gate_open _ _ (sym e), ← f, gate_shut (number_of j) _ (number_positive j)) (record { answer = refl; grades = refl })

    pub grade_made : {m : ℕ} {gs gs' : List ℕ} → 0 ≡ columns_refusal (c ∷ []) [] → m ≡ length (rows_of c) → gs' ≡ over (grades_of k (rows_of c)) gs → GradeMeets k (grade_outcome k c g) (Ok m) gs gs'
    unfolding grade_outcome graded told_grade answer_of written
    grade_made f l q = rw (gate_open _ _ (sym e), gate_open _ _ (sym f), l) (record { answer = refl; grades = q })

-- ---- a recipe: ws are the first list's rows, x is what the recipe comes to without its station, s' the station that it was run for

module _ (k : ℕ) (ws : List Row) (g s : ℕ) (x : Outcome (List Row)) (early : Result (Unit {0}) Refusal) (e : refused_by early ≡ grade_refusal k ws g) where
  module _ {o o' v v' : List ℤ} {r r' q q' : List ℕ} where
    pub graded_meets : {s' : ℕ} {a a' : ListAnswer} → s' ≡ pick (eqb (refused_by early) 0) s 16 → a' ≡ answered early a → ListMeets (stationed s' x) a o o' r r' v v' q q' → ListMeets (graded k ws g (stationed s x)) a' o o' r r' v v' q q'
    unfolding graded answered told answer_of written
    graded_meets {a = a} d w m = rw w (go early e (rw d at m))
      where
        go : (early : Result (Unit {0}) Refusal) → refused_by early ≡ grade_refusal k ws g → ListMeets (stationed (pick (eqb (refused_by early) 0) s 16) x) a o o' r r' v v' q q' → ListMeets (gate (grade_refusal k ws g) (stationed s x)) (answered early a) o o' r r' v v' q q'
        go (Ok u) e m = rw (gate_open (grade_refusal k ws g) (stationed s x) (sym e)) m
        go (Err j) e m =
            let w = rw (ne_eqb (number_of j) 0 (number_positive j), station_over 16 x (omega arith)) at m in
            rw (← e, gate_shut (number_of j) (stationed s x) (number_positive j)) (record { answer = refl; offsets = w.offsets; rows = w.rows; values = w.values; elements = w.elements })

  pub graded-tally : (t : Tally) {s' : ℕ} {t' : Tally} → s' ≡ pick (eqb (refused_by early) 0) s 16 → t' ≡ tallied s' (stationed s' x) t → t' ≡ moved (graded_move k ws g (move_of s (stationed s x))) t
  unfolding graded_move move_of named moved
  graded-tally t {t' = t'} d m = rw (← e) (go (eqb (refused_by early) 0) (rw d at m))
    where
      go : (b : Bool) → t' ≡ tallied (pick b s 16) (stationed (pick b s 16) x) t → t' ≡ moved (pick b (move_of s (stationed s x)) nobody) t
      go true m = m
      go false m = m

-- ---- what the output holds

module _ {o o' v v' : List ℤ} {r r' q q' : List ℕ} (k : ℕ) where
  -- y is what the call comes to
  pub counted : (y : Outcome (List Row)) (a : ListAnswer) (g : ℕ) → ListMeets y a o o' r r' v v' q q' → ((vs : List Row) → y ≡ made vs → (0 < k) × (length vs ≤ g)) → Counted k a o' r' v' q' g
  unfolding told answer_of written is_made rows_in elements_in
  counted (refused j) (Err i) g h f = record { positive = λ t. never_true (sym t); front = λ t. never_true (sym t); room = λ t. never_true (sym t) }
  counted (refused j) (Ok i) g h f = let z = h.answer in never cc
  counted (made vs) (Err i) g h f = let z = h.answer in never cc
  counted (made vs) (Ok i) g h f =
      let z = h.answer in
      let n = i.rows in
      let m = i.elements in
      let en : n ≡ length vs = cc in
      let em : m ≡ length (flat vs) = cc in
      let w = f vs refl in
      record {
        positive = λ t. w.0;
        front = λ t. rw (h.offsets, h.rows, h.values, h.elements) (at-front-over vs o r v q n m en em);
        room = λ t. omega (arith, w.1);
      }

  pub graded-front : (y : Outcome (List Row)) (a : ListAnswer) {gs gs' : List ℕ} → ListMeets y a o o' r r' v v' q q' → gs' ≡ over (front_grades k a o' r' v' q') gs → Grades k y gs gs'
  unfolding told answer_of written is_made rows_in elements_in front_grades
  graded-front (refused j) (Err i) h w = record { grades = w }
  graded-front (refused j) (Ok i) h w = let z = h.answer in never cc
  graded-front (made vs) (Err i) h w = let z = h.answer in never cc
  graded-front (made vs) (Ok i) {gs} h w =
      let z = h.answer in
      let n = i.rows in
      let m = i.elements in
      let en : n ≡ length vs = cc in
      let em : m ≡ length (flat vs) = cc in
      record { grades = (rw (h.offsets, h.rows, h.values, h.elements) at w) ∙ ap (λ (us : List Row). over (grades_of k us) gs) (rows-over vs o r v q n m en em) }

-- a call that made rows has a place for the grade of each, where they are as many as the first list's
pub has_places : (k : ℕ) (ws : List Row) (g : ℕ) (x : Outcome (List Row)) → ((vs : List Row) → x ≡ made vs → length vs ≡ length ws) → (vs : List Row) → graded k ws g x ≡ made vs → (0 < k) × (length vs ≤ g)
unfolding graded
has_places k ws g x f vs h =
    let p = opened (grade_refusal k ws g) x vs h in
    let n = none_early k ws g (eqb-true _ 0 p.0) in
    let l = f vs p.1 in
    (n.0, omega (arith, n.1))
