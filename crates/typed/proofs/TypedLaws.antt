-- An answer told through numbers, and what a typed entry returns by it.
use mathlib.Core.Path.{◌≡◌, refl, ap, ◌∙◌}
use Rattle.std.specs.Prelude.{Ok, Err}
use mathlib.Core.Bool.{Bool, true, false}
use mathlib.Core.List.{List, [], ◌∷◌}
use Prim.Native.Nat.{ℕ}
use lib.ListN.{replicate}
use lib.IntN.{ℤ}
use Rattle.model.specs.Basics.{pick, Lent, absent, given}
use Rattle.model.specs.Column.{Elem, Row}
use Rattle.model.specs.Form.{Outer, over}
use Rattle.model.specs.Outcome.{Outcome, refused, gate}
use Rattle.model.specs.Call.{list_counts, value_counts, repeat_counts, row_counts, written}
use Rattle.model.specs.Contract.{told, told_value, told_repeat, told_grade, ListMeets, ValueMeets, RepeatMeets, ViewMeets, GradeMeets, HashMeets}
use Rattle.model.specs.declared.Refusal.{Refusal}
use Rattle.model.specs.declared.ListCounts.{ListCounts}
use Rattle.model.specs.declared.RepeatCounts.{RepeatCounts}
use Rattle.model.specs.declared.ValueCounts.{ValueCounts}
use Rattle.model.specs.Answers.{number_of as refusal_number, GradeAnswer, ListAnswer, ValueAnswer, RepeatAnswer}
use Rattle.entry.specs.Entry.{number_of}
use Rattle.entry.specs.Inner.{number_in, counts_in}
use Rattle.entry.proofs.AnswerLaws.{number_of_lem, counts_of}
use Rattle.typed.specs.Typed.{served, Told, TypedList, TypedValues, TypedRepeat, TypedView, TypedGrades, TypedHash}

-- ---- an answer is told

pub list-refused : {a : ListAnswer} (k : Refusal) {c : List ℕ} → a ≡ Err k → Told (told a) (refusal_number k) c c
unfolding told number_in counts_in
list-refused k q = rw q (record { number = refl; counts = refl })

pub list-made : {a : ListAnswer} {k : ListCounts} {c c' : List ℕ} → a ≡ Ok k → c' ≡ over (k.rows ∷ k.elements ∷ k.null_rows ∷ k.null_elements ∷ []) c → Told (told a) 0 c c'
unfolding told number_in counts_in
list-made q h = rw q (record { number = refl; counts = h })

pub value_refused : {a : ValueAnswer} (k : Refusal) {c : List ℕ} → a ≡ Err k → Told (told_value a) (refusal_number k) c c
unfolding told_value number_in counts_in
value_refused k q = rw q (record { number = refl; counts = refl })

pub value_made_lem : {a : ValueAnswer} {k : ValueCounts} {c c' : List ℕ} → a ≡ Ok k → c' ≡ over (k.rows ∷ k.null_rows ∷ []) c → Told (told_value a) 0 c c'
unfolding told_value number_in counts_in
value_made_lem q h = rw q (record { number = refl; counts = h })

pub repeat_refused : {a : RepeatAnswer} (k : Refusal) {c : List ℕ} → a ≡ Err k → Told (told_repeat a) (refusal_number k) c c
unfolding told_repeat number_in counts_in
repeat_refused k q = rw q (record { number = refl; counts = refl })

pub repeat_made : {a : RepeatAnswer} {k : RepeatCounts} {c c' : List ℕ} → a ≡ Ok k → c' ≡ over (k.rows ∷ k.elements ∷ k.null_rows ∷ k.null_elements ∷ k.inner_rows ∷ k.null_inner_rows ∷ []) c → Told (told_repeat a) 0 c c'
unfolding told_repeat number_in counts_in
repeat_made q h = rw q (record { number = refl; counts = h })

pub grade_refused : {a : GradeAnswer} (k : Refusal) {c : List ℕ} → a ≡ Err k → Told (told_grade a) (refusal_number k) c c
unfolding told_grade number_in counts_in
grade_refused k q = rw q (record { number = refl; counts = refl })

pub grade_made : {a : GradeAnswer} {r : ℕ} {c c' : List ℕ} → a ≡ Ok r → c' ≡ over (r ∷ []) c → Told (told_grade a) 0 c c'
unfolding told_grade number_in counts_in
grade_made q h = rw q (record { number = refl; counts = h })

-- ---- what an entry comes to: f is what it serves by its code, l the lengths lent, b whether the counts are too short

module _ {A L : Type 0} (f : Lent (L → Outcome A)) (l : L) where
  pub no_such : (b : Bool) → f ≡ absent → served f b l ≡ refused 100
  unfolding served
  no_such b e = rw e

  pub too_short : (b : Bool) {g : L → Outcome A} → f ≡ given g → b ≡ true → served f b l ≡ refused 100
  unfolding served gate
  too_short b e t = rw (e, t)

  pub own : (b : Bool) {g : L → Outcome A} → f ≡ given g → b ≡ false → served f b l ≡ g l
  unfolding served gate
  own b e t = rw (e, t)

-- ---- a list answer: 100, or the operation's

pub list_unserved : {x : Outcome (List Row)} {o v : List ℤ} {r e c : List ℕ} → x ≡ refused 100 → TypedList x 100 o o r r v v e e c c
unfolding number_of written
list_unserved h = rw h (record { number = refl; offsets = refl; rows = refl; values = refl; elements = refl; counts = refl })

pub list-told : {n : ℕ} {x y : Outcome (List Row)} {a : ListAnswer} {o o' v v' : List ℤ} {r r' e e' c c' : List ℕ} → y ≡ x → ListMeets x a o o' r r' v v' e e' → Told (told a) n c c' → TypedList y n o o' r r' v v' e e' c c'
list-told {x = x} {c = c} h m t =
    rw h
    (record {
      number = t.number ∙ ap number_in m.answer ∙ number_of_lem list_counts x;
      offsets = m.offsets;
      rows = m.rows;
      values = m.values;
      elements = m.elements;
      counts = t.counts ∙ ap (λ w. over w c) (ap counts_in m.answer ∙ counts_of list_counts x);
    })

-- ---- the same with a work area: it is zero in both cases

pub hash_unserved : {x : Outcome (List Row)} {n : ℕ} {o v : List ℤ} {r e c w : List ℕ} → x ≡ refused 100 → w ≡ replicate n 0 → TypedHash x 100 n o o r r v v e e w c c
hash_unserved h z = record { list = list_unserved h; area = z }

pub hash_told : {n slots : ℕ} {x y : Outcome (List Row)} {a : ListAnswer} {o o' v v' : List ℤ} {r r' e e' c c' w : List ℕ} → y ≡ x → HashMeets x slots a o o' r r' v v' e e' w → Told (told a) n c c' → TypedHash y n slots o o' r r' v v' e e' w c c'
hash_told h m t = record { list = list-told h m.list t; area = m.area }

-- ---- a view's answer

pub view_unserved : {x : Outcome (List Row)} {o s v : List ℤ} {r e c : List ℕ} → x ≡ refused 100 → TypedView x 100 o o s s r r v v e e c c
unfolding number_of written
view_unserved h = rw h (record { number = refl; offsets = refl; sizes = refl; rows = refl; values = refl; elements = refl; counts = refl })

pub view-told : {n : ℕ} {x y : Outcome (List Row)} {a : ListAnswer} {o o' s s' v v' : List ℤ} {r r' e e' c c' : List ℕ} → y ≡ x → ViewMeets x a o o' s s' r r' v v' e e' → Told (told a) n c c' → TypedView y n o o' s s' r r' v v' e e' c c'
view-told {x = x} {c = c} h m t =
    rw h
    (record {
      number = t.number ∙ ap number_in m.answer ∙ number_of_lem list_counts x;
      offsets = m.offsets;
      sizes = m.sizes;
      rows = m.rows;
      values = m.values;
      elements = m.elements;
      counts = t.counts ∙ ap (λ w. over w c) (ap counts_in m.answer ∙ counts_of list_counts x);
    })

-- ---- a value answer

pub value_unserved : {x : Outcome (List Elem)} {v : List ℤ} {r c : List ℕ} → x ≡ refused 100 → TypedValues x 100 v v r r c c
unfolding number_of written
value_unserved h = rw h (record { number = refl; values = refl; rows = refl; counts = refl })

pub value_told : {n : ℕ} {x y : Outcome (List Elem)} {a : ValueAnswer} {v v' : List ℤ} {r r' c c' : List ℕ} → y ≡ x → ValueMeets x a v v' r r' → Told (told_value a) n c c' → TypedValues y n v v' r r' c c'
value_told {x = x} {c = c} h m t =
    rw h
    (record {
      number = t.number ∙ ap number_in m.answer ∙ number_of_lem value_counts x;
      values = m.values;
      rows = m.rows;
      counts = t.counts ∙ ap (λ w. over w c) (ap counts_in m.answer ∙ counts_of value_counts x);
    })

-- ---- list-repeat's

pub repeat_unserved : {x : Outcome (List Outer)} {o io v : List ℤ} {r ir e c : List ℕ} → x ≡ refused 100 → TypedRepeat x 100 o o r r io io ir ir v v e e c c
unfolding number_of written
repeat_unserved h =
    rw h (record { number = refl; offsets = refl; rows = refl; inner-offsets = refl; inner-rows = refl; values = refl; elements = refl; counts = refl })

pub repeat_told : {n : ℕ} {x y : Outcome (List Outer)} {a : RepeatAnswer} {o o' io io' v v' : List ℤ} {r r' ir ir' e e' c c' : List ℕ} → y ≡ x → RepeatMeets x a o o' r r' io io' ir ir' v v' e e' → Told (told_repeat a) n c c' → TypedRepeat y n o o' r r' io io' ir ir' v v' e e' c c'
repeat_told {x = x} {c = c} h m t =
    rw h
    (record {
      number = t.number ∙ ap number_in m.answer ∙ number_of_lem repeat_counts x;
      offsets = m.offsets;
      rows = m.rows;
      inner-offsets = m.inner-offsets;
      inner-rows = m.inner-rows;
      values = m.values;
      elements = m.elements;
      counts = t.counts ∙ ap (λ w. over w c) (ap counts_in m.answer ∙ counts_of repeat_counts x);
    })

-- ---- a graded column's

pub grade_unserved : (k : ℕ) {x : Outcome (List Row)} {g c : List ℕ} → x ≡ refused 100 → TypedGrades k x 100 g g c c
unfolding number_of written
grade_unserved k h = rw h (record { number = refl; grades = refl; counts = refl })

pub grade_told : {k n : ℕ} {x y : Outcome (List Row)} {a : GradeAnswer} {g g' c c' : List ℕ} → y ≡ x → GradeMeets k x a g g' → Told (told_grade a) n c c' → TypedGrades k y n g g' c c'
grade_told {x = x} {c = c} h m t =
    rw h
    (record {
      number = t.number ∙ ap number_in m.answer ∙ number_of_lem row_counts x;
      grades = m.grades;
      counts = t.counts ∙ ap (λ w. over w c) (ap counts_in m.answer ∙ counts_of row_counts x);
    })
