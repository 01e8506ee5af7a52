-- Grades of rows slot by slot, and of what an answer counts at the front of an output.
use Prim.Native.Nat.{ℕ, ◌+◌, ◌-◌, ◌≤◌}
use mathlib.Core.Path.{◌≡◌, sym, ap, ◌∙◌}
use mathlib.Core.Bool.{true, false}
use mathlib.Core.List.{List, map}
use native.Mathlib.Omega.{arith}
use lib.IntN.{ℤ}
use lib.ListN.{length, take}
use lib.Seq.{length-take-le}
use Rattle.std.proofs.lemmas.List.{take-map}
use Rattle.model.specs.Basics.{tab}
use Rattle.model.specs.Bitmap.{Bits, from, bytes_for, valid_at}
use Rattle.model.specs.Column.{Elem, list_row, Column, column, row_at, rows_of, row_count}
use Rattle.model.specs.Form.{over}
use Rattle.model.specs.Grade.{grade_of, grades_of}
use Rattle.model.specs.Answers.{ListAnswer}
use Rattle.model.proofs.TabLaws.{map-tab}
use Rattle.column.specs.Front.{front}
use Rattle.column.specs.Rows.{row_from}
use Rattle.grade_rows.specs.Grades.{is_made, rows_in, elements_in, front_grades}

-- ---- one row

pub null_grade : (k : ℕ) (rb : Bits) (E : ℕ → Elem) (r a b : ℕ) → valid_at rb r ≡ false → 0 ≡ grade_of k (row_from rb E r a b)
unfolding grade_of row_from
null_grade k rb E r a b e = rw e

pub row_graded : (k : ℕ) (rb : Bits) (E : ℕ → Elem) (r a b : ℕ) {n : ℕ} → valid_at rb r ≡ true → n ≡ grade_of k (list_row (tab E a (b - a))) → n ≡ grade_of k (row_from rb E r a b)
unfolding row_from
row_graded k rb E r a b e h = rw e h

-- ---- all rows

pub rows-graded : (k : ℕ) (c : Column) → grades_of k (rows_of c) ≡ tab (λ r. grade_of k (row_at c r)) 0 (row_count c.offsets)
unfolding rows_of
rows-graded k c = map-tab (grade_of k) (row_at c) 0 (row_count c.offsets)

-- ---- the front of an output

pub numbers_front : {A : Type 0} (number : A → ℤ) (numbers : List A → List ℤ) → ((l : List A) → numbers l ≡ map number l) → (n : ℕ) (l : List A) → numbers (take n l) ≡ take n (numbers l)
numbers_front number numbers are n l = are (take n l) ∙ sym (take-map number n l) ∙ ap (λ (x : List ℤ). take n x) (sym (are l))

pub front_is : {o : List ℤ} (o' : List ℤ) (r : List ℕ) (v : List ℤ) (e : List ℕ) (n m nr ne : ℕ) → o ≡ take (n + 1) o' → nr ≡ bytes_for n → ne ≡ bytes_for m → column o (from 0 (take nr r)) (take m v) (from 0 (take ne e)) ≡ front o' r v e n m
front_is o' r v e n m nr ne p q t = rw (p, q, t)

-- it has n rows
pub front_rows : (n m : ℕ) (o : List ℤ) (r : List ℕ) (v : List ℤ) (e : List ℕ) → n + 1 ≤ length o → row_count (front o r v e n m).offsets ≡ n
front_rows n m o r v e h = omega (arith, length-take-le (n + 1) o h)

module _ (k : ℕ) (a : ListAnswer) (o : List ℤ) (r : List ℕ) (v : List ℤ) (e : List ℕ) (g : List ℕ) where
  pub none-graded : is_made a ≡ false → g ≡ over (front_grades k a o r v e) g
  unfolding front_grades
  none-graded h = rw h

  pub front-graded : {n m : ℕ} {g' : List ℕ} → is_made a ≡ true → n ≡ rows_in a → m ≡ elements_in a → g' ≡ over (grades_of k (rows_of (front o r v e n m))) g → g' ≡ over (front_grades k a o r v e) g
  unfolding front_grades
  front-graded h en em q = rw (h, ← en, ← em) q
