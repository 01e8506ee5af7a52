-- Laws of one step: the call that it makes, the columns that it uses, and the rows that it takes.
use Prim.Native.Nat.{ℕ, ◌+◌}
use mathlib.Core.Path.{◌≡◌, sym, ap, subst, ◌∙◌}
use native.Mathlib.Omega.{arith}
use mathlib.Core.List.{List, map}
use Rattle.std.specs.Prelude.{Option, Some, None}
use Rattle.std.proofs.lemmas.List.{take-map}
use borrow.Author.Tests.{eq-eqb, ne_eqb}
use lib.IntN.{ℤ}
use lib.ListN.{take}
use lib.Seq.{length-take-le}
use Rattle.model.specs.Bitmap.{from, bytes_for}
use Rattle.model.specs.Column.{Elem, Row, Column, column, row_count, rows_of}
use Rattle.model.specs.Answers.{ListAnswer}
use Rattle.model.specs.Limits.{Limits}
use Rattle.model.specs.Outcome.{after_three}
use Rattle.model.specs.Recipe.{Step, step_call}
use Rattle.model.specs.Recipe as recipe
use Rattle.model.specs.Rows.{set_op_call}
use Rattle.model.specs.declared.SetOp.{SetOp}
use Rattle.ops.specs.Ops.{call_of}
use Rattle.ops.specs.declared.ListOp.{ListOp}
use Rattle.codes.specs.Codes.{operations, operation_of}
use Rattle.one_list.specs.Uses.{Uses}
use Rattle.column.specs.Front.{front, AtFront}
use Rattle.column.specs.Outputs.{ListAnswers}
use Rattle.column.specs.declared.lists.ListOutput.{ListOutput}
use Rattle.step.specs.Step.{op_call, op_uses, rows_taken}
use Rattle.codes.specs.declared.Operation.{Operation}
use Rattle.codes.specs.declared.Operation.TheVariants as S
use Rattle.model.proofs.TabLaws.{get_d_map}

-- ---- the call of a step

pub call_is : (code : ℕ) (ws rs : List Row) (a b c : List Elem) → recipe.code_call code ws rs a b c ≡ op_call (operation_of code) ws rs a b c
unfolding recipe.code_call operation_of op_call call_of
call_is code ws rs a b c = get_d_map (λ o. op_call o ws rs a b c) (map Some operations) code None

module _ (s : Step) (ws rs : List Row) (col : ℕ → List Elem) where
  pub step-one : (op : ListOp) → operation_of s.code ≡ Some (S.One op) → step_call s ws rs col ≡ call_of op ws (col s.first) (col s.second) (col s.third)
  unfolding op_call
  step-one op h = call_is s.code ws rs _ _ _ ∙ rw h

  pub step-two : (op : SetOp) → operation_of s.code ≡ Some (S.Two op) → step_call s ws rs col ≡ set_op_call op ws rs
  unfolding op_call
  step-two op h = call_is s.code ws rs _ _ _ ∙ rw h

-- the columns that a step uses, by what it does
pub uses-one : (s : Step) (p n len : ℕ) (o : Option Operation) (op : ListOp) → o ≡ operation_of s.code → o ≡ Some (S.One op) → op_uses (operation_of s.code) s p n len → Uses op p n s.first s.second s.third len
unfolding op_uses
uses-one s p n len o op e q h = rw (← e, q) at h

pub uses-none : (s : Step) (p n len : ℕ) (o : Option Operation) → o ≡ operation_of s.code → o ≡ None → op_uses (operation_of s.code) s p n len → ⊥
unfolding op_uses
uses-none s p n len o e q h = rw (← e, q) at h

-- ---- the rows that a step takes

pub taken-first : (k : ℕ) (c t : Column) → k ≡ 0 → rows_taken k c t ≡ rows_of c
unfolding rows_taken
taken-first k c t e = rw (eq-eqb k 0 e)

pub taken-later : (k : ℕ) (c t : Column) → (k ≡ 0 → ⊥) → rows_taken k c t ≡ rows_of t
unfolding rows_taken
taken-later k c t h = rw (ne_eqb k 0 h)

-- a step on those rows, told of it as it stands in the recipe
pub step_told : {A : Type 0} (numbers : List A → List ℤ) (N : Limits) (rs : List Row) (col : ℕ → List Elem) (s t : Step) (ws vs : List Row) {x : ListAnswer} {o o' : ListOutput A}
    → s ≡ t → ws ≡ vs → ListAnswers numbers (after_three N (step_call s ws rs col)) x o o' → ListAnswers numbers (after_three N (step_call t vs rs col)) x o o'
step_told numbers N rs col s t ws vs {x} {o} {o'} e f h =
    subst (λ (y : Step). ListAnswers numbers (after_three N (step_call y vs rs col)) x o o') e
    (subst (λ (us : List Row). ListAnswers numbers (after_three N (step_call s us rs col)) x o o') f h)

-- ---- the front of a tray, of whose offsets so many are cut

pub numbers_front : {A : Type 0} (number : A → ℤ) (numbers : List A → List ℤ) → ((l : List A) → numbers l ≡ map number l) → (n : ℕ) (l : List A) → numbers (take n l) ≡ take n (numbers l)
numbers_front number numbers are n l = are (take n l) ∙ sym (take-map number n l) ∙ ap (λ (x : List ℤ). take n x) (sym (are l))

pub front_is : {o : List ℤ} (o' : List ℤ) (r : List ℕ) (v : List ℤ) (e : List ℕ) (n m nr ne : ℕ) → o ≡ take (n + 1) o' → nr ≡ bytes_for n → ne ≡ bytes_for m → column o (from 0 (take nr r)) (take m v) (from 0 (take ne e)) ≡ front o' r v e n m
front_is o' r v e n m nr ne p q t = rw (p, q, t)

-- it has n rows
pub front_rows : {n m : ℕ} {c : Column} {o : List ℤ} {r : List ℕ} {v : List ℤ} {e : List ℕ} → AtFront n m o r v e → c ≡ front o r v e n m → row_count c.offsets ≡ n
front_rows {n} {o = o} h q = let l = length-take-le (n + 1) o h.offsets in rw q (omega arith)
