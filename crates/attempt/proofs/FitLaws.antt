-- A recipe that is not malformed: each step is known and its columns are there.
use Prim.Native.Nat.{ℕ, zero, suc, ◌+◌, ◌-◌, ◌*◌, ◌/◌, ◌%◌, ◌<◌, ◌≤◌}
use mathlib.Core.Path.{◌≡◌, refl, sym, ap, ◌∙◌}
use mathlib.Core.Bool.{Bool, true, false, not, ◌||◌}
use mathlib.Core.List.{List}
use Rattle.std.specs.Prelude.{Option, Some, None}
use native.Mathlib.Omega.{arith}
use native.Mathlib.Nat.{mul-le-mul, add-mul, one-mul, zero-mul}
use borrow.Author.Tests.{leb-false, eqb-true}
use lib.Dec.{ltb, leb, eqb}
use lib.ListN.{length}
use Rattle.model.specs.Basics.{pick, tab, any}
use Rattle.model.specs.Recipe.{Step, step_at, steps_of, columns_of, wrong_number, wrong_step, malformed}
use Rattle.ops.specs.Ops.{takes_of}
use Rattle.ops.specs.declared.ListOp.{ListOp}
use Rattle.codes.specs.Codes.{operation_of, is_none, columns_taken}
use Rattle.codes.proofs.CheckLaws.{none_is, columns-taken}
use Rattle.one_list.specs.Uses.{Uses, LiesIn}
use Rattle.step.specs.Step.{op_uses, StepFits}
use Rattle.steps.specs.Steps.{Steps}
use Rattle.codes.specs.declared.Operation.{Operation}
use Rattle.codes.specs.declared.Operation.TheVariants as S
use Rattle.recipe_refusal.specs.Refused.{recipe}
use Rattle.model.proofs.BoolLaws.{never_true, or_none}

-- ---- a step

-- where argument columns of p rows are looked at from row a on, w rows of each, len values are left of them
below : (x k p w a len : ℕ) → x < k → a + w ≤ p → len ≡ k * p - a → x * p + w ≤ len
below x k p w a len h g e = let m : (x + 1) * p ≤ k * p = mul-le-mul (omega arith) (omega arith) in omega (arith, add-mul x 1 p, one-mul p)

within : (used : Bool) (k x p w a len : ℕ) → a + w ≤ p → len ≡ k * p - a → wrong_number k used x ≡ false → LiesIn used x p w len
unfolding wrong_number LiesIn
within true k x p w a len g e h = below x k p w a len (leb-false k x h) g e
within false k x p w a len g e h = zeroth (eqb x 0) refl h
  where
    zeroth : (t : Bool) → eqb x 0 ≡ t → not t ≡ false → x * p + 0 ≤ len
    zeroth true q r = rw (eqb-true x 0 q, zero-mul p) (omega arith)
    zeroth false q r = never_true r

module _ (k : ℕ) (s : Step) (p w a len : ℕ) (g : a + w ≤ p) (e : len ≡ k * p - a) (h : wrong_step k s ≡ false) where
  parts : (ltb 10 s.code ≡ false) × (wrong_number k (ltb 0 (columns_of s.code)) s.first ≡ false) × (wrong_number k (ltb 1 (columns_of s.code)) s.second ≡ false) × (wrong_number k (ltb 2 (columns_of s.code)) s.third ≡ false)
  unfolding wrong_step
  parts =
      let a = or_none _ _ h in
      let b = or_none _ _ a.0 in
      let c = or_none _ _ b.0 in
      (c.0, c.1, b.1, a.1)

  uses : (o : Option Operation) → operation_of s.code ≡ o → op_uses o s p w len
  unfolding op_uses columns_taken is_none
  uses (Some (S.Two op)) q = tt
  uses None q = never_true (ap is_none (sym q) ∙ none_is s.code ∙ parts.0)
  uses (Some (S.One op)) q =
      let t : columns_of s.code ≡ takes_of op = columns-taken s.code ∙ ap columns_taken q in
      record {
        first_in = rw (← t) (within (ltb 0 (columns_of s.code)) k s.first p w a len g e parts.1);
        second_in = rw (← t) (within (ltb 1 (columns_of s.code)) k s.second p w a len g e parts.2);
        third_in = rw (← t) (within (ltb 2 (columns_of s.code)) k s.third p w a len g e parts.3);
      }

  step_fits : StepFits s p w len
  step_fits = record { uses = uses (operation_of s.code) refl }

any_at : {A : Type 0} (p : A → Bool) (f : ℕ → A) (a n : ℕ) → any p (tab f a n) ≡ false → (j : ℕ) → j < n → p (f (a + j)) ≡ false
unfolding any tab
any_at p f a zero h j l = let z : ⊥ = omega arith in absurd z
any_at p f a (suc n) h zero l = let e : a + 0 ≡ a = omega arith in rw e (or_none (p (f a)) (any p (tab f (suc a) n)) h).0
any_at p f a (suc n) h (suc j) l = let e : a + suc j ≡ suc a + j = omega arith in rw e (any_at p f (suc a) n (or_none (p (f a)) (any p (tab f (suc a) n)) h).1 j (omega arith))

pub all_steps : (ns : List ℕ) (k p w a len : ℕ) → malformed (recipe ns k) ≡ false → a + w ≤ p → len ≡ k * p - a → (length ns / 4 ≡ 0 → ⊥) → Steps ns p w len 0 (length ns / 4)
unfolding malformed steps_of
all_steps ns k p w a len h g e z =
    let q = or_none (not (eqb (length ns % 4) 0) || ltb 32 (length ns / 4) || ltb 8 k) (any (wrong_step k) (tab (step_at ns) 0 (length ns / 4))) h in
    record {
      some = omega arith;
      there = omega arith;
      fit = λ j l. step_fits k (step_at ns (0 + j)) p w a len g e (any_at (wrong_step k) (step_at ns) 0 (length ns / 4) q.1 j l);
    }
