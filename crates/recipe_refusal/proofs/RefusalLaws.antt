-- Laws of what refuses a recipe before its steps, and of a recipe that nothing refuses.
use Prim.Native.Nat.{ℕ, ◌*◌, ◌/◌, ◌%◌, ◌<◌, ◌≤◌}
use mathlib.Core.Path.{◌≡◌, refl, sym, ◌∙◌}
use mathlib.Core.Bool.{Bool, true, false, not, ◌||◌}
use mathlib.Core.List.{List, [], ◌∷◌}
use native.Mathlib.Omega.{arith}
use borrow.Author.Tests.{eq-eqb, ne_eqb, eqb-true, eqb-false, ltb-false}
use lib.Dec.{eqb, ltb}
use lib.ListN.{length}
use Rattle.model.specs.Basics.{pick, any}
use Rattle.model.specs.Column.{Row, Column, Arguments, rows_of, shown_by, row_count, refusal13, refusal13ᵃ, refusal1, refusal2, refusal2ᵃ}
use Rattle.model.specs.Form.{Room}
use Rattle.model.specs.Limits.{Limits}
use Rattle.model.specs.Outcome.{Outcome, refused, gate, columns_refusal}
use Rattle.model.specs.Recipe.{Recipe, malformed, steps_of, wrong_step, recipe_unequal}
use Rattle.model.specs.Window.{no_window, on_copy, formed_window, window_outcome}
use Rattle.model.specs.Refusals.{or_else}
use Rattle.model.proofs.BoolLaws.{never_true, or_none, same_number}
use Rattle.model.proofs.ColumnLaws.{length-rows, length-shown}
use Rattle.model.proofs.OutcomeLaws.{thirteen_of_arguments, lists-next, arguments-next}
use Rattle.recipe_refusal.specs.Refused.{recipe, recipe_refusal}

-- ---- 10, 13, 1, 2 and 3

before : {A : Type 0} (k j : ℕ) (o : Outcome A) → gate k (gate j o) ≡ gate (or_else k j) o
unfolding gate
before k j o = cases (eqb k 0) refl
  where
    cases : (t : Bool) → eqb k 0 ≡ t → pick t (pick (eqb j 0) o (refused j)) (refused k) ≡ pick (eqb (pick t j k) 0) o (refused (pick t j k))
    cases true e = refl
    cases false e = rw e

ten : {A : Type 0} (x y : Outcome A) → gate 10 x ≡ gate 10 y
unfolding gate
ten x y = refl

none : {A : Type 0} (x : Outcome A) → gate 0 x ≡ x
unfolding gate
none x = refl

-- what refuses a recipe that is looked at for rows x up to y, and else what it comes to on the copy of these rows
pub window_is : (L : Limits) (p : Recipe) (x y : ℕ) (c d : Column) (e : Arguments) (a b o : Room)
    → window_outcome L p x y c d e a b o ≡ gate (or_else (recipe_refusal p c d e) (pick (no_window x y (length (rows_of c))) 16 0)) (on_copy L p x y (rows_of c) (rows_of d) (shown_by e) a b o)
unfolding window_outcome formed_window recipe_refusal
window_is L p x y c d e a b o = cases (malformed p) (columns_refusal (c ∷ d ∷ []) (e ∷ [])) (pick (recipe_unequal p.columns (rows_of c) (rows_of d) (shown_by e)) 3 0) (pick (no_window x y (length (rows_of c))) 16 0) (on_copy L p x y (rows_of c) (rows_of d) (shown_by e) a b o)
  where
    cases : (t : Bool) (k u w : ℕ) (q : Outcome (List Row)) → gate (pick t 10 0) (gate k (gate u (gate w q))) ≡ gate (or_else (pick t 10 (or_else k u)) w) q
    cases true k u w q = ten _ _
    cases false k u w q = none _ ∙ before k u _ ∙ before (or_else k u) w q

-- a number before another
or_this : (k j : ℕ) → (k ≡ 0 → ⊥) → or_else k j ≡ k
or_this k j h = rw (ne_eqb k 0 h)

module _ (ns : List ℕ) (k : ℕ) (c d : Column) (e : Arguments) where
  abbrev unequal : Bool
  unequal = recipe_unequal k (rows_of c) (rows_of d) (shown_by e)

  pub refused_ten : malformed (recipe ns k) ≡ true → 10 ≡ recipe_refusal (recipe ns k) c d e
  unfolding recipe_refusal
  refused_ten h = rw h

  module _ (h : malformed (recipe ns k) ≡ false) where
    pub refused_starts : ltb 7 e.bits.start ≡ true → 13 ≡ recipe_refusal (recipe ns k) c d e
    unfolding recipe_refusal any refusal13ᵃ
    refused_starts t = rw (h, thirteen_of_arguments (c ∷ d ∷ []) (e ∷ []) (rw t))

    module _ (t : ltb 7 e.bits.start ≡ false) where
      not_over : any refusal13ᵃ (e ∷ []) ≡ false
      unfolding any refusal13ᵃ
      not_over = rw t

      pub refused-lists : (j : ℕ) → j ≡ columns_refusal (c ∷ d ∷ []) [] → (j ≡ 0 → ⊥) → j ≡ recipe_refusal (recipe ns k) c d e
      unfolding recipe_refusal
      refused-lists j q z = rw (h, lists-next (c ∷ d ∷ []) (e ∷ []) not_over j q z) (sym (or_this j (pick unequal 3 0) z))

      module _ (z : columns_refusal (c ∷ d ∷ []) [] ≡ 0) where
        number_is : columns_refusal (c ∷ d ∷ []) (e ∷ []) ≡ pick (any refusal2ᵃ (e ∷ [])) 2 0
        number_is = arguments-next (c ∷ d ∷ []) (e ∷ []) not_over (columns_refusal (c ∷ d ∷ []) []) refl z

        pub refused-short : refusal2ᵃ e ≡ true → 2 ≡ recipe_refusal (recipe ns k) c d e
        unfolding recipe_refusal any
        refused-short s = rw (h, number_is, s)

        then_three : refusal2ᵃ e ≡ false → recipe_refusal (recipe ns k) c d e ≡ pick unequal 3 0
        unfolding recipe_refusal any
        then_three s = rw (h, number_is, s)

        module _ (s : refusal2ᵃ e ≡ false) where
          pub refused-rows : (row_count c.offsets ≡ row_count d.offsets → ⊥) → 3 ≡ recipe_refusal (recipe ns k) c d e
          unfolding recipe_unequal
          refused-rows n = sym (then_three s ∙ rw (length-rows c, length-rows d, ne_eqb (row_count c.offsets) (row_count d.offsets) n))

          pub refused-length : row_count c.offsets ≡ row_count d.offsets → (b : Bool) → b ≡ not (eqb (length e.values) (k * row_count c.offsets)) → recipe_refusal (recipe ns k) c d e ≡ pick b 3 0
          unfolding recipe_unequal
          refused-length n b q = then_three s ∙ rw (length-rows c, length-rows d, length-shown e, eq-eqb (row_count c.offsets) (row_count d.offsets) n, ← q)

-- ---- a recipe that is not malformed has no more than eight columns

third-none : (a b c d : Bool) → ((a || b) || c) || d ≡ false → c ≡ false
third-none true b c d h = never_true h
third-none false true c d h = never_true h
third-none false false true d h = never_true h
third-none false false false d h = refl

pub few_lent : (ns : List ℕ) (k : ℕ) → malformed (recipe ns k) ≡ false → k ≤ 8
unfolding malformed
few_lent ns k h = ltb-false 8 k (third-none (not (eqb (length ns % 4) 0)) (ltb 32 (length ns / 4)) (ltb 8 k) (any (wrong_step k) (steps_of ns)) h)

-- ---- nothing refuses

pub record Passed (ns : List ℕ) (k : ℕ) (c d : Column) (e : Arguments) : Type 0 where
  pub formed : malformed (recipe ns k) ≡ false
  pub lists : columns_refusal (c ∷ d ∷ []) [] ≡ 0
  pub small : e.bits.start < 8
  pub long : refusal2ᵃ e ≡ false
  pub equal : row_count d.offsets ≡ row_count c.offsets
  pub many : length e.values ≡ k * row_count c.offsets
  pub same : recipe_unequal k (rows_of c) (rows_of d) (shown_by e) ≡ false

pick-none : (b : Bool) (k n : ℕ) → 0 < k → pick b k n ≡ 0 → (b ≡ false) × (n ≡ 0)
pick-none true k n l h = let z : ⊥ = omega arith in absurd z
pick-none false k n l h = (refl, h)

pub or_else_none : (k j : ℕ) → or_else k j ≡ 0 → (k ≡ 0) × (j ≡ 0)
or_else_none k j h = cases (eqb k 0) refl h
  where
    cases : (t : Bool) → eqb k 0 ≡ t → pick t j k ≡ 0 → (k ≡ 0) × (j ≡ 0)
    cases true e p = (eqb-true k 0 e, p)
    cases false e p = absurd (eqb-false k 0 e p)

-- 13 and 2 of the lists and of the arguments
lists-none : (w v p q t : Bool) → ◌≡◌ {A = ℕ} (pick (w || (v || false)) 13 (pick p 1 (pick (q || (t || false)) 2 0))) 0 → (◌≡◌ {A = ℕ} (pick (w || false) 13 (pick p 1 (pick (q || false) 2 0))) 0) × (v ≡ false) × (t ≡ false)
lists-none true v p q t h = let z : ⊥ = omega arith in absurd z
lists-none false true p q t h = let z : ⊥ = omega arith in absurd z
lists-none false false true q t h = let z : ⊥ = omega arith in absurd z
lists-none false false false true t h = let z : ⊥ = omega arith in absurd z
lists-none false false false false true h = let z : ⊥ = omega arith in absurd z
lists-none false false false false false h = (refl, refl, refl)

module _ (ns : List ℕ) (k : ℕ) (c d : Column) (e : Arguments) where
  both_none : columns_refusal (c ∷ d ∷ []) (e ∷ []) ≡ 0 → (columns_refusal (c ∷ d ∷ []) [] ≡ 0) × (ltb 7 e.bits.start ≡ false) × (refusal2ᵃ e ≡ false)
  unfolding columns_refusal any refusal13ᵃ
  both_none h = lists-none (any refusal13 (c ∷ d ∷ [])) (ltb 7 e.bits.start) (any refusal1 (c ∷ d ∷ [])) (any refusal2 (c ∷ d ∷ [])) (refusal2ᵃ e) h

  equal-none : recipe_unequal k (rows_of c) (rows_of d) (shown_by e) ≡ false → (row_count c.offsets ≡ row_count d.offsets) × (length e.values ≡ k * row_count c.offsets)
  unfolding recipe_unequal
  equal-none h =
      let q = rw (length-rows c, length-rows d, length-shown e) at h in
      let p = or_none (not (eqb (row_count c.offsets) (row_count d.offsets))) (not (eqb (length e.values) (k * row_count c.offsets))) q in
      (same_number (row_count c.offsets) (row_count d.offsets) p.0, same_number (length e.values) (k * row_count c.offsets) p.1)

  pub passed : recipe_refusal (recipe ns k) c d e ≡ 0 → Passed ns k c d e
  unfolding recipe_refusal
  passed h =
      let a = pick-none (malformed (recipe ns k)) 10 (or_else (columns_refusal (c ∷ d ∷ []) (e ∷ [])) (pick (recipe_unequal k (rows_of c) (rows_of d) (shown_by e)) 3 0)) (omega arith) h in
      let b = or_else_none (columns_refusal (c ∷ d ∷ []) (e ∷ [])) (pick (recipe_unequal k (rows_of c) (rows_of d) (shown_by e)) 3 0) a.1 in
      let u = pick-none (recipe_unequal k (rows_of c) (rows_of d) (shown_by e)) 3 0 (omega arith) b.1 in
      let l = both_none b.0 in
      let q = equal-none u.0 in
      record { formed = a.0; lists = l.0; small = omega (arith, ltb-false 7 e.bits.start l.1); long = l.2; equal = sym q.0; many = q.1; same = u.0 }
