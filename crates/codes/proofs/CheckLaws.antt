-- Laws of what makes a recipe malformed.
use Rattle.std.specs.Prelude.{Some, None, map}
use Prim.Native.Nat.{ℕ, zero, suc, ◌+◌, ◌-◌, ◌<◌, ◌≤◌}
use mathlib.Core.Path.{◌≡◌, refl, sym, ap, ◌∙◌}
use mathlib.Core.Bool.{Bool, true, false, ◌||◌}
use mathlib.Core.List.{List, [], ◌∷◌, ◌++◌}
use native.Mathlib.Omega.{arith}
use Rattle.model.specs.Basics.{tab, any}
use Rattle.model.specs.Recipe.{Step, columns_of, wrong_number, wrong_step}
use borrow.Author.Tests.{ltb-true, ltb-false}
use lib.Dec.{ltb}
use Rattle.model.proofs.TabLaws.{get_d_map, tab_split}
use Rattle.ops.specs.Ops.{table}
use Rattle.codes.specs.declared.Operation.{Operation}
use Rattle.codes.specs.Codes.{operations, operation_of, is_none, columns_taken}

-- a code that names no operation is over 10, and one that does takes the columns that a recipe's step uses
after_ten : {A : Type 0} (f : ℕ → A) (x : A) (c : ℕ) → ((n : ℕ) → f (suc (suc (suc (suc (suc (suc (suc (suc (suc (suc (suc n))))))))))) ≡ x) → 10 < c → f c ≡ x
after_ten f x c g h = let e : c ≡ suc (suc (suc (suc (suc (suc (suc (suc (suc (suc (suc (c - 11))))))))))) = omega arith in rw e (g (c - 11))

pub none_late : (c : ℕ) → 10 < c → None ≡ operation_of c
unfolding operation_of
none_late c h = sym (after_ten operation_of None c (λ n. refl) h)

pub none_rest : (c : ℕ) → (c ≡ 0 → ⊥) → (c ≡ 1 → ⊥) → (c ≡ 2 → ⊥) → (c ≡ 3 → ⊥) → (c ≡ 4 → ⊥) → (c ≡ 5 → ⊥) → (c ≡ 6 → ⊥) → (c ≡ 7 → ⊥) → (c ≡ 8 → ⊥) → (c ≡ 9 → ⊥) → (c ≡ 10 → ⊥) → None ≡ operation_of c
unfolding operation_of
none_rest zero h0 h1 h2 h3 h4 h5 h6 h7 h8 h9 h10 = absurd (h0 refl)
none_rest (suc zero) h0 h1 h2 h3 h4 h5 h6 h7 h8 h9 h10 = absurd (h1 refl)
none_rest (suc (suc zero)) h0 h1 h2 h3 h4 h5 h6 h7 h8 h9 h10 = absurd (h2 refl)
none_rest (suc (suc (suc zero))) h0 h1 h2 h3 h4 h5 h6 h7 h8 h9 h10 = absurd (h3 refl)
none_rest (suc (suc (suc (suc zero)))) h0 h1 h2 h3 h4 h5 h6 h7 h8 h9 h10 = absurd (h4 refl)
none_rest (suc (suc (suc (suc (suc zero))))) h0 h1 h2 h3 h4 h5 h6 h7 h8 h9 h10 = absurd (h5 refl)
none_rest (suc (suc (suc (suc (suc (suc zero)))))) h0 h1 h2 h3 h4 h5 h6 h7 h8 h9 h10 = absurd (h6 refl)
none_rest (suc (suc (suc (suc (suc (suc (suc zero))))))) h0 h1 h2 h3 h4 h5 h6 h7 h8 h9 h10 = absurd (h7 refl)
none_rest (suc (suc (suc (suc (suc (suc (suc (suc zero)))))))) h0 h1 h2 h3 h4 h5 h6 h7 h8 h9 h10 = absurd (h8 refl)
none_rest (suc (suc (suc (suc (suc (suc (suc (suc (suc zero))))))))) h0 h1 h2 h3 h4 h5 h6 h7 h8 h9 h10 = absurd (h9 refl)
none_rest (suc (suc (suc (suc (suc (suc (suc (suc (suc (suc zero)))))))))) h0 h1 h2 h3 h4 h5 h6 h7 h8 h9 h10 = absurd (h10 refl)
none_rest (suc (suc (suc (suc (suc (suc (suc (suc (suc (suc (suc n))))))))))) h0 h1 h2 h3 h4 h5 h6 h7 h8 h9 h10 = refl

pub none_is : (c : ℕ) → is_none (operation_of c) ≡ ltb 10 c
unfolding operation_of is_none
none_is c = cases (ltb 10 c) refl
  where
    few : (c : ℕ) → c ≤ 10 → is_none (operation_of c) ≡ false
    few zero h = refl
    few (suc zero) h = refl
    few (suc (suc zero)) h = refl
    few (suc (suc (suc zero))) h = refl
    few (suc (suc (suc (suc zero)))) h = refl
    few (suc (suc (suc (suc (suc zero))))) h = refl
    few (suc (suc (suc (suc (suc (suc zero)))))) h = refl
    few (suc (suc (suc (suc (suc (suc (suc zero))))))) h = refl
    few (suc (suc (suc (suc (suc (suc (suc (suc zero)))))))) h = refl
    few (suc (suc (suc (suc (suc (suc (suc (suc (suc zero))))))))) h = refl
    few (suc (suc (suc (suc (suc (suc (suc (suc (suc (suc zero)))))))))) h = refl
    few (suc (suc (suc (suc (suc (suc (suc (suc (suc (suc (suc n))))))))))) h = let z : ⊥ = omega arith in absurd z

    cases : (t : Bool) → ltb 10 c ≡ t → is_none (operation_of c) ≡ t
    cases true e = ap is_none (sym (none_late c (ltb-true 10 c e)))
    cases false e = few c (ltb-false 10 c e)

pub columns-taken : (c : ℕ) → columns_of c ≡ columns_taken (operation_of c)
unfolding columns_of operation_of columns_taken table
columns-taken c = get_d_map columns_taken (map Some operations) c None

-- a step is wrong if its code names no operation, and otherwise if one of its numbers is
pub wrong_at_none : (columns : ℕ) (s : Step) → None ≡ operation_of s.code → true ≡ wrong_step columns s
unfolding wrong_step is_none
wrong_at_none columns s e = let n : ltb 10 s.code ≡ true = sym (none_is s.code) ∙ ap is_none (sym e) in rw n

module _ (columns : ℕ) (s : Step) (k : ℕ) (o : Operation) (named : Some o ≡ operation_of s.code) (taken : k ≡ columns_taken (Some o)) where
  wrong_at_some : wrong_step columns s ≡ (wrong_number columns (ltb 0 k) s.first || wrong_number columns (ltb 1 k) s.second || wrong_number columns (ltb 2 k) s.third)
  unfolding wrong_step is_none
  wrong_at_some =
      let n : ltb 10 s.code ≡ false = sym (none_is s.code) ∙ ap is_none (sym named) in
      let m : columns_of s.code ≡ k = columns-taken s.code ∙ ap columns_taken (sym named) ∙ sym taken in
      rw (n, m)

  pub wrong_first : (r : Bool) → r ≡ wrong_number columns (ltb 0 k) s.first → r ≡ true → true ≡ wrong_step columns s
  wrong_first r h e = rw (wrong_at_some, ← h, e)

  pub wrong_second : (r t : Bool) → r ≡ wrong_number columns (ltb 0 k) s.first → r ≡ false → t ≡ wrong_number columns (ltb 1 k) s.second → t ≡ true → true ≡ wrong_step columns s
  wrong_second r t h e i f = rw (wrong_at_some, ← h, e, ← i, f)

  pub wrong_third : (r t u : Bool) → r ≡ wrong_number columns (ltb 0 k) s.first → r ≡ false → t ≡ wrong_number columns (ltb 1 k) s.second → t ≡ false → u ≡ wrong_number columns (ltb 2 k) s.third → u ≡ wrong_step columns s
  wrong_third r t u h e i f j = rw (wrong_at_some, ← h, e, ← i, f) j

-- one of the first elements of a table
module _ {A : Type 0} (p : A → Bool) (f : ℕ → A) where
  or_step : (b r s t : Bool) → r ≡ (s || t) → (b || r) ≡ ((b || s) || t)
  or_step true r s t e = refl
  or_step false r s t e = e

  pub any_append : (xs ys : List A) → any p (xs ++ ys) ≡ (any p xs || any p ys)
  unfolding any
  any_append [] ys = refl
  any_append (x ∷ xs) ys = or_step (p x) _ _ _ (any_append xs ys)

  any_first : (j k n : ℕ) → j ≡ k → p (f k) ≡ true → any p (tab f j (suc n)) ≡ true
  unfolding any tab
  any_first j k n z e = rw (z, e)

  any_alone : (j k : ℕ) → j ≡ k → p (f k) ≡ false → any p (tab f j 1) ≡ false
  unfolding any tab
  any_alone j k z e = rw (z, e)

  pub any_more : (k : ℕ) → any p (tab f 0 k) ≡ false → p (f k) ≡ false → any p (tab f 0 (k + 1)) ≡ false
  any_more k h e = rw (tab_split f 0 k 1, any_append (tab f 0 k) (tab f (0 + k) 1), h) (any_alone (0 + k) k (omega arith) e)

  pub any_found : (k n : ℕ) → any p (tab f 0 k) ≡ false → k < n → p (f k) ≡ true → any p (tab f 0 n) ≡ true
  any_found k n h lt e =
      let s : k + suc (n - k - 1) ≡ n = omega arith in
      rw (← s, tab_split f 0 k (suc (n - k - 1)), any_append (tab f 0 k) (tab f (0 + k) (suc (n - k - 1))), h) (any_first (0 + k) k (n - k - 1) (omega arith) e)

  pub any_zero : any p (tab f 0 0) ≡ false
  unfolding any tab
  any_zero = refl
