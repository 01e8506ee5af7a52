-- Laws of refusals 13, 1 and 2 of two lists.
use mathlib.Core.Path.{◌≡◌, refl}
use mathlib.Core.Bool.{Bool, true, false, ◌||◌}
use mathlib.Core.List.{[], ◌∷◌}
use Prim.Native.Nat.{ℕ}
use native.Mathlib.Omega.{arith}
use Rattle.model.specs.Basics.{pick, any}
use Rattle.model.specs.Column.{Column, refusal13, refusal1, refusal2}
use Rattle.model.specs.Outcome.{columns_refusal}
use Rattle.set_checks.specs.Earlier.{earlier}

-- 13, 1 and 2 of one list and of two
abbrev one : Bool → Bool → Bool → ℕ
one w x y = pick ((w || false) || false) 13 (pick (x || false) 1 (pick ((y || false) || false) 2 0))

abbrev both : Bool → Bool → Bool → Bool → Bool → Bool → ℕ
both w x y w' x' y' = pick ((w || (w' || false)) || false) 13 (pick (x || (x' || false)) 1 (pick ((y || (y' || false)) || false) 2 0))

first_of : (w x y w' x' y' : Bool) → earlier (one w x y) (one w' x' y') ≡ both w x y w' x' y'
first_of true x y w' x' y' = refl
first_of false true y true x' y' = refl
first_of false true y false true y' = refl
first_of false true y false false true = refl
first_of false true y false false false = refl
first_of false false true true x' y' = refl
first_of false false true false true y' = refl
first_of false false true false false true = refl
first_of false false true false false false = refl
first_of false false false true x' y' = refl
first_of false false false false true y' = refl
first_of false false false false false true = refl
first_of false false false false false false = refl

none_both : (w x y w' x' y' : Bool) → both w x y w' x' y' ≡ 0 → (one w x y ≡ 0) × (one w' x' y' ≡ 0)
none_both true x y w' x' y' e = let n : ⊥ = omega arith in absurd n
none_both false x y true x' y' e = let n : ⊥ = omega arith in absurd n
none_both false true y false x' y' e = let n : ⊥ = omega arith in absurd n
none_both false false y false true y' e = let n : ⊥ = omega arith in absurd n
none_both false false true false false y' e = let n : ⊥ = omega arith in absurd n
none_both false false false false false true e = let n : ⊥ = omega arith in absurd n
none_both false false false false false false e = (refl, refl)

module _ (c d : Column) where
  pub of_both : earlier (columns_refusal (c ∷ []) []) (columns_refusal (d ∷ []) []) ≡ columns_refusal (c ∷ d ∷ []) []
  unfolding columns_refusal any
  of_both = first_of (refusal13 c) (refusal1 c) (refusal2 c) (refusal13 d) (refusal1 d) (refusal2 d)

  pub both_formed : columns_refusal (c ∷ d ∷ []) [] ≡ 0 → (columns_refusal (c ∷ []) [] ≡ 0) × (columns_refusal (d ∷ []) [] ≡ 0)
  unfolding columns_refusal any
  both_formed = none_both (refusal13 c) (refusal1 c) (refusal2 c) (refusal13 d) (refusal1 d) (refusal2 d)
