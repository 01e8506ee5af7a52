-- Laws of what resize makes of a row.
use mathlib.Core.List.{List, ◌∷◌, ◌++◌, append-nil}
use mathlib.Core.Path.{◌≡◌, refl, ap}
use Prim.Native.Nat.{ℕ, zero, suc, ◌-◌, ◌≤◌}
use native.Mathlib.Omega.{arith}
use lib.ListN.{length, take, replicate, length-append, length-take, length-replicate}
use Rattle.model.proofs.TabLaws.{length-tab}
use Rattle.model.specs.Basics.{tab}
use Rattle.model.specs.Column.{Elem}
use Rattle.model.specs.Elements.{resized}

pub length-resized : (k : ℕ) (f : Elem) (es : List Elem) → length (resized k f es) ≡ k
unfolding resized
length-resized k f es = omega (arith, length-append (take k es) (replicate (k - length es) f), length-take k es, length-replicate (k - length es) f)

take-tab : (E : ℕ → Elem) (a n k : ℕ) → k ≤ n → take k (tab E a n) ≡ tab E a k
unfolding tab
take-tab E a n zero h = refl
take-tab E a zero (suc k) h = let z : ⊥ = omega arith in absurd z
take-tab E a (suc n) (suc k) h = ap (λ (l : List Elem). E a ∷ l) (take-tab E (suc a) n k (omega arith))

take_all : (E : ℕ → Elem) (a n k : ℕ) → n ≤ k → take k (tab E a n) ≡ tab E a n
unfolding tab
take_all E a zero zero h = refl
take_all E a zero (suc k) h = refl
take_all E a (suc n) zero h = let z : ⊥ = omega arith in absurd z
take_all E a (suc n) (suc k) h = ap (λ (l : List Elem). E a ∷ l) (take_all E (suc a) n k (omega arith))

module _ (f : Elem) (E : ℕ → Elem) (a n k : ℕ) where
  -- the row is cut
  pub resized-cut : k ≤ n → resized k f (tab E a n) ≡ tab E a k
  unfolding resized
  resized-cut h =
      let e : k - n ≡ 0 = omega arith in
      rw (length-tab E a n, e, take-tab E a n k h) (append-nil (tab E a k))

  -- the row is filled up
  pub resized_filled : n ≤ k → resized k f (tab E a n) ≡ tab E a n ++ replicate (k - n) f
  unfolding resized
  resized_filled h = rw (length-tab E a n, take_all E a n k h)
