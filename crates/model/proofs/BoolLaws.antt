-- Laws of truth values, and what follows from what cannot be.
use Prim.Native.Nat.{ℕ}
use mathlib.Core.Path.{◌≡◌, refl, sym}
use mathlib.Core.Bool.{Bool, true, false, not, ◌&&◌, ◌||◌}
use native.Mathlib.Omega.{arith}
use borrow.Author.Tests.{eqb-true}
use lib.Dec.{eqb}

pub never : {A : Type 0} → ◌≡◌ {A = ℕ} 0 1 → A
never e = let z : ⊥ = omega arith in absurd z

pub never_true : {A : Type 0} → ◌≡◌ {A = Bool} true false → A
never_true e = never cc

pub or_none : (a b : Bool) → a || b ≡ false → (a ≡ false) × (b ≡ false)
or_none true b h = never_true h
or_none false b h = (refl, h)

pub and_true : (a b : Bool) → a && b ≡ true → (a ≡ true) × (b ≡ true)
and_true true b h = (refl, h)
and_true false b h = never_true (sym h)

pub same_number : (a b : ℕ) → not (eqb a b) ≡ false → a ≡ b
same_number a b q = go (eqb a b) refl q
  where
    go : (t : Bool) → eqb a b ≡ t → not t ≡ false → a ≡ b
    go true e p = eqb-true a b e
    go false e p = never_true p
