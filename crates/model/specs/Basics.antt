-- Choice by a test, tables, and tests over a list. Nothing here speaks of lists and columns.
use Rattle.std.specs.Prelude.{ℕ, zero, suc, Bool, true, false, ◌||◌, List, [], ◌∷◌}

abbrev pub pick : {A : Type 0} → Bool → A → A → A
pick true a b = a
pick false a b = b

-- f a, f (a + 1), .. n of them
unfoldable pub tab : {A : Type 0} → (ℕ → A) → ℕ → ℕ → List A
tab f a zero = []
tab f a (suc n) = f a ∷ tab f (suc a) n

-- does the test hold of some element
unfoldable pub any : {A : Type 0} → (A → Bool) → List A → Bool
any p [] = false
any p (x ∷ xs) = p x || any p xs

-- what may be absent: a column that a call may do without, an operation that no code names
pub data Lent (A : Type 0) : Type 0 where
  absent : Lent A
  given : A → Lent A

-- the fact holds of every element
pub data All {A : Type 0} (P : A → Type 0) : List A → Type 0 where
  none : All P []
  more : {x : A} {xs : List A} → P x → All P xs → All P (x ∷ xs)
