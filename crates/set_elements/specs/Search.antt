-- How far a search among values goes.
use Rattle.std.specs.Prelude.{ℕ, ◌+◌, ◌≤◌, ◌<◌, ◌≡◌, Bool, true, false, List, ℤ, pos, get_or}
use Rattle.model.specs.Elements.{eq_z}

-- is v the value at place i from value a on
abbrev pub value_is : ℤ → List ℤ → ℕ → ℕ → Bool
value_is v vs a i = eq_z v (get_or vs (a + i) (pos 0))

-- of n places, r come before the first that the test holds of
pub record Before (test : ℕ → Bool) (n r : ℕ) : Type 0 where
  pub inside : r ≤ n
  pub none : (i : ℕ) → i < r → test i ≡ false
  pub found : r < n → test r ≡ true
