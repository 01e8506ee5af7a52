-- A search in a row.
use Rattle.std.specs.Prelude.{ℕ, ◌≤◌, ◌<◌, ◌≡◌, Bool, true, false}

-- of n places, r come before the first that the test holds of
pub record Before (test : ℕ → Bool) (n r : ℕ) : Type 0 where
  pub inside : r ≤ n
  pub none : (i : ℕ) → i < r → test i ≡ false
  pub found : r < n → test r ≡ true
