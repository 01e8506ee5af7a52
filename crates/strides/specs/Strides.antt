-- The places that a strided walk takes of a row.
use Rattle.std.specs.Prelude.{ℕ, ◌+◌, ◌-◌, ◌*◌, ◌<◌, ◌≤◌, T, ℤ, pos, negsuc, nat_abs, ◌+ℤ◌}
use Rattle.std.specs.Int.Signed.{non_neg}

-- the last of k places from a on lies in a row of n elements, and so do those before it
unfoldable pub Reaches : ℕ → ℤ → ℕ → ℕ → Type 0
Reaches a (pos s) k n = a + (k - 1) * s < n
Reaches a (negsuc s) k n = ((k - 1) * (s + 1) ≤ a) × (a < n)

-- count places from start on by stride, in a row of n elements, which is no longer than the largest offset of either width
pub record Walks (start : ℕ) (stride : ℤ) (count n : ℕ) : Type 0 where
  pub small : n ≤ 9223372036854775807
  pub reach : 0 < count → Reaches start stride count n

-- the place after p by a stride is a place again
pub record Follows (p : ℕ) (stride : ℤ) : Type 0 where
  pub here : p ≤ 9223372036854775807
  pub natural : T (non_neg (pos p +ℤ stride))
  pub small : nat_abs (pos p +ℤ stride) ≤ 9223372036854775807
