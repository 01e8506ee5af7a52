-- The bits of a run of elements.
use Prim.Native.Nat.{ℕ, ◌+◌, ◌*◌, ◌≤◌, ◌<◌}
use mathlib.Core.Path.{◌≡◌}
use native.Mathlib.Omega.{arith}
use lib.ListN.{length}
use mathlib.Core.List.{List}
use Rattle.bitmap.proofs.PartLaws.{long}
use Rattle.bitmap.specs.Push.{Covers}
use Rattle.model.specs.Bitmap.{from, bytes_for}

-- a bitmap that isn't empty has the bits of n elements from element a on, whose bit is bit s of byte k
pub covered : (bytes : List ℕ) (start count a n k s : ℕ) → Covers (from start bytes) count → 0 < length bytes → a + n ≤ count → 8 * k + s ≡ start + a → bytes_for (8 * k + s + n) ≤ length bytes
covered bytes start count a n k s c h i e = let l = long (from start bytes) count c (λ z. omega arith) in omega arith
