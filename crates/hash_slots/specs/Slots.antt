-- The hash, and the slots of a table in a work area: from slot o on n heads, then n links.
use Rattle.std.specs.Prelude.{ℕ, ◌+◌, ◌*◌, ◌/◌, ◌%◌, ◌≤◌, ◌≡◌, List, get_or, set}
use Rattle.std.specs.Int.{w64}
use Rattle.std.proofs.Common.{of_z}
use Rattle.model.specs.Column.{Elem, nul, val}

-- 64 bits brought to 32, and those scaled to n; no sum or product passes 64 bits
abbrev pub summed : ℕ → ℕ
summed x = x % 4294967296 * 1640531527 + x / 4294967296 * 1327217885

abbrev pub folded : ℕ → ℕ
folded s = (s % 4294967296 + s / 4294967296) % 4294967296

abbrev pub scaled : ℕ → ℕ → ℕ
scaled n h = h * n / 4294967296

-- the head of an element among n
unfoldable pub head_of : ℕ → Elem → ℕ
head_of n nul = 0
head_of n (val v) = scaled n (folded (summed (of_z w64 v)))

-- element k of the row is entered at the head b
abbrev pub entered : ℕ → ℕ → ℕ → ℕ → List ℕ → List ℕ
entered n o k b t = set (set t (o + n + k) (get_or t (o + b) 0)) (o + b) (k + 1)

-- the slots from o on are 0
abbrev pub CleanFrom : ℕ → List ℕ → Type 0
CleanFrom o t = (i : ℕ) → o ≤ i → get_or t i 0 ≡ 0
