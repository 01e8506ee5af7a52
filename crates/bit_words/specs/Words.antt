-- Bits of a bitmap as a number.
use Rattle.std.specs.Prelude.{ℕ, zero, suc, ◌/◌, ◌%◌, Bool, List, [], ◌∷◌, eqb}

-- the m lowest bits of a number, bit 0 first
unfoldable pub low_bits : ℕ → ℕ → List Bool
low_bits x zero = []
low_bits x (suc m) = eqb (x % 2) 1 ∷ low_bits (x / 2) m
