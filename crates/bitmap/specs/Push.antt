-- Bitmaps as they are written and counted, bit after bit, and as they are cut.
use Rattle.std.specs.Prelude.{ℕ, suc, ◌+◌, ◌*◌, ◌/◌, ◌%◌, ◌^◌, ◌<◌, ◌≡◌, Bool, false, List, [], ◌∷◌, get_or, set, drop, eqb}
use Rattle.std.specs.Int.Bits.{bit_or}
use Rattle.model.specs.Basics.{pick}
use Rattle.model.specs.Bitmap.{Bits, from, bit, short_bits}

-- a bitmap that n bits can be read from
pub record Covers (b : Bits) (n : ℕ) : Type 0 where
  pub small : b.start < 8
  pub long : short_bits b n ≡ false

-- one more bit, at i: the first bit of a byte starts the byte anew
unfoldable pub push_bit : List ℕ → ℕ → Bool → List ℕ
push_bit bm i b = set bm (i / 8) (pick (eqb (i % 8) 0) (bit b) (bit_or (get_or bm (i / 8) 0) (bit b * 2 ^ (i % 8))))

unfoldable pub push_bits : List ℕ → ℕ → List Bool → List ℕ
push_bits bm i [] = bm
push_bits bm i (b ∷ bs) = push_bits (push_bit bm i b) (suc i) bs

-- how many of the bits are 1
unfoldable pub trues : List Bool → ℕ
trues [] = 0
trues (b ∷ bs) = bit b + trues bs

-- the bitmap from bit a on: from the byte on that holds that bit
unfoldable pub bits_from : Bits → ℕ → Bits
bits_from b a = from ((b.start + a) % 8) (drop ((b.start + a) / 8) b.bytes)
