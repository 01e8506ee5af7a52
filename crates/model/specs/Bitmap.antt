-- Bitmaps. "row r is valid when bit r mod 8 of byte r div 8 is 1, bit 0 lowest. A bitmap of length 0 means all valid."
use Rattle.std.specs.Prelude.{ℕ, zero, suc, ◌+◌, ◌*◌, ◌/◌, ◌%◌, ◌^◌, Bool, true, false, not, ◌&&◌, ◌||◌, List, [], ◌∷◌, length, take, drop, get_or, ltb, eqb}

-- bit i of a bitmap, as a truth value
abbrev pub bit_at : List ℕ → ℕ → Bool
bit_at bytes i = eqb (get_or bytes (i / 8) 0 / 2 ^ (i % 8) % 2) 1

-- a column's bitmap: its bytes, and the bit of them that it starts at
pub record Bits : Type 0 where
  pub start : ℕ
  pub bytes : List ℕ

abbrev pub from : ℕ → List ℕ → Bits
from s bytes = record { start = s; bytes = bytes }

-- is row or element i valid
unfoldable pub valid_at : Bits → ℕ → Bool
valid_at b i = eqb (length b.bytes) 0 || bit_at b.bytes (b.start + i)

-- how many bytes n bits take
abbrev pub bytes_for : ℕ → ℕ
bytes_for n = (n + 7) / 8

-- "a non-empty bitmap too short for its rows, or for all the values lent"
unfoldable pub short_bits : Bits → ℕ → Bool
short_bits b n = not (eqb (length b.bytes) 0) && ltb (length b.bytes) (bytes_for (b.start + n))

abbrev pub bit : Bool → ℕ
bit true = 1
bit false = 0

-- up to eight bits as a byte, bit 0 lowest
unfoldable pub byte_of : List Bool → ℕ
byte_of [] = 0
byte_of (b ∷ bs) = bit b + 2 * byte_of bs

unfoldable pub pack_n : ℕ → List Bool → List ℕ
pack_n zero bs = []
pack_n (suc n) bs = byte_of (take 8 bs) ∷ pack_n n (drop 8 bs)

-- the bitmap that is written for these bits: "spare bits 0"
unfoldable pub pack : List Bool → List ℕ
pack bs = pack_n (bytes_for (length bs)) bs

-- how many of the bits are 0
unfoldable pub nulls : List Bool → ℕ
nulls [] = 0
nulls (b ∷ bs) = bit (not b) + nulls bs
