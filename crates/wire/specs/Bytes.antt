-- Numbers in bytes, little-endian: the lowest byte stands first. A signed number stands there as its two's complement bits.
-- Of a width w, which is w32 or w64 here: bytes w is 4 or 8, to_z w reads a number's bits as signed, of_z w gives a signed
-- number's bits.
use mathlib.Core.List.{List, [], ◌∷◌, flat_map}
use Rattle.std.specs.Prelude.{ℕ, zero, suc, ◌+◌, ◌*◌, ◌%◌, ◌/◌, get_or, length, ℤ}
use Rattle.std.specs.Int.{Width, w32, w64}
use mir.Val.{bytes, to_z, of_z}
use Rattle.model.specs.Basics.{tab}

-- the number in the k bytes of s that begin at `at`; a byte past the end is 0
unfoldable pub number : ℕ → List ℕ → ℕ → ℕ
number zero s at = 0
number (suc k) s at = get_or s at 0 + 256 * number k s (at + 1)

-- the k lowest bytes of n
unfoldable pub little_endian : ℕ → ℕ → List ℕ
little_endian zero n = []
little_endian (suc k) n = n % 256 ∷ little_endian k (n / 256)

-- the i-th signed number in s, and all of them; a part of one at the end is not read
unfoldable pub int : Width → List ℕ → ℕ → ℤ
int w s i = to_z w (number (bytes w) s (i * bytes w))

unfoldable pub ints : Width → List ℕ → List ℤ
ints w s = tab (int w s) 0 (length s / bytes w)

-- the i-th unsigned number of k bytes in s, and all of them
unfoldable pub nat : ℕ → List ℕ → ℕ → ℕ
nat k s i = number k s (i * k)

unfoldable pub nats : ℕ → List ℕ → List ℕ
nats k s = tab (nat k s) 0 (length s / k)

-- the bytes of a signed number, and those of several, one after the other
unfoldable pub bytes_of_int : Width → ℤ → List ℕ
bytes_of_int w z = little_endian (bytes w) (of_z w z)

unfoldable pub bytes_of : Width → List ℤ → List ℕ
bytes_of w v = flat_map (bytes_of_int w) v

-- both at four bytes and at eight
abbrev pub ints4 : List ℕ → List ℤ
ints4 s = ints w32 s

abbrev pub ints8 : List ℕ → List ℤ
ints8 s = ints w64 s

abbrev pub bytes_of4 : List ℤ → List ℕ
bytes_of4 v = bytes_of w32 v

abbrev pub bytes_of8 : List ℤ → List ℕ
bytes_of8 v = bytes_of w64 v

-- the bytes of counts, eight each
unfoldable pub bytes_of_counts : List ℕ → List ℕ
bytes_of_counts v = flat_map (little_endian 8) v

-- the bytes of unsigned numbers, k each
abbrev pub bytes_of_nats : ℕ → List ℕ → List ℕ
bytes_of_nats k v = flat_map (little_endian k) v
