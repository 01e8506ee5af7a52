-- What std's methods of four and of eight bytes give, in the words of Bytes.antt.
use mathlib.Core.Path.{◌≡◌, ap}
use mathlib.Core.List.{List}
use Prim.Native.Nat.{ℕ, ◌/◌}
use native.Mathlib.Omega.{arith}
use lib.IntN.{ℤ}
use mir.Syntax.{w32, w64}
use mir.Val.{to_z, of_z}
use Rattle.std.specs.Int.{from_le_bytes, to_le_bytes}
use Rattle.wire.specs.Bytes.{number, little_endian, int, nat, bytes_of_int}

pub read_nat4 : (b : List ℕ) → from_le_bytes w32 b ≡ nat 4 b 0
unfolding nat number
read_nat4 b = omega arith

pub read_nat8 : (b : List ℕ) → from_le_bytes w64 b ≡ nat 8 b 0
unfolding nat number
read_nat8 b = omega arith

pub read_int4 : (b : List ℕ) → to_z w32 (from_le_bytes w32 b) ≡ int w32 b 0
unfolding int nat
read_int4 b = ap (to_z w32) (read_nat4 b)

pub read_int8 : (b : List ℕ) → to_z w64 (from_le_bytes w64 b) ≡ int w64 b 0
unfolding int nat
read_int8 b = ap (to_z w64) (read_nat8 b)

pub write_nat4 : (n : ℕ) → to_le_bytes w32 n ≡ little_endian 4 n
unfolding little_endian
write_nat4 n =
    let e2 : n / 65536 ≡ n / 256 / 256 = omega arith in
    let e3 : n / 16777216 ≡ n / 256 / 256 / 256 = omega arith in
    rw (e2, e3)

pub write_nat8 : (n : ℕ) → to_le_bytes w64 n ≡ little_endian 8 n
unfolding little_endian
write_nat8 n =
    let e2 : n / 65536 ≡ n / 256 / 256 = omega arith in
    let e3 : n / 16777216 ≡ n / 256 / 256 / 256 = omega arith in
    let e4 : n / 4294967296 ≡ n / 256 / 256 / 256 / 256 = omega arith in
    let e5 : n / 1099511627776 ≡ n / 256 / 256 / 256 / 256 / 256 = omega arith in
    let e6 : n / 281474976710656 ≡ n / 256 / 256 / 256 / 256 / 256 / 256 = omega arith in
    let e7 : n / 72057594037927936 ≡ n / 256 / 256 / 256 / 256 / 256 / 256 / 256 = omega arith in
    rw (e2, e3, e4, e5, e6, e7)

pub write_int4 : (z : ℤ) → to_le_bytes w32 (of_z w32 z) ≡ bytes_of_int w32 z
unfolding bytes_of_int
write_int4 z = write_nat4 (of_z w32 z)

pub write_int8 : (z : ℤ) → to_le_bytes w64 (of_z w64 z) ≡ bytes_of_int w64 z
unfolding bytes_of_int
write_int8 z = write_nat8 (of_z w64 z)
