-- Bits the other way round.
use mathlib.Core.Bool.{Bool}
use mathlib.Core.List.{List, ◌++◌, append-nil, append_assoc, reverse, reverse-append, reverse-cons}
use mathlib.Core.Path.{◌≡◌, sym, ap, ◌∙◌}
use Prim.Native.Nat.{ℕ, zero, suc, ◌+◌, ◌-◌, ◌*◌, ◌/◌, ◌%◌, ◌^◌, ◌≤◌, ◌<◌}
use native.Mathlib.Nat.{mod-eq_of_lt}
use native.Mathlib.Omega.{arith}
use lib.ListN.{length, drop, length-reverse}
use lib.Pow.{shr_lt}
use lib.Seq.{drop_at}
use Rattle.bit_words.specs.Words.{low_bits}
use Rattle.std.specs.Int.{reverse_bits_onto}
use Rattle.bit_words.proofs.WordLaws.{length_low, low_split}

-- ---- a byte

-- so many bits the last first, after others
reversed_onto : (k m n a : ℕ) → low_bits (reverse_bits_onto k n a) (k + m) ≡ reverse (low_bits n k) ++ low_bits a m
unfolding low_bits reverse_bits_onto
reversed_onto zero m n a = let z : 0 + m ≡ m = omega arith in rw z
reversed_onto (suc k) m n a =
    let e : suc k + m ≡ k + suc m = omega arith in
    let r : (a * 2 + n % 2) % 2 ≡ n % 2 = omega arith in
    let q : (a * 2 + n % 2) / 2 ≡ a = omega arith in
    rw (e, reversed_onto k (suc m) (n / 2) (a * 2 + n % 2), r, q, reverse-cons, append_assoc)

-- nothing after them
no_more : (bs : List Bool) (a : ℕ) → bs ++ low_bits a 0 ≡ bs
unfolding low_bits
no_more bs a = append-nil bs

turned_byte : (n : ℕ) → low_bits (reverse_bits_onto 8 n 0) 8 ≡ reverse (low_bits n 8)
turned_byte n = reversed_onto 8 0 n 0 ∙ no_more (reverse (low_bits n 8)) 0

-- ---- the lowest bits of a byte that has none above them: the highest of the turned byte

pub turned_few : (m x : ℕ) {y : ℕ} → m ≤ 8 → x < 2 ^ m → y < 256 → y ≡ reverse_bits_onto 8 x 0
    → (low_bits (y / 2 ^ (8 - m)) m ≡ reverse (low_bits x m)) × (y / 2 ^ (8 - m) < 2 ^ m)
turned_few m x {y} q h b o =
    let e : low_bits y 8 ≡ reverse (low_bits x 8) = rw o (turned_byte x) in
    let g = 8 - m in
    let n : m + g ≡ 8 = omega arith in
    let n' : g + m ≡ 8 = omega arith in
    let low : low_bits y 8 ≡ low_bits (y % 2 ^ g) g ++ low_bits (y / 2 ^ g) m = rw n' at (low_split g m y) in
    let all : low_bits x 8 ≡ low_bits x m ++ low_bits (x / 2 ^ m) g = rw (n, mod-eq_of_lt h) at (low_split m g x) in
    let back : reverse (low_bits x 8) ≡ reverse (low_bits (x / 2 ^ m) g) ++ reverse (low_bits x m) = rw (all, reverse-append) in
    let size : length (reverse (low_bits (x / 2 ^ m) g)) ≡ g = length-reverse (low_bits (x / 2 ^ m) g) ∙ length_low (x / 2 ^ m) g in (
      sym (drop_at (low_bits (y % 2 ^ g) g) (low_bits (y / 2 ^ g) m) g (length_low (y % 2 ^ g) g))
          ∙ ap (λ (r : List Bool). drop g r) (sym low ∙ e ∙ back)
          ∙ drop_at (reverse (low_bits (x / 2 ^ m) g)) (reverse (low_bits x m)) g size,
      shr_lt {n = y} m g (rw n b),
    )
