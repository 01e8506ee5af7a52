-- Bits that are all the same: bit after bit, and a byte at a time.
use mathlib.Core.Bool.{Bool, true, false}
use mathlib.Core.List.{List, [], ◌∷◌, ◌++◌}
use mathlib.Core.Path.{◌≡◌, refl, sym, ap, ap₂, ◌∙◌}
use Prim.Native.Nat.{ℕ, zero, suc, ◌+◌, ◌-◌, ◌*◌, ◌/◌, ◌%◌, ◌^◌, ◌≤◌, ◌<◌, max}
use native.Mathlib.Nat.{add-mul, mul_comm, pow-suc, suc-mul, zero-mul}
use native.Mathlib.Omega.{arith}
use borrow.Author.Tests.{ne_eqb}
use lib.Arith.{bin_ind}
use lib.Bits.{bit_or, or_step, or_shr, or_mod, or_zero_l, or_zero_r, or_shifted_r}
use lib.Dec.{eqb}
use lib.ListN.{length, get_or, set, replicate, length-set, length-replicate, replicate-append-replicate}
use lib.Pow.{pow_pos, pow-add}
use lib.Seq.{sets, set-set, set-get_or, get_or-set_same}
use Rattle.bitmap.proofs.BitLaws.{length-push_bits}
use Rattle.bitmap.specs.Push.{push_bit, push_bits}
use Rattle.model.specs.Basics.{pick}
use Rattle.model.specs.Bitmap.{bit}
-- passed on to the crates above
pub use Rattle.stores.proofs.StoreLaws.{Storing, next_stored, all_stored}

-- bits after bits
pub push_append : (xs ys : List Bool) (l : List ℕ) (i : ℕ) → push_bits (push_bits l i xs) (i + length xs) ys ≡ push_bits l i (xs ++ ys)
unfolding push_bits
push_append [] ys l i = let e : i + 0 ≡ i = omega arith in rw e
push_append (x ∷ xs) ys l i = let e : i + suc (length xs) ≡ suc i + length xs = omega arith in rw e (push_append xs ys (push_bit l i x) (suc i))

module _ (b : Bool) where
  -- so many and so many more
  pub push_more : (m n : ℕ) (l : List ℕ) (i : ℕ) → push_bits (push_bits l i (replicate m b)) (i + m) (replicate n b) ≡ push_bits l i (replicate (m + n) b)
  push_more m n l i = rw (← replicate-append-replicate m n b, ← push_append (replicate m b) (replicate n b) l i, length-replicate m b)

-- ---- a byte at a time

-- the bit of a byte that the byte begins with
first_bit : (l : List ℕ) (k : ℕ) (b : Bool) → push_bit l (8 * k) b ≡ set l k (bit b)
unfolding push_bit
first_bit l k b =
    let d : 8 * k / 8 ≡ k = omega arith in
    let m : 8 * k % 8 ≡ 0 = omega arith in
    rw (d, m)

-- one of the other bits, at place p
later-bit : (l : List ℕ) (k j x y p : ℕ) (b : Bool) → k < length l → 0 < j → j < 8 → p ≡ j + 8 * k → bit_or x (bit b * 2 ^ j) ≡ y → push_bit (set l k x) p b ≡ set l k y
unfolding push_bit
later-bit l k j x y p b h o q a r =
    let d : p / 8 ≡ k = omega arith in
    let m : p % 8 ≡ j = omega arith in
    let e : eqb j 0 ≡ false = ne_eqb j 0 (λ z. omega arith) in
    rw (d, m, e, get_or-set_same l k x 0 h, set-set, r)

-- one more of the lowest bits
or_low : (b : Bool) (j : ℕ) → bit_or (pick b (2 ^ j - 1) 0) (bit b * 2 ^ j) ≡ pick b (2 ^ suc j - 1) 0
or_low true j =
    let p = pow_pos j in
    let e = pow-suc 2 j in
    or_shifted_r 1 j (2 ^ j - 1) (omega arith) ∙ omega arith
or_low false j = or_zero_l (0 * 2 ^ j) ∙ zero-mul (2 ^ j)

-- the lowest bits of a byte
low_bits : (b : Bool) (m : ℕ) (l : List ℕ) (k : ℕ) → k < length l → m < 8 → push_bits l (8 * k) (replicate (suc m) b) ≡ set l k (pick b (2 ^ suc m - 1) 0)
unfolding push_bits
low_bits true zero l k h o = first_bit l k true
low_bits false zero l k h o = first_bit l k false
low_bits b (suc m) l k h o =
    let e : suc (suc m) ≡ suc m + 1 = omega arith in
    ap (λ (r : ℕ). push_bits l (8 * k) (replicate r b)) e
    ∙ sym (push_more b (suc m) 1 l (8 * k))
    ∙ ap (λ (r : List ℕ). push_bit r (8 * k + suc m) b) (low_bits b m l k h (omega arith))
    ∙ later-bit l k (suc m) (pick b (2 ^ suc m - 1) 0) (pick b (2 ^ suc (suc m) - 1) 0) (8 * k + suc m) b h (omega arith) o (omega arith) (or_low b (suc m))

whole_bytes : (b : Bool) (m : ℕ) (l : List ℕ) (k : ℕ) → k + m ≤ length l → push_bits l (8 * k) (replicate (8 * m) b) ≡ sets l k (replicate m (pick b 255 0))
unfolding push_bits
whole_bytes b zero l k h = refl
whole_bytes b (suc m) l k h =
    let e : 8 * suc m ≡ 8 + 8 * m = omega arith in
    let s : 8 * k + 8 ≡ 8 * suc k = omega arith in
    rw (e, ← push_more b 8 (8 * m) l (8 * k), low_bits b 7 l k (omega arith) (omega arith), s)
    (whole_bytes b m (set l k (pick b 255 0)) (suc k) (omega (arith, length-set l k (pick b 255 0))))

-- whole bytes, and no bits left
pub bytes_only : (b : Bool) (n : ℕ) (l : List ℕ) (k : ℕ) → k + n / 8 ≤ length l → n % 8 ≡ 0 → sets l k (replicate (n / 8) (pick b 255 0)) ≡ push_bits l (8 * k) (replicate n b)
bytes_only b n l k h z =
    let e : 8 * (n / 8) ≡ n = omega arith in
    sym (whole_bytes b (n / 8) l k h) ∙ ap (λ (r : ℕ). push_bits l (8 * k) (replicate r b)) e

-- whole bytes, and the bits that are left
pub bytes_then : (b : Bool) (n : ℕ) (l : List ℕ) (k : ℕ) → k + n / 8 < length l → (n % 8 ≡ 0 → ⊥)
    → set (sets l k (replicate (n / 8) (pick b 255 0))) (k + n / 8) (pick b (2 ^ (n % 8) - 1) 0) ≡ push_bits l (8 * k) (replicate n b)
bytes_then b n l k h z =
    let w = whole_bytes b (n / 8) l k (omega arith) in
    let o : n % 8 ≡ suc (n % 8 - 1) = omega arith in
    let e : 8 * (n / 8) + suc (n % 8 - 1) ≡ n = omega arith in
    let q : 8 * k + 8 * (n / 8) ≡ 8 * (k + n / 8) = omega arith in
    let g = length-push_bits l (8 * k) (replicate (8 * (n / 8)) b) in
    sym
    (ap (λ (r : ℕ). push_bits l (8 * k) (replicate r b)) (sym e)
    ∙ sym (push_more b (8 * (n / 8)) (suc (n % 8 - 1)) l (8 * k))
    ∙ ap (λ (r : ℕ). push_bits (push_bits l (8 * k) (replicate (8 * (n / 8)) b)) r (replicate (suc (n % 8 - 1)) b)) q
    ∙ low_bits b (n % 8 - 1) (push_bits l (8 * k) (replicate (8 * (n / 8)) b)) (k + n / 8) (omega arith) (omega arith)
    ∙ ap (λ (r : List ℕ). set r (k + n / 8) (pick b (2 ^ suc (n % 8 - 1) - 1) 0)) w
    ∙ ap (λ (r : ℕ). set (sets l k (replicate (n / 8) (pick b 255 0))) (k + n / 8) (pick b (2 ^ r - 1) 0)) (sym o))

-- ---- within a byte

bits_assoc : (x y z : ℕ) → x < 2 → y < 2 → z < 2 → max (bit_or x y) z ≡ max x (bit_or y z)
bits_assoc zero zero zero p q r = refl
bits_assoc zero zero (suc zero) p q r = refl
bits_assoc zero (suc zero) zero p q r = refl
bits_assoc zero (suc zero) (suc zero) p q r = refl
bits_assoc (suc zero) zero zero p q r = refl
bits_assoc (suc zero) zero (suc zero) p q r = refl
bits_assoc (suc zero) (suc zero) zero p q r = refl
bits_assoc (suc zero) (suc zero) (suc zero) p q r = refl
bits_assoc (suc (suc x)) y z p q r = let n : ⊥ = omega arith in absurd n
bits_assoc zero (suc (suc y)) z p q r = let n : ⊥ = omega arith in absurd n
bits_assoc (suc zero) (suc (suc y)) z p q r = let n : ⊥ = omega arith in absurd n
bits_assoc zero zero (suc (suc z)) p q r = let n : ⊥ = omega arith in absurd n
bits_assoc zero (suc zero) (suc (suc z)) p q r = let n : ⊥ = omega arith in absurd n
bits_assoc (suc zero) zero (suc (suc z)) p q r = let n : ⊥ = omega arith in absurd n
bits_assoc (suc zero) (suc zero) (suc (suc z)) p q r = let n : ⊥ = omega arith in absurd n

or_assoc : (a b c : ℕ) → bit_or (bit_or a b) c ≡ bit_or a (bit_or b c)
or_assoc a =
    bin_ind (λ (n : ℕ). (b c : ℕ) → bit_or (bit_or n b) c ≡ bit_or n (bit_or b c))
    (λ b c. ap (λ (x : ℕ). bit_or x c) (or_zero_l b) ∙ sym (or_zero_l (bit_or b c)))
    (λ n ih b c. or_step (bit_or n b) c
    ∙ ap₂ (λ (x y : ℕ). x * 2 + y)
    (ap (λ (x : ℕ). bit_or x (c / 2)) (or_shr n b 1) ∙ ih (b / 2) (c / 2) ∙ ap (λ (x : ℕ). bit_or (n / 2) x) (sym (or_shr b c 1)))
    (ap (λ (x : ℕ). max x (c % 2)) (or_mod n b 1) ∙ bits_assoc (n % 2) (b % 2) (c % 2) (omega arith) (omega arith) (omega arith) ∙ ap (λ (x : ℕ). max (n % 2) x) (sym (or_mod b c 1)))
    ∙ sym (or_step n (bit_or b c)))
    a

-- one less than p, times q
less_one : (p q : ℕ) → 0 < p → (p - 1) * q + q ≡ p * q
less_one zero q h = let z : ⊥ = omega arith in absurd z
less_one (suc p) q h = let e : suc p - 1 ≡ p = omega arith in rw e (sym (suc-mul p q))

-- one more of the bits from bit j on
or_more : (j m : ℕ) → bit_or ((2 ^ m - 1) * 2 ^ j) (1 * 2 ^ (j + m)) ≡ (2 ^ suc m - 1) * 2 ^ j
or_more j m =
    let p = pow_pos m in
    let q = pow_pos j in
    let a : 2 ^ (j + m) ≡ 2 ^ m * 2 ^ j = pow-add 2 j m ∙ mul_comm (2 ^ j) (2 ^ m) in
    let u = less_one (2 ^ m) (2 ^ j) p in
    let s = pow-suc 2 m in
    let w = less_one (2 ^ suc m) (2 ^ j) (omega arith) in
    let t : 2 ^ m * 2 ≡ 2 ^ m + 2 ^ m = omega arith in
    let v : 2 ^ suc m * 2 ^ j ≡ 2 ^ m * 2 ^ j + 2 ^ m * 2 ^ j = rw (s, t) (add-mul (2 ^ m) (2 ^ m) (2 ^ j)) in
    or_shifted_r 1 (j + m) ((2 ^ m - 1) * 2 ^ j) (omega arith) ∙ omega arith

-- ones are joined to the byte
pub ones_within : (m : ℕ) (l : List ℕ) (i : ℕ) → i / 8 < length l → 0 < i % 8 → i % 8 + m ≤ 8
    → push_bits l i (replicate m true) ≡ set l (i / 8) (bit_or (get_or l (i / 8) 0) ((2 ^ m - 1) * 2 ^ (i % 8)))
unfolding push_bits
ones_within zero l i h o q =
    sym
    (ap (λ (r : ℕ). set l (i / 8) (bit_or (get_or l (i / 8) 0) r)) (zero-mul (2 ^ (i % 8)))
    ∙ ap (λ (r : ℕ). set l (i / 8) r) (or_zero_r (get_or l (i / 8) 0))
    ∙ set-get_or l (i / 8) 0)
ones_within (suc m) l i h o q =
    let e : suc m ≡ m + 1 = omega arith in
    let x = get_or l (i / 8) 0 in
    ap (λ (r : ℕ). push_bits l i (replicate r true)) e
    ∙ sym (push_more true m 1 l i)
    ∙ ap (λ (r : List ℕ). push_bit r (i + m) true) (ones_within m l i h o (omega arith))
    ∙ later-bit l (i / 8) (i % 8 + m) (bit_or x ((2 ^ m - 1) * 2 ^ (i % 8))) (bit_or x ((2 ^ suc m - 1) * 2 ^ (i % 8))) (i + m) true h (omega arith) (omega arith) (omega arith)
    (or_assoc x ((2 ^ m - 1) * 2 ^ (i % 8)) (1 * 2 ^ (i % 8 + m)) ∙ ap (λ (r : ℕ). bit_or x r) (or_more (i % 8) m))

zero_within : (l : List ℕ) (i : ℕ) → 0 < i % 8 → push_bit l i false ≡ l
unfolding push_bit
zero_within l i o =
    let e : eqb (i % 8) 0 ≡ false = ne_eqb (i % 8) 0 (λ z. omega arith) in
    rw e
    (ap (λ (r : ℕ). set l (i / 8) (bit_or (get_or l (i / 8) 0) r)) (zero-mul (2 ^ (i % 8)))
    ∙ ap (λ (r : ℕ). set l (i / 8) r) (or_zero_r (get_or l (i / 8) 0))
    ∙ set-get_or l (i / 8) 0)

-- zeros leave the byte as it is
pub zeros_within : (m : ℕ) (l : List ℕ) (i : ℕ) → 0 < i % 8 → i % 8 + m ≤ 8 → push_bits l i (replicate m false) ≡ l
unfolding push_bits
zeros_within zero l i o q = refl
zeros_within (suc m) l i o q =
    let e : suc m ≡ m + 1 = omega arith in
    ap (λ (r : ℕ). push_bits l i (replicate r false)) e
    ∙ sym (push_more false m 1 l i)
    ∙ ap (λ (r : List ℕ). push_bit r (i + m) false) (zeros_within m l i o (omega arith))
    ∙ zero_within l (i + m) (omega arith)

-- ---- a byte ended, and then bytes
pub push_then : (b : Bool) (l : List ℕ) (at n gap k : ℕ) → 8 * k ≡ at + gap → gap ≤ n → push_bits (push_bits l at (replicate gap b)) (8 * k) (replicate (n - gap) b) ≡ push_bits l at (replicate n b)
push_then b l at n gap k e h =
    let f : gap + (n - gap) ≡ n = omega arith in
    ap (λ (r : ℕ). push_bits (push_bits l at (replicate gap b)) r (replicate (n - gap) b)) e
    ∙ push_more b gap (n - gap) l at
    ∙ ap (λ (r : ℕ). push_bits l at (replicate r b)) f
