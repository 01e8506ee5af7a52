-- The lowest bits of a number: taken apart and joined, read from a bitmap, appended to one, and counted.
use mathlib.Core.Bool.{Bool, false}
use mathlib.Core.List.{List, ◌∷◌, ◌++◌}
use mathlib.Core.Path.{◌≡◌, refl, sym, ap, ◌∙◌}
use Prim.Native.Nat.{ℕ, zero, suc, ◌+◌, ◌-◌, ◌*◌, ◌/◌, ◌%◌, ◌^◌, ◌≤◌, ◌<◌}
use native.Mathlib.Nat.{mod-lt, mod-eq_of_lt, add_comm, add-mul, mul_comm, mul_assoc, pow-suc, suc-mul, zero-mul}
use native.Mathlib.Omega.{arith}
use borrow.Author.Tests.{ne_eqb}
use lib.Bits.{bit_and, bit_or, and_mask, or_block, or_lt, or_zero_r, or_shifted_r}
use lib.Count.{ones, ones_step, ones-le}
use lib.Dec.{eqb}
use lib.ListN.{length, get_or, set, take, drop, replicate, length-set}
use lib.Pow.{pow_pos, pow-add, split, shl-shr, mod-pow-add, mod-mod-pow, field, shr-shr, shr_lt, shl_exact, low, high}
use lib.Seq.{sets, set-set, set-get_or, get_or-set_same}
use Rattle.std.proofs.lemmas.List.{get_or-take, get_or-drop}
use Rattle.std.proofs.lemmas.Nat.{mul-add-lt}
use Rattle.std.specs.Int.{w64, byte_at, byte_worth, bytes_low_first, sum_through, to_le_bytes, from_le_bytes}
use Rattle.bitmap.proofs.OnesLaws.{trues-append, ones_bits}
use Rattle.bitmap.specs.Push.{push_bit, push_bits, trues}
use Rattle.bit_words.specs.Words.{low_bits}
use Rattle.model.specs.Basics.{tab}
use Rattle.model.specs.Bitmap.{bit, bit_at}
use Rattle.model.proofs.TabLaws.{tab_split}
use Rattle.runs.proofs.SameLaws.{push_append, zeros_within}

-- ---- taken apart and joined

pub length_low : (x m : ℕ) → length (low_bits x m) ≡ m
unfolding low_bits
length_low x zero = refl
length_low x (suc m) = ap suc (length_low (x / 2) m)

-- half of a number, and the bits above so many of its bits
half_shr : (x g : ℕ) → x / 2 / 2 ^ g ≡ x / 2 ^ suc g
half_shr x g = let e : 1 + g ≡ suc g = omega arith in rw e at (shr-shr x 1 g)

-- so many of its bits, the lowest and the others
module _ (x g : ℕ) where
  half_odd : x % 2 ^ suc g % 2 ≡ x % 2
  half_odd = let e : g + 1 ≡ suc g = omega arith in rw e at (mod-mod-pow x g 1)

  half_rest : x % 2 ^ suc g / 2 ≡ x / 2 % 2 ^ g
  half_rest = let e : g + 1 ≡ suc g = omega arith in rw e at (field x g 1)

-- what stands above them does not show
pub low_mod : (m x : ℕ) → low_bits (x % 2 ^ m) m ≡ low_bits x m
unfolding low_bits
low_mod zero x = refl
low_mod (suc m) x = rw (half_odd x m, half_rest x m) (ap (λ (r : List Bool). eqb (x % 2) 1 ∷ r) (low_mod m (x / 2)))

-- so many of the bits, and the others
pub low_split : (g k x : ℕ) → low_bits x (g + k) ≡ low_bits (x % 2 ^ g) g ++ low_bits (x / 2 ^ g) k
unfolding low_bits
low_split zero k x = let e : x / 1 ≡ x = omega arith in let z : 0 + k ≡ k = omega arith in rw (e, z)
low_split (suc g) k x =
    let d : suc g + k ≡ suc (g + k) = omega arith in
    rw (d, half_odd x g, half_rest x g, ← half_shr x g) (ap (λ (r : List Bool). eqb (x % 2) 1 ∷ r) (low_split g k (x / 2)))

module _ (f : ℕ → Bool) where
  -- fewer of the bits
  pub low_take : (m j x p : ℕ) → low_bits x (m + j) ≡ tab f p (m + j) → low_bits x m ≡ tab f p m
  unfolding low_bits tab
  low_take zero j x p e = refl
  low_take (suc m) j x p e =
      let d : suc m + j ≡ suc (m + j) = omega arith in
      let c = rw d at e in
      let h : eqb (x % 2) 1 ≡ f p = cc in
      let t : low_bits (x / 2) (m + j) ≡ tab f (suc p) (m + j) = cc in
      rw h (ap (λ (r : List Bool). f p ∷ r) (low_take m j (x / 2) (suc p) t))

  -- the bits after so many
  pub low_drop : (j m x p : ℕ) → low_bits x (j + m) ≡ tab f p (j + m) → low_bits (x / 2 ^ j) m ≡ tab f (p + j) m
  unfolding low_bits tab
  low_drop zero m x p e =
      let o : x / 1 ≡ x = omega arith in
      let z : 0 + m ≡ m = omega arith in
      let q : p + 0 ≡ p = omega arith in
      rw (o, q) (rw z at e)
  low_drop (suc j) m x p e =
      let d : suc j + m ≡ suc (j + m) = omega arith in
      let q : p + suc j ≡ suc p + j = omega arith in
      let c = rw d at e in
      let t : low_bits (x / 2) (j + m) ≡ tab f (suc p) (j + m) = cc in
      rw (← half_shr x j, q) (low_drop j m (x / 2) (suc p) t)

  -- bits with more above them
  pub join : (m n x y p : ℕ) → low_bits x m ≡ tab f p m → x < 2 ^ m → low_bits y n ≡ tab f (p + m) n → low_bits (y * 2 ^ m + x) (m + n) ≡ tab f p (m + n)
  join m n x y p a h b = low_split m n (y * 2 ^ m + x) ∙ rw (low y m {lo = x} h, high y m {lo = x} h, a, b) (sym (tab_split f p m n))

-- what a number of w bits keeps of bits that are shifted past its end
pub kept-bits : (x g s w : ℕ) → g + s ≡ w → x * 2 ^ s % 2 ^ w ≡ x % 2 ^ g * 2 ^ s
kept-bits x g s w e =
    let z : x * 2 ^ s + 0 ≡ x * 2 ^ s = omega arith in
    let n : x * 2 ^ s % 2 ^ s ≡ 0 = rw z at (low x s {lo = 0} (pow_pos s)) in
    let a : x * 2 ^ s % 2 ^ (g + s) ≡ x % 2 ^ g * 2 ^ s + 0 = mod-pow-add (x * 2 ^ s) g s ∙ rw (shl-shr x s, n) in
    let o : x % 2 ^ g * 2 ^ s + 0 ≡ x % 2 ^ g * 2 ^ s = omega arith in
    (rw e at a) ∙ o

-- ---- read from a bitmap

-- bit after bit
pub read_bits : (m x : ℕ) (l : List ℕ) (p : ℕ) → ((j : ℕ) → j < m → x / 2 ^ j % 2 ≡ get_or l ((p + j) / 8) 0 / 2 ^ ((p + j) % 8) % 2) → low_bits x m ≡ tab (bit_at l) p m
unfolding low_bits tab
read_bits zero x l p h = refl
read_bits (suc m) x l p h =
    let z : p + 0 ≡ p = omega arith in
    let o : x / 1 ≡ x = omega arith in
    let a : x % 2 ≡ get_or l (p / 8) 0 / 2 ^ (p % 8) % 2 = rw (o, z) at (h 0 (omega arith)) in
    rw a (ap (λ (r : List Bool). bit_at l p ∷ r)
    (read_bits m (x / 2) l (suc p) (λ j k.
    let e : suc p + j ≡ p + suc j = omega arith in
    rw (e, half_shr x j) (h (suc j) (omega arith)))))

-- the first bits of a byte
pub byte_bits : (m : ℕ) (l : List ℕ) (k : ℕ) → m ≤ 8 → low_bits (get_or l k 0) m ≡ tab (bit_at l) (8 * k) m
byte_bits m l k h =
    read_bits m (get_or l k 0) l (8 * k)
    (λ j o.
    let d : (8 * k + j) / 8 ≡ k = omega arith in
    let e : (8 * k + j) % 8 ≡ j = omega arith in
    rw (d, e))

-- a byte's place in a number
pow_bytes : (n : ℕ) → 256 ^ n ≡ 2 ^ (8 * n)
pow_bytes zero = refl
pow_bytes (suc n) =
    let e : 8 * n + 8 ≡ 8 * suc n = omega arith in
    pow-suc 256 n ∙ ap (λ (r : ℕ). r * 256) (pow_bytes n) ∙ sym (pow-add 2 (8 * n) 8) ∙ ap (λ (r : ℕ). 2 ^ r) e

-- the bytes g 0, .. g n of a number, which are those from byte k on
number_bits : (l : List ℕ) (k : ℕ) (g : ℕ → ℕ) (n : ℕ) → ((i : ℕ) → i ≤ n → (g i ≡ get_or l (k + i) 0) × (g i < 256))
    → (low_bits (sum_through (λ i. byte_worth i (g i)) n) (8 * suc n) ≡ tab (bit_at l) (8 * k) (8 * suc n)) × (sum_through (λ i. byte_worth i (g i)) n < 2 ^ (8 * suc n))
number_bits l k g zero h =
    let first = h 0 (omega arith) in
    let z : k + 0 ≡ k = omega arith in
    (ap (λ (x : ℕ). low_bits x 8) (first.0 ∙ ap (λ (j : ℕ). get_or l j 0) z) ∙ byte_bits 8 l k (omega arith), omega (arith, first.1))
number_bits l k g (suc n) h =
    let m = 8 * suc n in
    let x = sum_through (λ i. byte_worth i (g i)) n in
    let y = g (suc n) in
    let before = number_bits l k g n (λ i o. h i (omega arith)) in
    let last = h (suc n) (omega arith) in
    let q : 8 * (k + suc n) ≡ 8 * k + m = omega arith in
    let b : low_bits y 8 ≡ tab (bit_at l) (8 * k + m) 8 = ap (λ (r : ℕ). low_bits r 8) last.0 ∙ byte_bits 8 l (k + suc n) (omega arith) ∙ ap (λ (r : ℕ). tab (bit_at l) r 8) q in
    let w : y * 2 ^ m + x ≡ x + y * 256 ^ suc n = ap (λ (r : ℕ). y * r + x) (sym (pow_bytes (suc n))) ∙ add_comm (y * 256 ^ suc n) x in
    let d : m + 8 ≡ 8 * suc (suc n) = omega arith in
    (rw (w, d) at (join (bit_at l) m 8 x y (8 * k) before.0 before.1 b), rw (w, d) at (rw (← pow-add 2 m 8) at (mul-add-lt y (2 ^ m) x 256 last.1 before.1)))

-- the eight bytes from byte k on as a word, the first lowest
pub word_bits : (l bytes : List ℕ) (k : ℕ) → bytes ≡ take 8 (drop k l) → ((i : ℕ) → get_or l i 0 < 256) → low_bits (from_le_bytes w64 bytes) 64 ≡ tab (bit_at l) (8 * k) 64
word_bits l bytes k e small =
    let at : (i : ℕ) → i ≤ 7 → get_or bytes i 0 ≡ get_or l (k + i) 0 = λ i o. ap (λ (r : List ℕ). get_or r i 0) e ∙ get_or-take 8 (drop k l) i 0 (omega arith) ∙ get_or-drop k l i 0 in
    let both = number_bits l k (λ i. get_or bytes i 0) 7 (λ i o. (at i o, omega (arith, at i o, small (k + i)))) in
    both.0

-- bits of one byte
pub read_within : (m : ℕ) (l : List ℕ) (k s : ℕ) → s + m ≤ 8 → low_bits (get_or l k 0 / 2 ^ s % 2 ^ m) m ≡ tab (bit_at l) (8 * k + s) m
read_within m l k s h = low_mod m (get_or l k 0 / 2 ^ s) ∙ low_drop (bit_at l) s m (get_or l k 0) (8 * k) (byte_bits (s + m) l k h)

-- bits from bit s of a number on, and those of a byte after it, in the code's terms
pub read_joined : (l : List ℕ) (w k n s x : ℕ) → low_bits x (s + n) ≡ tab (bit_at l) (8 * k) (s + n) → x < 2 ^ (s + n) → s ≤ 8 → s + n ≡ 8 * w
    → low_bits (bit_or (x / 2 ^ s) (get_or l (k + w) 0 * 2 ^ n % 2 ^ (s + n))) (s + n) ≡ tab (bit_at l) (8 * k + s) (s + n)
read_joined l w k n s x a h o e =
    let y = get_or l (k + w) 0 in
    let c : n + s ≡ s + n = omega arith in
    let t : x / 2 ^ s < 2 ^ n = shr_lt {n = x} n s (rw c h) in
    let q : 8 * (k + w) ≡ 8 * k + s + n = omega arith in
    let b : low_bits (y % 2 ^ s) s ≡ tab (bit_at l) (8 * k + s + n) s = low_mod s y ∙ byte_bits s l (k + w) o ∙ ap (λ (r : ℕ). tab (bit_at l) r s) q in
    let j = join (bit_at l) n s (x / 2 ^ s) (y % 2 ^ s) (8 * k + s) (low_drop (bit_at l) s n x (8 * k) a) t b in
    rw (kept-bits y s n (s + n) refl, or_shifted_r (y % 2 ^ s) n (x / 2 ^ s) t) (rw c at j)

-- bits of two bytes
pub read_across : (m : ℕ) (l : List ℕ) (k s : ℕ) → get_or l k 0 < 256 → s < 8 → m ≤ 8
    → low_bits (bit_or (get_or l k 0 / 2 ^ s) (get_or l (k + 1) 0 * 2 ^ (8 - s) % 256) % 2 ^ m) m ≡ tab (bit_at l) (8 * k + s) m
read_across m l k s h o q =
    let x = bit_or (get_or l k 0 / 2 ^ s) (get_or l (k + 1) 0 * 2 ^ (8 - s) % 256) in
    let e : s + (8 - s) ≡ 8 = omega arith in
    let f : m + (8 - m) ≡ 8 = omega arith in
    let r : low_bits x 8 ≡ tab (bit_at l) (8 * k + s) 8 = rw e at (read_joined l 1 k (8 - s) s (get_or l k 0) (byte_bits (s + (8 - s)) l k (omega arith)) (rw e h) (omega arith) e) in
    low_mod m x ∙ low_take (bit_at l) m (8 - m) x (8 * k + s) (rw f r)

-- ---- appended to a bitmap

-- a bit as a number
odd : (r : ℕ) → r < 2 → bit (eqb r 1) ≡ r
odd zero h = refl
odd (suc zero) h = refl
odd (suc (suc r)) h = let z : ⊥ = omega arith in absurd z

-- so many of the bits, and then the others
pub push_split : (g k x : ℕ) (l : List ℕ) (i : ℕ) → push_bits l i (low_bits x (g + k)) ≡ push_bits (push_bits l i (low_bits (x % 2 ^ g) g)) (i + g) (low_bits (x / 2 ^ g) k)
push_split g k x l i =
    ap (λ (r : List Bool). push_bits l i r) (low_split g k x)
    ∙ sym (push_append (low_bits (x % 2 ^ g) g) (low_bits (x / 2 ^ g) k) l i)
    ∙ ap (λ (r : ℕ). push_bits (push_bits l i (low_bits (x % 2 ^ g) g)) (i + r) (low_bits (x / 2 ^ g) k)) (length_low (x % 2 ^ g) g)

-- bits are joined to a byte at once, where they are joined one after the other
or_apart : (g k r y : ℕ) → r < 2 ^ k → bit_or (bit_or g r) (y * 2 ^ k) ≡ bit_or g (y * 2 ^ k + r)
or_apart g k r y h =
    let a = g / 2 ^ k in
    let b = g % 2 ^ k in
    let lt : b < 2 ^ k = mod-lt g (pow_pos k) in
    let z : 0 * 2 ^ k + r ≡ r = omega (arith, zero-mul (2 ^ k)) in
    let n : y * 2 ^ k + 0 ≡ y * 2 ^ k = omega arith in
    let one : bit_or (a * 2 ^ k + b) r ≡ a * 2 ^ k + bit_or b r = ap (bit_or (a * 2 ^ k + b)) (sym z) ∙ or_block k a 0 b r lt h ∙ ap (λ (w : ℕ). w * 2 ^ k + bit_or b r) (or_zero_r a) in
    let two : bit_or (a * 2 ^ k + bit_or b r) (y * 2 ^ k) ≡ bit_or a y * 2 ^ k + bit_or b r = ap (bit_or (a * 2 ^ k + bit_or b r)) (sym n) ∙ or_block k a y (bit_or b r) 0 (or_lt k b r lt h) (pow_pos k) ∙ ap (λ (w : ℕ). bit_or a y * 2 ^ k + w) (or_zero_r (bit_or b r)) in
    ap (λ (w : ℕ). bit_or (bit_or w r) (y * 2 ^ k)) (sym (split g k))
    ∙ ap (λ (w : ℕ). bit_or w (y * 2 ^ k)) one
    ∙ two
    ∙ sym (or_block k a y b r lt h)
    ∙ ap (λ (w : ℕ). bit_or w (y * 2 ^ k + r)) (split g k)

-- the bit at place j, and the others above it
or_next : (g x j : ℕ) → bit_or (bit_or g (x % 2 * 2 ^ j)) (x / 2 * 2 ^ suc j) ≡ bit_or g (x * 2 ^ j)
or_next g x j =
    let s = pow-suc 2 j in
    let e : x / 2 * 2 + x % 2 ≡ x = omega arith in
    or_apart g (suc j) (x % 2 * 2 ^ j) (x / 2) (below (x % 2) (2 ^ j) (omega arith) (pow_pos j) s)
    ∙ ap (bit_or g)
    (ap (λ (w : ℕ). x / 2 * w + x % 2 * 2 ^ j) (s ∙ mul_comm (2 ^ j) 2)
    ∙ ap (λ (w : ℕ). w + x % 2 * 2 ^ j) (sym (mul_assoc (x / 2) 2 (2 ^ j)))
    ∙ sym (add-mul (x / 2 * 2) (x % 2) (2 ^ j))
    ∙ ap (λ (w : ℕ). w * 2 ^ j) e)
  where
    below : (r w : ℕ) {d : ℕ} → r < 2 → 0 < w → d ≡ w * 2 → r * w < d
    below zero w h p e = omega (arith, zero-mul w)
    below (suc zero) w h p e = omega (arith, suc-mul 0 w, zero-mul w)
    below (suc (suc r)) w h p e = let z : ⊥ = omega arith in absurd z

one_bit : (l : List ℕ) (i : ℕ) (x : ℕ) → 0 < i % 8 → push_bit l i (eqb (x % 2) 1) ≡ set l (i / 8) (bit_or (get_or l (i / 8) 0) (x % 2 * 2 ^ (i % 8)))
unfolding push_bit
one_bit l i x o =
    let e : eqb (i % 8) 0 ≡ false = ne_eqb (i % 8) 0 (λ z. omega arith) in
    rw e (ap (λ (r : ℕ). set l (i / 8) (bit_or (get_or l (i / 8) 0) (r * 2 ^ (i % 8)))) (odd (x % 2) (omega arith)))

-- within a byte that was begun
pub few_within : (m x : ℕ) (l : List ℕ) (i : ℕ) → i / 8 < length l → 0 < i % 8 → i % 8 + m ≤ 8 → x < 2 ^ m
    → push_bits l i (low_bits x m) ≡ set l (i / 8) (bit_or (get_or l (i / 8) 0) (x * 2 ^ (i % 8)))
unfolding push_bits low_bits
few_within zero x l i h o q b =
    let z : x ≡ 0 = omega arith in
    rw z
    (sym
    (ap (λ (r : ℕ). set l (i / 8) (bit_or (get_or l (i / 8) 0) r)) (zero-mul (2 ^ (i % 8)))
    ∙ ap (λ (r : ℕ). set l (i / 8) r) (or_zero_r (get_or l (i / 8) 0))
    ∙ set-get_or l (i / 8) 0))
few_within (suc zero) x l i h o q b =
    let z : x % 2 ≡ x = omega arith in
    one_bit l i x o ∙ ap (λ (r : ℕ). set l (i / 8) (bit_or (get_or l (i / 8) 0) (r * 2 ^ (i % 8)))) z
few_within (suc (suc m)) x l i h o q b =
    let s = pow-suc 2 (suc m) in
    let d : suc i / 8 ≡ i / 8 = omega arith in
    let e : suc i % 8 ≡ suc (i % 8) = omega arith in
    let g = get_or l (i / 8) 0 in
    let y = bit_or g (x % 2 * 2 ^ (i % 8)) in
    ap (λ (r : List ℕ). push_bits r (suc i) (low_bits (x / 2) (suc m))) (one_bit l i x o)
    ∙ few_within (suc m) (x / 2) (set l (i / 8) y) (suc i) (omega (arith, length-set l (i / 8) y)) (omega arith) (omega arith) (omega arith)
    ∙ rw (d, e, get_or-set_same l (i / 8) y 0 h, set-set) (ap (λ (r : ℕ). set l (i / 8) r) (or_next g x (i % 8)))

-- from the first bit of a byte on
pub few-first : (m x : ℕ) (l : List ℕ) (i : ℕ) → i / 8 < length l → i % 8 ≡ 0 → 0 < m → m ≤ 8 → x < 2 ^ m → push_bits l i (low_bits x m) ≡ set l (i / 8) x
unfolding push_bits low_bits push_bit
few-first zero x l i h o p q b = let z : ⊥ = omega arith in absurd z
few-first (suc zero) x l i h o p q b =
    let z : x % 2 ≡ x = omega arith in
    rw o (ap (λ (r : ℕ). set l (i / 8) r) (odd (x % 2) (omega arith) ∙ z))
few-first (suc (suc m)) x l i h o p q b =
    let s = pow-suc 2 (suc m) in
    let d : suc i / 8 ≡ i / 8 = omega arith in
    let e : suc i % 8 ≡ 1 = omega arith in
    let f : push_bit l i (eqb (x % 2) 1) ≡ set l (i / 8) (x % 2) = rw o (ap (λ (r : ℕ). set l (i / 8) r) (odd (x % 2) (omega arith))) in
    let t : x / 2 * 2 + x % 2 ≡ x = omega arith in
    ap (λ (r : List ℕ). push_bits r (suc i) (low_bits (x / 2) (suc m))) f
    ∙ few_within (suc m) (x / 2) (set l (i / 8) (x % 2)) (suc i) (omega (arith, length-set l (i / 8) (x % 2))) (omega arith) (omega arith) (omega arith)
    ∙ rw (d, e, get_or-set_same l (i / 8) (x % 2) 0 h, set-set)
    (ap (λ (r : ℕ). set l (i / 8) r) (or_shifted_r (x / 2) 1 (x % 2) (omega arith) ∙ t))

-- within a byte that was begun, as the code shifts them
pub few_shifted : (m x : ℕ) (l : List ℕ) (i : ℕ) → i / 8 < length l → 0 < i % 8 → i % 8 + m ≤ 8 → x < 2 ^ m
    → set l (i / 8) (bit_or (get_or l (i / 8) 0) (x * 2 ^ (i % 8) % 256)) ≡ push_bits l i (low_bits x m)
few_shifted m x l i h o q b =
    let e : x * 2 ^ (i % 8) % 2 ^ 8 ≡ x * 2 ^ (i % 8) = shl_exact {a = x} m (i % 8) 8 b (omega arith) in
    rw e (sym (few_within m x l i h o q b))

-- the bits that end a byte that was begun, of a number with more
pub few_ended : (x : ℕ) (l : List ℕ) (i : ℕ) → i / 8 < length l → 0 < i % 8
    → set l (i / 8) (bit_or (get_or l (i / 8) 0) (x * 2 ^ (i % 8) % 256)) ≡ push_bits l i (low_bits (x % 2 ^ (8 - i % 8)) (8 - i % 8))
few_ended x l i h o =
    let g = 8 - i % 8 in
    let e : x * 2 ^ (i % 8) % 2 ^ 8 ≡ x % 2 ^ g * 2 ^ (i % 8) = kept-bits x g (i % 8) 8 (omega arith) in
    rw e (sym (few_within g (x % 2 ^ g) l i h o (omega arith) (mod-lt x (pow_pos g))))

-- across the end of a byte
pub few_across : (m x : ℕ) (l : List ℕ) (i : ℕ) → i / 8 + 1 < length l → 0 < i % 8 → 8 < i % 8 + m → m ≤ 8 → x < 2 ^ m
    → set (set l (i / 8) (bit_or (get_or l (i / 8) 0) (x * 2 ^ (i % 8) % 256))) (i / 8 + 1) (x / 2 ^ (8 - i % 8)) ≡ push_bits l i (low_bits x m)
few_across m x l i h o c q b =
    let g = 8 - i % 8 in
    let k = m - g in
    let e : g + k ≡ m = omega arith in
    let f : k + g ≡ m = omega arith in
    let d : (i + g) / 8 ≡ i / 8 + 1 = omega arith in
    let y = bit_or (get_or l (i / 8) 0) (x * 2 ^ (i % 8) % 256) in
    ap (λ (r : ℕ). set (set l (i / 8) y) r (x / 2 ^ g)) (sym d)
    ∙ sym (few-first k (x / 2 ^ g) (set l (i / 8) y) (i + g) (omega (arith, length-set l (i / 8) y)) (omega arith) (omega arith) (omega arith) (shr_lt {n = x} k g (rw f b)))
    ∙ ap (λ (r : List ℕ). push_bits r (i + g) (low_bits (x / 2 ^ g) k)) (few_ended x l i (omega arith) o)
    ∙ sym (push_split g k x l i)
    ∙ ap (λ (r : ℕ). push_bits l i (low_bits x r)) e

-- ---- a word appended

-- a byte's bits of a number, and then the others
next_byte : (x y n : ℕ) (l : List ℕ) (k q : ℕ) → k < length l → x / 2 ^ 8 ≡ y → 8 * k + 8 ≡ q → push_bits (set l k (x % 2 ^ 8)) q (low_bits y n) ≡ push_bits l (8 * k) (low_bits x (8 + n))
next_byte x y n l k q h d e =
    let f : 8 * k / 8 ≡ k = omega arith in
    let b : push_bits l (8 * k) (low_bits (x % 2 ^ 8) 8) ≡ set l (8 * k / 8) (x % 2 ^ 8) = few-first 8 (x % 2 ^ 8) l (8 * k) (omega arith) (omega arith) (omega arith) (omega arith) (mod-lt x (pow_pos 8)) in
    rw (← d, ← e, push_split 8 n x l (8 * k), b, f)

byte_value : (i x : ℕ) → byte_at i x ≡ x / 2 ^ (8 * i) % 2 ^ 8
byte_value zero x = let o : x / 1 ≡ x = omega arith in rw o
byte_value (suc i) x = rw (pow_bytes (suc i))

-- the bytes from byte i on of a number, stored from byte k on
bytes_stored : (n i x : ℕ) (l : List ℕ) (k : ℕ) → k + n ≤ length l → sets l k (bytes_low_first i n x) ≡ push_bits l (8 * k) (low_bits (x / 2 ^ (8 * i)) (8 * n))
unfolding push_bits low_bits
bytes_stored zero i x l k h = refl
bytes_stored (suc n) i x l k h =
    let y = byte_at i x in
    let e : 8 * i + 8 ≡ 8 * suc i = omega arith in
    let f : 8 + 8 * n ≡ 8 * suc n = omega arith in
    bytes_stored n (suc i) x (set l k y) (suc k) (omega (arith, length-set l k y))
    ∙ ap (λ (r : ℕ). push_bits (set l k r) (8 * suc k) (low_bits (x / 2 ^ (8 * suc i)) (8 * n))) (byte_value i x)
    ∙ next_byte (x / 2 ^ (8 * i)) (x / 2 ^ (8 * suc i)) (8 * n) l k (8 * suc k) (omega arith) (rw e at (shr-shr x (8 * i) 8)) (omega arith)
    ∙ ap (λ (r : ℕ). push_bits l (8 * k) (low_bits (x / 2 ^ (8 * i)) r)) f

-- the eight bytes of a word
pub word_stored : (x : ℕ) (l : List ℕ) (k : ℕ) → k + 8 ≤ length l → sets l k (to_le_bytes w64 x) ≡ push_bits l (8 * k) (low_bits x 64)
word_stored x l k h = let o : x / 1 ≡ x = omega arith in rw o at (bytes_stored 8 0 x l k h)

low_none : (m : ℕ) → low_bits 0 m ≡ replicate m false
unfolding low_bits
low_none zero = refl
low_none (suc m) = ap (λ (r : List Bool). false ∷ r) (low_none m)

-- zeros above a word change nothing within a byte that was begun
zeros_above : (g x : ℕ) (l : List ℕ) (i : ℕ) → x < 2 ^ 64 → 0 < i % 8 → i % 8 + g ≤ 8 → push_bits l i (low_bits x (64 + g)) ≡ push_bits l i (low_bits x 64)
zeros_above g x l i h o q =
    let z : x / 2 ^ 64 ≡ 0 = omega arith in
    let m : x % 2 ^ 64 ≡ x = omega arith in
    push_split 64 g x l i ∙ rw (z, m, low_none g) (zeros_within g (push_bits l i (low_bits x 64)) (i + 64) (omega arith) (omega arith))

-- the bits of a word that end a byte that was begun, and the others as a word
pub word_shifted : (x : ℕ) (l : List ℕ) (i : ℕ) → i / 8 < length l → 0 < i % 8 → x < 2 ^ 64
    → push_bits (set l (i / 8) (bit_or (get_or l (i / 8) 0) (bit_and (x * 2 ^ (i % 8) % 2 ^ 64) 255))) (8 * (i / 8 + 1)) (low_bits (x / 2 ^ (8 - i % 8)) 64) ≡ push_bits l i (low_bits x 64)
word_shifted x l i h o b =
    let g = 8 - i % 8 in
    let e : 8 * (i / 8 + 1) ≡ i + g = omega arith in
    let c : g + 64 ≡ 64 + g = omega arith in
    rw (and_mask (x * 2 ^ (i % 8) % 2 ^ 64) 8, mod-mod-pow (x * 2 ^ (i % 8)) 56 8, few_ended x l i h o, e)
    (sym (push_split g 64 x l i) ∙ rw c (zeros_above g x l i b o (omega arith)))

-- ---- ones counted

pub ones_low : (m x : ℕ) → x < 2 ^ m → trues (low_bits x m) ≡ ones x
unfolding trues low_bits
ones_low zero x h =
    let z : x ≡ 0 = omega arith in
    rw z (omega (arith, ones-le 0 0 (omega arith)))
ones_low (suc m) x h =
    let s = pow-suc 2 m in
    omega (arith, odd (x % 2) (omega arith), ones_low m (x / 2) (omega arith), ones_step x)

-- those of so many bits, and of the bits after them
counted_more : (f : ℕ → Bool) (p n m : ℕ) → trues (tab f p (n + m)) ≡ trues (tab f p n) + trues (tab f (p + n) m)
counted_more f p n m = ap trues (tab_split f p n m) ∙ trues-append (tab f p n) (tab f (p + n) m)

module _ (l : List ℕ) (k : ℕ) where
  -- byte i of the n from byte k on
  pub byte_counted : (n i : ℕ) → ((j : ℕ) → get_or l j 0 < 256) → i < n → trues (tab (bit_at l) (8 * k) (8 * (i + 1))) ≡ trues (tab (bit_at l) (8 * k) (8 * i)) + ones (get_or (take n (drop k l)) i 0)
  byte_counted n i small h =
      let e : 8 * i + 8 ≡ 8 * (i + 1) = omega arith in
      let q : 8 * k + 8 * i ≡ 8 * (k + i) = omega arith in
      let at : get_or (take n (drop k l)) i 0 ≡ get_or l (k + i) 0 = get_or-take n (drop k l) i 0 h ∙ get_or-drop k l i 0 in
      let whole : get_or l (k + i) 0 % 2 ^ 8 ≡ get_or l (k + i) 0 = mod-eq_of_lt (small (k + i)) in
      ap (λ (r : ℕ). trues (tab (bit_at l) (8 * k) r)) (sym e)
      ∙ counted_more (bit_at l) (8 * k) (8 * i) 8
      ∙ ap (λ (r : ℕ). trues (tab (bit_at l) (8 * k) (8 * i)) + trues (tab (bit_at l) r 8)) q
      ∙ ap (λ (r : ℕ). trues (tab (bit_at l) (8 * k) (8 * i)) + r) (ones_bits l (k + i) 8 (omega arith) ∙ ap ones (whole ∙ sym at))

  -- whole bytes, and the bits that are left
  pub bytes_counted : (n : ℕ) → trues (tab (bit_at l) (8 * k) n) ≡ trues (tab (bit_at l) (8 * k) (8 * (n / 8))) + ones (get_or l (k + n / 8) 0 % 2 ^ (n % 8))
  bytes_counted n =
      let e : 8 * (n / 8) + n % 8 ≡ n = omega arith in
      let q : 8 * k + 8 * (n / 8) ≡ 8 * (k + n / 8) = omega arith in
      ap (λ (r : ℕ). trues (tab (bit_at l) (8 * k) r)) (sym e)
      ∙ counted_more (bit_at l) (8 * k) (8 * (n / 8)) (n % 8)
      ∙ ap (λ (r : ℕ). trues (tab (bit_at l) (8 * k) (8 * (n / 8))) + trues (tab (bit_at l) r (n % 8))) q
      ∙ ap (λ (r : ℕ). trues (tab (bit_at l) (8 * k) (8 * (n / 8))) + r) (ones_bits l (k + n / 8) (n % 8) (omega arith))

module _ (f : ℕ → Bool) where
  -- word i
  pub word_counted : (i x : ℕ) → low_bits x 64 ≡ tab f (8 * (8 * i)) 64 → x < 2 ^ 64 → trues (tab f 0 (64 * (i + 1))) ≡ trues (tab f 0 (64 * i)) + ones x
  word_counted i x a b =
      let e : 64 * i + 64 ≡ 64 * (i + 1) = omega arith in
      let q : 0 + 64 * i ≡ 8 * (8 * i) = omega arith in
      ap (λ (r : ℕ). trues (tab f 0 r)) (sym e)
      ∙ counted_more f 0 (64 * i) 64
      ∙ ap (λ (r : ℕ). trues (tab f 0 (64 * i)) + trues (tab f r 64)) q
      ∙ ap (λ (r : ℕ). trues (tab f 0 (64 * i)) + r) (ap trues (sym a) ∙ ones_low 64 x b)

  -- whole words, and the bits that are left
  pub words_counted : (n : ℕ) → trues (tab f 0 n) ≡ trues (tab f 0 (64 * (n / 64))) + trues (tab f (8 * (8 * (n / 64))) (n % 64))
  words_counted n =
      let e : 64 * (n / 64) + n % 64 ≡ n = omega arith in
      let q : 0 + 64 * (n / 64) ≡ 8 * (8 * (n / 64)) = omega arith in
      ap (λ (r : ℕ). trues (tab f 0 r)) (sym e)
      ∙ counted_more f 0 (64 * (n / 64)) (n % 64)
      ∙ ap (λ (r : ℕ). trues (tab f 0 (64 * (n / 64))) + trues (tab f r (n % 64))) q
