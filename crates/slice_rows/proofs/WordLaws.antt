-- Laws of the bits of rows read at once: ones where no bitmap is lent, and both of two bits.
use Prim.Native.Nat.{ℕ, zero, suc, ◌+◌, ◌-◌, ◌/◌, ◌%◌, ◌≤◌, ◌<◌, min}
use mathlib.Core.Path.{◌≡◌, refl, sym, ap, ◌∙◌}
use mathlib.Core.Bool.{Bool, true, false, ◌&&◌}
use mathlib.Core.List.{List, [], ◌∷◌}
use native.Mathlib.Nat.{zero-min}
use native.Mathlib.Omega.{arith}
use borrow.Author.Tests.{ne_eqb, ltb-false, lt-ltb, le-ltb}
use lib.Bits.{bit_and, and_step}
use lib.Dec.{eqb, ltb}
use lib.ListN.{length}
use mir.Val.{bool_byte}
use Rattle.bit_words.specs.Words.{low_bits}
use Rattle.model.specs.Basics.{pick, tab}
use Rattle.model.specs.Bitmap.{Bits, bit_at, valid_at, bytes_for, short_bits}
use Rattle.model.proofs.TabLaws.{tab_ext}
use Rattle.bitmap.specs.Push.{Covers}
use Rattle.slice_rows.specs.Sliced.{batch_of}

-- ---- ones

pub all_ones : (f : ℕ → Bool) (r left : ℕ) → ((i : ℕ) → f i ≡ true) → low_bits 18446744073709551615 (batch_of left) ≡ tab f r (batch_of left)
unfolding batch_of low_bits tab
all_ones f r left h = cases (ltb left 64) ∙ tab_ext (λ i. true) f r r (batch_of left) (λ i o. sym (h (r + i)))
  where
    cases : (t : Bool) → low_bits 18446744073709551615 (pick t 1 64) ≡ tab (λ i. true) r (pick t 1 64)
    cases true = refl
    cases false = refl

pub empty_valid : (b : Bits) → length b.bytes ≡ 0 → (i : ℕ) → valid_at b i ≡ true
unfolding valid_at
empty_valid b e i = rw e

-- ---- bits that are lent

-- there are bytes for all n
pub enough_bytes : (b : Bits) (n : ℕ) → Covers b n → (length b.bytes ≡ 0 → ⊥) → bytes_for (b.start + n) ≤ length b.bytes
unfolding short_bits
enough_bytes b n g h = omega (arith, ltb-false (length b.bytes) (bytes_for (b.start + n)) (rw (ne_eqb (length b.bytes) 0 h) at g.long))

-- they are those of the rows
pub lent_bits_lem : (b : Bits) (q r m : ℕ) → q ≡ b.start + r → (length b.bytes ≡ 0 → ⊥) → tab (bit_at b.bytes) q m ≡ tab (valid_at b) r m
unfolding valid_at
lent_bits_lem b q r m e h =
    tab_ext (bit_at b.bytes) (valid_at b) q r m
    (λ i o.
    let d : q + i ≡ b.start + (r + i) = omega arith in
    rw (ne_eqb (length b.bytes) 0 h, d))

-- ---- both of two bits

both_odd : (x y : ℕ) → x < 2 → y < 2 → eqb (min x y) 1 ≡ eqb x 1 && eqb y 1
both_odd zero y h k = ap (λ (m : ℕ). eqb m 1) (zero-min y)
both_odd (suc zero) zero h k = refl
both_odd (suc zero) (suc zero) h k = refl
both_odd (suc zero) (suc (suc y)) h k = let z : ⊥ = omega arith in absurd z
both_odd (suc (suc x)) y h k = let z : ⊥ = omega arith in absurd z

min_small : (x y : ℕ) → x < 2 → min x y < 2
min_small x y h = omega arith

pub and_bits : (f g : ℕ → Bool) (m x y p : ℕ) → low_bits x m ≡ tab f p m → low_bits y m ≡ tab g p m → low_bits (bit_and x y) m ≡ tab (λ i. f i && g i) p m
unfolding low_bits tab
and_bits f g zero x y p a b = refl
and_bits f g (suc m) x y p a b =
    let s = and_step x y in
    let t = min_small (x % 2) (y % 2) (omega arith) in
    let d : bit_and x y / 2 ≡ bit_and (x / 2) (y / 2) = omega arith in
    let e : bit_and x y % 2 ≡ min (x % 2) (y % 2) = omega arith in
    let h : eqb (x % 2) 1 ≡ f p = cc in
    let k : eqb (y % 2) 1 ≡ g p = cc in
    let u : low_bits (x / 2) m ≡ tab f (suc p) m = cc in
    let v : low_bits (y / 2) m ≡ tab g (suc p) m = cc in
    rw (d, e, both_odd (x % 2) (y % 2) (omega arith) (omega arith), h, k) (ap (λ (l : List Bool). (f p && g p) ∷ l) (and_bits f g m (x / 2) (y / 2) (suc p) u v))

pub and_ones : (f : ℕ → Bool) (m x p : ℕ) → low_bits x m ≡ tab f p m → low_bits x m ≡ tab (λ i. f i && true) p m
and_ones f m x p a = a ∙ tab_ext f (λ i. f i && true) p p m (λ i o. same (f (p + i)))
  where
    same : (b : Bool) → b ≡ b && true
    same true = refl
    same false = refl

-- ---- a batch

pub one_bit : (f : ℕ → Bool) (r left : ℕ) (b : Bool) → left < 64 → b ≡ f r → low_bits (bool_byte b) (batch_of left) ≡ tab f r (batch_of left)
unfolding batch_of low_bits tab
one_bit f r left b h e = rw (lt-ltb left 64 h, ← e) (cases b)
  where
    cases : (t : Bool) → low_bits (bool_byte t) 1 ≡ t ∷ []
    cases true = refl
    cases false = refl

pub word_bits : (f : ℕ → Bool) (r left w : ℕ) → 64 ≤ left → low_bits w 64 ≡ tab f r 64 → low_bits w (batch_of left) ≡ tab f r (batch_of left)
unfolding batch_of
word_bits f r left w h e = rw (le-ltb left 64 h) e

-- ---- bits that are held: the first of them, and the rest

module _ (f : ℕ → Bool) (r word : ℕ) where
  pub held_first : (known : ℕ) → low_bits word known ≡ tab f r known → 0 < known → eqb (word % 2) 1 ≡ f r
  unfolding low_bits tab
  held_first zero b s = let z : ⊥ = omega arith in absurd z
  held_first (suc k) b s = cc

  pub held_rest : (known : ℕ) → low_bits word known ≡ tab f r known → 0 < known → low_bits (word / 2) (known - 1) ≡ tab f (r + 1) (known - 1)
  unfolding low_bits tab
  held_rest zero b s = let z : ⊥ = omega arith in absurd z
  held_rest (suc k) b s =
      let t : low_bits (word / 2) k ≡ tab f (suc r) k = cc in
      let e : suc k - 1 ≡ k = omega arith in
      let d : r + 1 ≡ suc r = omega arith in
      rw (e, d) t
