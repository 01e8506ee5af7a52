-- The marks of a word, its bits turned over: taken from the lowest on, each a null slot's place.
use mathlib.Core.Bool.{Bool, true, false, not}
use mathlib.Core.List.{List, [], ◌∷◌, map, reverse, reverse-cons}
use mathlib.Core.Path.{◌≡◌, refl, sym, ap, ap₂, ◌∙◌}
use Prim.Native.Nat.{ℕ, zero, suc, min, ◌+◌, ◌-◌, ◌*◌, ◌/◌, ◌%◌, ◌^◌, ◌≤◌, ◌<◌}
use lib.Bits.{bit_and, and_step, and_self, and_le_r}
use Rattle.model.specs.Basics.{pick}
use native.Mathlib.Nat.{pow-suc}
use native.Mathlib.Omega.{arith}
use lib.Count.{count_trailing_zeros, under}
use lib.Dec.{eqb}
use lib.IntN.{ℤ}
use lib.ListN.{length, set, replicate, length-reverse, replicate-append-replicate}
use Rattle.bit_words.proofs.WordLaws.{length_low}
use Rattle.bit_words.specs.Words.{low_bits}
use Rattle.model.proofs.TabLaws.{length-map}
use Rattle.model.specs.Form.{under_null}
use Rattle.null_slots.proofs.NulledLaws.{nulled-append, nulled-trues, nulled-set}
use Rattle.null_slots.specs.Nulled.{nulled}
use Rattle.runs.proofs.PlainLaws.{map_same}

-- ---- the bits of a word

low_zero : (m : ℕ) → low_bits 0 m ≡ replicate m false
unfolding low_bits
low_zero zero = refl
low_zero (suc m) = ap (λ (r : List Bool). false ∷ r) (low_zero m)

turned_bit : (r q : ℕ) → r < 2 → q + r ≡ 1 → not (eqb q 1) ≡ eqb r 1
turned_bit zero q h e = let z : q ≡ 1 = omega arith in rw z
turned_bit (suc zero) q h e = let z : q ≡ 0 = omega arith in rw z
turned_bit (suc (suc r)) q h e = let z : ⊥ = omega arith in absurd z

-- the bits of a word turned over
pub low_flipped : (m w x : ℕ) → m ≤ w → x < 2 ^ w → map not (low_bits (2 ^ w - 1 - x) m) ≡ low_bits x m
unfolding low_bits
low_flipped zero w x h b = refl
low_flipped (suc m) zero x h b = let z : ⊥ = omega arith in absurd z
low_flipped (suc m) (suc w) x h b =
    let s = pow-suc 2 w in
    let q : (2 ^ suc w - 1 - x) / 2 ≡ 2 ^ w - 1 - x / 2 = omega arith in
    let t = turned_bit (x % 2) ((2 ^ suc w - 1 - x) % 2) (omega arith) (omega arith) in
    rw q (ap₂ (λ (c : Bool) (r : List Bool). c ∷ r) t (low_flipped m w (x / 2) (omega arith) (omega arith)))

-- all the bits of a word, where there are none above them
pub low_all : (m x : ℕ) → x ≡ 0 → map not (low_bits x m) ≡ replicate m true
low_all m x z = rw z (ap (map not) (low_zero m) ∙ map_same not false m)

-- ---- the lowest mark taken from a word

abbrev taken : ℕ → ℕ
taken x = bit_and x (x - 1)

taken_lt : (x : ℕ) → 0 < x → taken x < x
taken_lt x p = let l = and_le_r x (x - 1) in omega arith

taken_odd : (x : ℕ) → x % 2 ≡ 1 → (taken x % 2 ≡ 0) × (taken x / 2 ≡ x / 2)
taken_odd x e =
    let half : (x - 1) / 2 ≡ x / 2 = omega arith in
    let low : min (x % 2) ((x - 1) % 2) ≡ 0 = omega arith in
    let is : taken x ≡ x / 2 * 2 + 0 = and_step x (x - 1) ∙ ap₂ (λ (u v : ℕ). u * 2 + v) (ap (bit_and (x / 2)) half ∙ and_self (x / 2)) low in
    (omega arith, omega arith)

taken_even : (x : ℕ) → 0 < x → x % 2 ≡ 0 → (taken x % 2 ≡ 0) × (taken x / 2 ≡ taken (x / 2))
taken_even x p e =
    let half : (x - 1) / 2 ≡ x / 2 - 1 = omega arith in
    let low : min (x % 2) ((x - 1) % 2) ≡ 0 = omega arith in
    let is : taken x ≡ taken (x / 2) * 2 + 0 = and_step x (x - 1) ∙ ap₂ (λ (u v : ℕ). u * 2 + v) (ap (bit_and (x / 2)) half) low in
    (omega arith, omega arith)

-- the place of the lowest mark
lowest_by : (r w x m : ℕ) → x % 2 ≡ r → (0 < x / 2 → count_trailing_zeros w (x / 2) < m) → 0 < x → under r (count_trailing_zeros w (x / 2)) < suc m
lowest_by zero w x m e ih p = omega (arith, ih (omega arith))
lowest_by (suc r) w x m e ih p = omega arith

pub lowest : (w x m : ℕ) → m ≤ w → 0 < x → x < 2 ^ m → count_trailing_zeros w x < m
unfolding count_trailing_zeros
lowest w x zero h p b = absurd (omega arith)
lowest zero x (suc m) h p b = absurd (omega arith)
lowest (suc w) x (suc m) h p b = lowest_by (x % 2) w x m refl (λ q. lowest w (x / 2) m (omega arith) q (omega (arith, pow-suc 2 m))) p

-- what a null slot holds is written at its place, and the other marks are left
abbrev Forth : ℕ → ℕ → ℕ → ℕ → List ℤ → ℕ → Type 0
Forth j y x m d at = nulled (set d (at + j) under_null) at (map not (low_bits y m)) ≡ nulled d at (map not (low_bits x m))

forth_by : (r w x m : ℕ) (d : List ℤ) (at : ℕ) → x % 2 ≡ r → (0 < x / 2 → Forth (count_trailing_zeros w (x / 2)) (taken (x / 2)) (x / 2) m d (suc at)) → 0 < x
    → Forth (under r (count_trailing_zeros w (x / 2))) (taken x) x (suc m) d at
unfolding nulled low_bits
forth_by zero w x m d at e ih p =
    let t = taken_even x p e in
    let j = count_trailing_zeros w (x / 2) in
    let a : at + suc j ≡ suc at + j = omega arith in
    rw (t.0, t.1, e, a) (ih (omega arith))
forth_by (suc zero) w x m d at e ih p =
    let t = taken_odd x e in
    let a : at + 0 ≡ at = omega arith in
    rw (t.0, t.1, e, a)
forth_by (suc (suc r)) w x m d at e ih p = absurd (omega arith)

forth : (w x m : ℕ) (d : List ℤ) (at : ℕ) → m ≤ w → 0 < x → x < 2 ^ m → Forth (count_trailing_zeros w x) (taken x) x m d at
unfolding count_trailing_zeros
forth w x zero d at h p b = absurd (omega arith)
forth zero x (suc m) d at h p b = absurd (omega arith)
forth (suc w) x (suc m) d at h p b = forth_by (x % 2) w x m d at refl (λ q. forth w (x / 2) m d (suc at) (omega arith) q (omega (arith, pow-suc 2 m))) p

-- the same from the last place on
abbrev Back : ℕ → ℕ → ℕ → ℕ → List ℤ → ℕ → Type 0
Back j y x m d at = nulled (set d (at + (m - 1 - j)) under_null) at (reverse (map not (low_bits y m))) ≡ nulled d at (reverse (map not (low_bits x m)))

-- one bit more in front stands at the end of the reversed bits
back_bit : (b : Bool) (x m : ℕ) (d : List ℤ) (at : ℕ) → nulled d at (reverse (b ∷ map not (low_bits x m))) ≡ pick b (nulled d at (reverse (map not (low_bits x m)))) (set (nulled d at (reverse (map not (low_bits x m)))) (at + m) under_null)
unfolding nulled
back_bit b x m d at =
    let bs = map not (low_bits x m) in
    let k : length (reverse bs) ≡ m = length-reverse bs ∙ length-map not (low_bits x m) ∙ length_low x m in
    ap (λ (r : List Bool). nulled d at r) (reverse-cons b bs)
    ∙ nulled-append (reverse bs) (b ∷ []) d at
    ∙ ap (λ (r : ℕ). pick b (nulled d at (reverse bs)) (set (nulled d at (reverse bs)) (at + r) under_null)) k

back_by : (r w x m : ℕ) (d : List ℤ) (at : ℕ) → x % 2 ≡ r → (0 < x / 2 → Back (count_trailing_zeros w (x / 2)) (taken (x / 2)) (x / 2) m d at) → 0 < x
    → Back (under r (count_trailing_zeros w (x / 2))) (taken x) x (suc m) d at
unfolding low_bits
back_by zero w x m d at e ih p =
    let t = taken_even x p e in
    let j = count_trailing_zeros w (x / 2) in
    let a : suc m - 1 - suc j ≡ m - 1 - j = omega arith in
    rw (t.0, t.1, e, a, back_bit true (taken (x / 2)) m, back_bit true (x / 2) m) (ih (omega arith))
back_by (suc zero) w x m d at e ih p =
    let t = taken_odd x e in
    let a : suc m - 1 - 0 ≡ m = omega arith in
    rw (t.0, t.1, e, a, back_bit true (x / 2) m, back_bit false (x / 2) m) (sym (nulled-set (reverse (map not (low_bits (x / 2) m))) d at (at + m)))
back_by (suc (suc r)) w x m d at e ih p = absurd (omega arith)

back : (w x m : ℕ) (d : List ℤ) (at : ℕ) → m ≤ w → 0 < x → x < 2 ^ m → Back (count_trailing_zeros w x) (taken x) x m d at
unfolding count_trailing_zeros
back w x zero d at h p b = absurd (omega arith)
back zero x (suc m) d at h p b = absurd (omega arith)
back (suc w) x (suc m) d at h p b = back_by (x % 2) w x m d at refl (λ q. back w (x / 2) m d at (omega arith) q (omega (arith, pow-suc 2 m))) p

-- ---- a word's marks taken from the lowest on

-- what is left to write of the m bits bs from place at on
pub record Marking (d₀ : List ℤ) (at m : ℕ) (bs : List Bool) (d : List ℤ) (marks : ℕ) : Type 0 where
  pub written : nulled d at (map not (low_bits marks m)) ≡ nulled d₀ at bs
  pub few : marks < 2 ^ m

pub record MarkingBack (d₀ : List ℤ) (at m : ℕ) (bs : List Bool) (d : List ℤ) (marks : ℕ) : Type 0 where
  pub written : nulled d at (reverse (map not (low_bits marks m))) ≡ nulled d₀ at (reverse bs)
  pub few : marks < 2 ^ m

reverse_same : {A : Type 0} (n : ℕ) (x : A) → reverse (replicate n x) ≡ replicate n x
reverse_same zero x = refl
reverse_same (suc n) x =
    let e : n + 1 ≡ suc n = omega arith in
    reverse-cons x (replicate n x) ∙ rw (reverse_same n x, replicate-append-replicate n 1 x, e)

module _ {d₀ : List ℤ} {at m : ℕ} {bs : List Bool} {d : List ℤ} {x : ℕ} where
  pub mark_more : Marking d₀ at m bs d x → m ≤ 64 → 0 < x → Marking d₀ at m bs (set d (at + count_trailing_zeros 64 x) under_null) (bit_and x (x - 1))
  mark_more s h p = record { written = forth 64 x m d at h p s.few ∙ s.written; few = omega (arith, taken_lt x p, s.few) }

  pub marks_done : Marking d₀ at m bs d x → x ≡ 0 → d ≡ nulled d₀ at bs
  marks_done s z = sym (nulled-trues m d at) ∙ ap (λ (r : List Bool). nulled d at r) (sym (low_all m x z)) ∙ s.written

  pub back_more : MarkingBack d₀ at m bs d x → m ≤ 64 → 0 < x → MarkingBack d₀ at m bs (set d (at + (m - 1 - count_trailing_zeros 64 x)) under_null) (bit_and x (x - 1))
  back_more s h p = record { written = back 64 x m d at h p s.few ∙ s.written; few = omega (arith, taken_lt x p, s.few) }

  pub back_done : MarkingBack d₀ at m bs d x → x ≡ 0 → d ≡ nulled d₀ at (reverse bs)
  back_done s z = sym (nulled-trues m d at) ∙ ap (λ (r : List Bool). nulled d at r) (sym (reverse_same m true) ∙ ap (λ (r : List Bool). reverse r) (sym (low_all m x z))) ∙ s.written
