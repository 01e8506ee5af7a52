-- Laws of bits counted byte by byte.
use mathlib.Core.Path.{◌≡◌, refl, sym, ap, ◌∙◌}
use mathlib.Core.Bool.{Bool, true, false}
use mathlib.Core.List.{List, [], ◌∷◌, ◌++◌}
use Prim.Native.Nat.{ℕ, zero, suc, ◌+◌, ◌-◌, ◌*◌, ◌/◌, ◌%◌, ◌^◌, ◌≤◌, ◌<◌}
use native.Mathlib.Omega.{arith}
use native.Mathlib.Nat.{mod-lt}
use lib.Pow.{pow_pos, mod-pow-add}
use lib.Count.{ones, ones_step, ones_cat, ones-le}
use lib.Dec.{eqb}
use lib.ListN.{length, get_or}
use Rattle.model.specs.Bitmap.{bit, bit_at}
use Rattle.bitmap.specs.Push.{trues}
use Rattle.model.specs.Basics.{tab}
use Rattle.model.proofs.TabLaws.{length-tab, tab-last, tab_split}

pub trues-append : (fs gs : List Bool) → trues (fs ++ gs) ≡ trues fs + trues gs
unfolding trues
trues-append [] gs = omega arith
trues-append (f ∷ fs) gs = omega (arith, trues-append fs gs)

bit_odd : (y : ℕ) → y < 2 → bit (eqb y 1) ≡ y
bit_odd zero h = refl
bit_odd (suc zero) h = refl
bit_odd (suc (suc y)) h = let z : ⊥ = omega arith in absurd z

ones_zero : ones 0 ≡ 0
ones_zero = omega (arith, ones-le 0 0 (omega arith))

ones_bit : (a : ℕ) → a < 2 → ones a ≡ a
ones_bit a h =
    let m : a % 2 ≡ a = omega arith in
    let d : a / 2 ≡ 0 = omega arith in
    ones_step a ∙ rw (m, d, ones_zero) (omega arith)

-- the ones of a byte's m lowest bits
pub ones_bits : (bm : List ℕ) (k m : ℕ) → m ≤ 8 → trues (tab (bit_at bm) (8 * k) m) ≡ ones (get_or bm k 0 % 2 ^ m)
unfolding trues tab
ones_bits bm k zero h = let z : get_or bm k 0 % 1 ≡ 0 = omega arith in rw z (sym ones_zero)
ones_bits bm k (suc m) h =
    let b : ℕ = get_or bm k 0 in
    let ih = ones_bits bm k m (omega arith) in
    let q : (8 * k + m) / 8 ≡ k = omega arith in
    let r : (8 * k + m) % 8 ≡ m = omega arith in
    let f : bit (bit_at bm (8 * k + m)) ≡ get_or bm k 0 / 2 ^ m % 2 = rw (q, r) (bit_odd _ (mod-lt _ (omega arith))) in
    let e : 1 + m ≡ suc m = omega arith in
    let c : ones (get_or bm k 0 % 2 ^ suc m) ≡ ones (get_or bm k 0 / 2 ^ m % 2) + ones (get_or bm k 0 % 2 ^ m) =
    rw (← e, mod-pow-add (get_or bm k 0) 1 m) (ones_cat m (get_or bm k 0 / 2 ^ m % 2) (get_or bm k 0 % 2 ^ m) (mod-lt _ (pow_pos m))) in
    let o : ones (get_or bm k 0 / 2 ^ m % 2) ≡ get_or bm k 0 / 2 ^ m % 2 = ones_bit _ (mod-lt _ (omega arith)) in
    let l : trues (tab (bit_at bm) (8 * k) m ++ (bit_at bm (8 * k + m) ∷ [])) ≡ trues (tab (bit_at bm) (8 * k) m) + bit (bit_at bm (8 * k + m)) = trues-append (tab (bit_at bm) (8 * k) m) (bit_at bm (8 * k + m) ∷ []) ∙ omega arith in
    ap trues (tab-last (bit_at bm) (8 * k) m) ∙ omega arith

pub whole_byte : (bm : List ℕ) (k n : ℕ) → 8 ≤ n → trues (tab (bit_at bm) (8 * k) n) ≡ ones (get_or bm k 0 % 2 ^ 8) + trues (tab (bit_at bm) (8 * (k + 1)) (n - 8))
whole_byte bm k n h =
    let e : n ≡ 8 + (n - 8) = omega arith in
    let s : 8 * k + 8 ≡ 8 * (k + 1) = omega arith in
    ap (λ (j : ℕ). trues (tab (bit_at bm) (8 * k) j)) e ∙ rw (tab_split (bit_at bm) (8 * k) 8 (n - 8), trues-append, ones_bits bm k 8 (omega arith), s)

pub ones_mod_le : (b m : ℕ) → ones (b % 2 ^ m) ≤ m
ones_mod_le b m = ones-le m (b % 2 ^ m) (mod-lt b (pow_pos m))

pub trues-none : (f : ℕ → Bool) (a : ℕ) → trues (tab f a 0) ≡ 0
unfolding trues tab
trues-none f a = refl

trues_le : (fs : List Bool) → trues fs ≤ length fs
unfolding trues
trues_le [] = omega arith
trues_le (true ∷ fs) = omega (arith, trues_le fs)
trues_le (false ∷ fs) = omega (arith, trues_le fs)

pub trues-tab : (f : ℕ → Bool) (a n : ℕ) → trues (tab f a n) ≤ n
trues-tab f a n = omega (arith, trues_le (tab f a n), length-tab f a n)
