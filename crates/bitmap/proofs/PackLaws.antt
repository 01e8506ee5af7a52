-- What is read back from bits that were packed, and the nulls counted in them.
use mathlib.Core.Path.{◌≡◌, refl, sym, ◌∙◌}
use mathlib.Core.Bool.{Bool, true, false}
use mathlib.Core.List.{List, [], ◌∷◌}
use Prim.Native.Nat.{ℕ, zero, suc, ◌+◌, ◌-◌, ◌*◌, ◌/◌, ◌%◌, ◌^◌, ◌≤◌, ◌<◌}
use native.Mathlib.Omega.{arith}
use borrow.Author.Tests.{ne_eqb, ltb-true, ltb-false}
use lib.Dec.{ltb, eqb}
use lib.Pow.{shr-shr}
use lib.ListN.{length, get_or, take, drop, length-drop, length-take, get_or-append}
use lib.Seq.{get_or-take, get_or-drop}
use Rattle.model.specs.Basics.{tab}
use Rattle.model.specs.Bitmap.{bit, byte_of, pack, bit_at, from, valid_at, nulls}
use Rattle.model.specs.Form.{over}
use Rattle.model.proofs.TabLaws.{tab-get_or}
use Rattle.model.proofs.FormLaws.{length-pack}
use Rattle.bitmap.specs.Push.{trues}
use Rattle.bitmap.proofs.BitLaws.{pack_cons}

bit_of : (fs : List Bool) (i : ℕ) → i < length fs → byte_of fs / 2 ^ i % 2 ≡ bit (get_or fs i false)
unfolding byte_of
bit_of [] i h = omega arith
bit_of (true ∷ fs) zero h = omega arith
bit_of (false ∷ fs) zero h = omega arith
bit_of (b ∷ fs) (suc i) h =
    let s : (bit b + 2 * byte_of fs) / 2 ^ (1 + i) ≡ (bit b + 2 * byte_of fs) / 2 ^ 1 / 2 ^ i = sym (shr-shr (bit b + 2 * byte_of fs) 1 i) in
    let e : 1 + i ≡ suc i = omega arith in
    let d : (bit b + 2 * byte_of fs) / 2 ≡ byte_of fs = half b (byte_of fs) in
    rw (← e, s, d) (bit_of fs i (omega arith))
  where
    half : (b : Bool) (x : ℕ) → (bit b + 2 * x) / 2 ≡ x
    half true x = omega arith
    half false x = omega arith

is_bit : (b : Bool) → eqb (bit b) 1 ≡ b
is_bit true = refl
is_bit false = refl

bit-short : (fs : List Bool) (i : ℕ) → i < length fs → i < 8 → bit_at (pack fs) i ≡ get_or fs i false
bit-short fs i h k =
    let q : i / 8 ≡ 0 = omega arith in
    let m : i % 8 ≡ i = omega arith in
    let l : i < length (take 8 fs) = omega (arith, length-take 8 fs) in
    rw (q, m, pack_cons fs (omega arith), bit_of (take 8 fs) i l, is_bit, get_or-take 8 fs i false k)

abbrev Packs : ℕ → Type 0
Packs n = (fs : List Bool) (i : ℕ) → i < length fs → i < 8 + 8 * n → bit_at (pack fs) i ≡ get_or fs i false

bit-long : (n : ℕ) → Packs n → (fs : List Bool) (i : ℕ) → i < length fs → i < 8 + 8 * suc n → (t : Bool) → ltb i 8 ≡ t → bit_at (pack fs) i ≡ get_or fs i false
bit-long n ih fs i h k true e = bit-short fs i h (ltb-true i 8 e)
bit-long n ih fs i h k false e =
    let l : 8 ≤ i = ltb-false i 8 e in
    let q : i / 8 ≡ suc ((i - 8) / 8) = omega arith in
    let m : i % 8 ≡ (i - 8) % 8 = omega arith in
    let s : 8 + (i - 8) ≡ i = omega arith in
    rw (q, m, pack_cons fs (omega arith))
    (ih (drop 8 fs) (i - 8) (omega (arith, length-drop 8 fs)) (omega arith) ∙ get_or-drop 8 fs (i - 8) false ∙ rw s)

packs : (n : ℕ) → Packs n
packs zero fs i h k = bit-short fs i h (omega arith)
packs (suc n) fs i h k = bit-long n (packs n) fs i h k (ltb i 8) refl

-- bit i of what is packed is the i-th of the bits
pub bit-pack : (fs : List Bool) (i : ℕ) → i < length fs → bit_at (pack fs) i ≡ get_or fs i false
bit-pack fs i h = packs i fs i h (omega arith)

pub valid_pack : (fs : List Bool) (i : ℕ) → i < length fs → valid_at (from 0 (pack fs)) i ≡ get_or fs i false
unfolding valid_at
valid_pack fs i h =
    let z : 0 + i ≡ i = omega arith in
    rw (ne_eqb (length (pack fs)) 0 (λ z. omega (arith, length-pack fs)), z) (bit-pack fs i h)

bit-over : (fs : List Bool) (d : List ℕ) (i : ℕ) → i < length fs → bit_at (over (pack fs) d) i ≡ get_or fs i false
bit-over fs d i h =
    rw (get_or-append (pack fs) (drop (length (pack fs)) d) 0 (i / 8) (omega (arith, length-pack fs))) (bit-pack fs i h)

set-bits : (fs : List Bool) (d : List ℕ) → tab (bit_at (over (pack fs) d)) 0 (length fs) ≡ fs
set-bits fs d = tab-get_or (bit_at (over (pack fs) d)) 0 fs false (λ i h. let z : 0 + i ≡ i = omega arith in rw z (bit-over fs d i h))

trues-nulls : (fs : List Bool) → trues fs + nulls fs ≡ length fs
unfolding trues nulls
trues-nulls [] = refl
trues-nulls (true ∷ fs) = omega (arith, trues-nulls fs)
trues-nulls (false ∷ fs) = omega (arith, trues-nulls fs)

pub counted-nulls : (fs : List Bool) (d : List ℕ) (n : ℕ) → n ≡ length fs → trues (tab (bit_at (over (pack fs) d)) 0 n) + nulls fs ≡ n
counted-nulls fs d n e = rw (e, set-bits fs d) (trues-nulls fs)
