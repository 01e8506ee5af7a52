-- Laws of bitmaps.
use mathlib.Core.Path.{◌≡◌, refl, ap, ◌∙◌}
use mathlib.Core.Bool.{Bool, true, false, not}
use mathlib.Core.List.{List, [], ◌∷◌, ◌++◌, append-nil, append_assoc}
use Prim.Native.Nat.{ℕ, zero, suc, ◌+◌, ◌-◌, ◌*◌, ◌/◌, ◌%◌, ◌^◌, ◌≤◌, ◌<◌}
use native.Mathlib.Omega.{arith}
use native.Mathlib.Nat.{pow-suc, mul_assoc}
use borrow.Author.Tests.{ne_eqb, ltb-true, ltb-false}
use lib.Bits.{or_shifted_r}
use lib.Dec.{ltb, eqb}
use mir.Val.{bool_byte}
use lib.ListN.{length, take, drop, length-drop, length-append, length-set}
use lib.Seq.{take_all, take-append-le, drop-append-le}
use Rattle.model.specs.Bitmap.{Bits, bit, byte_of, pack, pack_n, bytes_for, short_bits, nulls}
use Rattle.bitmap.specs.Push.{Covers, push_bit, push_bits}
use Rattle.model.specs.Basics.{tab}
use Rattle.model.proofs.TabLaws.{tab-step, tab-none}
use Rattle.model.specs.Form.{over}

-- a bit within a bitmap that is long enough is within its bytes
pub within : (b : Bits) (i n : ℕ) → Covers b n → i < n → (length b.bytes ≡ 0 → ⊥) → (b.start + i) / 8 < length b.bytes
unfolding short_bits
within b i n s h z =
    let l : bytes_for (b.start + n) ≤ length b.bytes = ltb-false _ _ (rw (ne_eqb (length b.bytes) 0 z) at s.long) in
    omega arith

-- ---- packing

pub byte_of_snoc : (fs : List Bool) (b : Bool) → byte_of (fs ++ (b ∷ [])) ≡ bit b * 2 ^ length fs + byte_of fs
unfolding byte_of
byte_of_snoc [] b = omega arith
byte_of_snoc (f ∷ fs) b =
    let ih : byte_of (fs ++ (b ∷ [])) ≡ bit b * 2 ^ length fs + byte_of fs = byte_of_snoc fs b in
    let p : bit b * 2 ^ suc (length fs) ≡ bit b * 2 ^ length fs * 2 = rw (pow-suc, mul_assoc) in
    omega arith

pub byte_of_lt : (fs : List Bool) → byte_of fs < 2 ^ length fs
unfolding byte_of
byte_of_lt [] = omega arith
byte_of_lt (true ∷ fs) = let ih : byte_of fs < 2 ^ length fs = byte_of_lt fs in omega (arith, pow-suc 2 (length fs))
byte_of_lt (false ∷ fs) = let ih : byte_of fs < 2 ^ length fs = byte_of_lt fs in omega (arith, pow-suc 2 (length fs))

pub pack_cons : (fs : List Bool) → 0 < length fs → pack fs ≡ byte_of (take 8 fs) ∷ pack (drop 8 fs)
unfolding pack pack_n
pack_cons fs h =
    let e : bytes_for (length fs) ≡ suc (bytes_for (length (drop 8 fs))) = omega (arith, length-drop 8 fs) in
    rw e

pub push_cons : (x : ℕ) (l : List ℕ) (k : ℕ) (b : Bool) → push_bit (x ∷ l) (8 + k) b ≡ x ∷ push_bit l k b
unfolding push_bit
push_cons x l k b =
    let d : (8 + k) / 8 ≡ suc (k / 8) = omega arith in
    let m : (8 + k) % 8 ≡ k % 8 = omega arith in
    rw (d, m)

pack_one : (fs : List Bool) → 0 < length fs → length fs ≤ 8 → pack fs ≡ byte_of fs ∷ []
unfolding pack pack_n
pack_one fs h k =
    let e : bytes_for (length fs) ≡ 1 = omega arith in
    rw (e, take_all 8 fs k)

push_one : (y : ℕ) (d : List ℕ) (n : ℕ) (b : Bool) → 0 < n → n < 8 → y < 2 ^ n → push_bit (y ∷ d) n b ≡ (bit b * 2 ^ n + y) ∷ d
unfolding push_bit
push_one y d n b p l h =
    let q : n / 8 ≡ 0 = omega arith in
    let m : n % 8 ≡ n = omega arith in
    let e : eqb n 0 ≡ false = ne_eqb n 0 (λ z. omega arith) in
    rw (q, m, e, or_shifted_r (bit b) n y h)

push_short : (fs : List Bool) (b : Bool) (d : List ℕ) → length fs < 8 → 0 < length d → push_bit (over (pack fs) d) (length fs) b ≡ over (pack (fs ++ (b ∷ []))) d
unfolding pack pack_n byte_of push_bit
push_short fs b [] h k = let z : ⊥ = omega arith in absurd z
push_short [] true (x ∷ d) h k = refl
push_short [] false (x ∷ d) h k = refl
push_short (f ∷ fs) b (x ∷ d) h k =
    rw (pack_one (f ∷ fs) (omega arith) (omega arith), pack_one (f ∷ fs ++ (b ∷ [])) (omega arith) (omega (arith, length-append fs (b ∷ []))), push_one (byte_of (f ∷ fs)) d (length (f ∷ fs)) b (omega arith) h (byte_of_lt (f ∷ fs)), byte_of_snoc (f ∷ fs) b)

abbrev Pushes : ℕ → Type 0
Pushes n = (fs : List Bool) (b : Bool) (d : List ℕ) → length fs < 8 + 8 * n → length fs / 8 < length d → push_bit (over (pack fs) d) (length fs) b ≡ over (pack (fs ++ (b ∷ []))) d

push_long : (n : ℕ) → Pushes n → (fs : List Bool) (b : Bool) (d : List ℕ) → length fs < 8 + 8 * suc n → length fs / 8 < length d → (t : Bool) → ltb (length fs) 8 ≡ t → push_bit (over (pack fs) d) (length fs) b ≡ over (pack (fs ++ (b ∷ []))) d
push_long n ih fs b [] h k t e = let z : ⊥ = omega arith in absurd z
push_long n ih fs b (x ∷ d) h k true e = push_short fs b (x ∷ d) (ltb-true (length fs) 8 e) (omega arith)
push_long n ih fs b (x ∷ d) h k false e =
    let l : 8 ≤ length fs = ltb-false (length fs) 8 e in
    let p : length fs ≡ 8 + length (drop 8 fs) = omega (arith, length-drop 8 fs) in
    rw (pack_cons fs (omega arith), pack_cons (fs ++ (b ∷ [])) (omega (arith, length-append fs (b ∷ []))), take-append-le 8 fs (b ∷ []) l, drop-append-le 8 fs (b ∷ []) l, p, push_cons)
    (ap (λ (r : List ℕ). byte_of (take 8 fs) ∷ r) (ih (drop 8 fs) b d (omega arith) (omega arith)))

push_any : (n : ℕ) → Pushes n
push_any zero fs b d h k = push_short fs b d (omega arith) (omega arith)
push_any (suc n) fs b d h k = push_long n (push_any n) fs b d h k (ltb (length fs) 8) refl

pub push_pack : (fs : List Bool) (b : Bool) (d : List ℕ) → length fs / 8 < length d → push_bit (over (pack fs) d) (length fs) b ≡ over (pack (fs ++ (b ∷ []))) d
push_pack fs b d k = push_any (length fs) fs b d (omega arith) k

pub length-push_bit : (l : List ℕ) (i : ℕ) (b : Bool) → length (push_bit l i b) ≡ length l
unfolding push_bit
length-push_bit l i b = simp length-set

pub length-push_bits : (l : List ℕ) (i : ℕ) (bs : List Bool) → length (push_bits l i bs) ≡ length l
unfolding push_bits
length-push_bits l i [] = refl
length-push_bits l i (b ∷ bs) = length-push_bits (push_bit l i b) (suc i) bs ∙ length-push_bit l i b

-- bits pushed after those packed
pub pushes_pack : (gs fs : List Bool) (d : List ℕ) → bytes_for (length gs + length fs) ≤ length d → push_bits (over (pack gs) d) (length gs) fs ≡ over (pack (gs ++ fs)) d
unfolding push_bits
pushes_pack gs [] d h = rw append-nil
pushes_pack gs (f ∷ fs) d h =
    let e : suc (length gs) ≡ length (gs ++ (f ∷ [])) = omega (arith, length-append gs (f ∷ [])) in
    rw (push_pack gs f d (omega arith), e)
    (pushes_pack (gs ++ (f ∷ [])) fs d (omega (arith, length-append gs (f ∷ []))) ∙ rw (append_assoc gs (f ∷ []) fs))

-- ---- counting

pub nulls-step : (v : ℕ → Bool) (p n : ℕ) → 0 < n → nulls (tab v p n) ≡ bit (not (v p)) + nulls (tab v (p + 1) (n - 1))
unfolding nulls
nulls-step v p n h = rw (tab-step v p n h)

pub nulls-none : (v : ℕ → Bool) (p n : ℕ) → n ≤ 0 → nulls (tab v p n) ≡ 0
unfolding nulls
nulls-none v p n h = rw (tab-none v p n h)

pub nulls-append : (fs gs : List Bool) → nulls (fs ++ gs) ≡ nulls fs + nulls gs
unfolding nulls
nulls-append [] gs = omega arith
nulls-append (f ∷ fs) gs = omega (arith, nulls-append fs gs)

pub nulls_le : (fs : List Bool) → nulls fs ≤ length fs
unfolding nulls
nulls_le [] = omega arith
nulls_le (true ∷ fs) = omega (arith, nulls_le fs)
nulls_le (false ∷ fs) = omega (arith, nulls_le fs)

-- ---- a bit as a number

pub bit_le : (b : Bool) → bit b ≤ 1
bit_le true = omega arith
bit_le false = omega arith

pub bit_byte : (b : Bool) → bool_byte b ≡ bit b
bit_byte true = refl
bit_byte false = refl
