-- The numbers in bytes, read and written N bytes at a time.
use mathlib.Core.Path.{◌≡◌, refl, ap, sym}
use mathlib.Core.List.{List, flat_map}
use Prim.Native.Nat.{ℕ, zero, suc, ◌+◌, ◌*◌, ◌/◌, ◌<◌, ◌≤◌}
use native.Mathlib.Omega.{arith}
use lib.ListN.{length, get_or, take, drop}
use lib.IntN.{ℤ}
use mir.Syntax.{Width}
use mir.Val.{bytes, to_z, of_z}
use Rattle.std.proofs.lemmas.List.{get_or-take, get_or-drop}
use native.Mathlib.Nat.{add_assoc, add-zero, zero-add, zero-mul}
use native.Mathlib.Numerals.{one-add}
use Rattle.model.specs.Basics.{tab}
use Rattle.model.proofs.TabLaws.{tab_ext}
use Rattle.wire.specs.Bytes.{number, little_endian, int, ints, nat, nats, bytes_of_int, bytes_of, bytes_of_counts, bytes_of_nats}

pub four_bytes : (0 < 4) × (4 ≤ 8)
four_bytes = (omega arith, omega arith)

pub eight_bytes : (0 < 8) × (8 ≤ 8)
eight_bytes = (omega arith, omega arith)

pub length-little_endian : (k n : ℕ) → length (little_endian k n) ≡ k
unfolding little_endian
length-little_endian zero n = refl
length-little_endian (suc k) n = ap suc (length-little_endian k (n / 256))

pub length-bytes_of_int : (w : Width) (z : ℤ) → length (bytes_of_int w z) ≡ bytes w
unfolding bytes_of_int
length-bytes_of_int w z = length-little_endian (bytes w) (of_z w z)

-- a number depends on its bytes alone
pub number_same : (k : ℕ) (s t : List ℕ) (a b : ℕ) → ((i : ℕ) → i < k → get_or s (a + i) 0 ≡ get_or t (b + i) 0) → number k s a ≡ number k t b
unfolding number
number_same zero s t a b h = refl
number_same (suc k) s t a b h =
    let here : get_or s a 0 ≡ get_or t b 0 = rw (add-zero, add-zero) at (h 0 (omega arith)) in
    let rest : number k s (a + 1) ≡ number k t (b + 1) = number_same k s t (a + 1) (b + 1) (λ i l. rw (add_assoc a 1 i, add_assoc b 1 i, one-add i) (h (suc i) (omega arith))) in
    rw (here, rest)

-- the number in the k bytes cut out at `at`
pub number_cut : (k : ℕ) (s : List ℕ) (at : ℕ) → number k (take k (drop at s)) 0 ≡ number k s at
number_cut k s at = number_same k (take k (drop at s)) s 0 at (λ i h. rw (zero-add, get_or-take k (drop at s) i 0 h, get_or-drop at s i 0))

cut : (k : ℕ) (s : List ℕ) (i : ℕ) → number k s (i * k) ≡ number k (take k (drop (i * k) s)) (0 * k)
cut k s i = rw zero-mul (sym (number_cut k s (i * k)))

pub ints-read : (w : Width) (s : List ℕ) → ints w s ≡ tab (λ i. int w (take (bytes w) (drop (i * bytes w) s)) 0) 0 (length s / bytes w)
unfolding ints int nat
ints-read w s = tab_ext (int w s) (λ i. int w (take (bytes w) (drop (i * bytes w) s)) 0) 0 0 (length s / bytes w)
    (λ i _. let at : 0 + i ≡ i = omega arith in rw at (ap (to_z w) (cut (bytes w) s i)))

pub nats-read : (k : ℕ) (s : List ℕ) → nats k s ≡ tab (λ i. nat k (take k (drop (i * k) s)) 0) 0 (length s / k)
unfolding nats nat
nats-read k s = tab_ext (nat k s) (λ i. nat k (take k (drop (i * k) s)) 0) 0 0 (length s / k) (λ i _. let at : 0 + i ≡ i = omega arith in rw at (cut k s i))

pub bytes_of-written : (w : Width) (v : List ℤ) → bytes_of w v ≡ flat_map (bytes_of_int w) v
unfolding bytes_of
bytes_of-written w v = refl

pub nats-written : (k : ℕ) (v : List ℕ) → bytes_of_nats k v ≡ flat_map (little_endian k) v
nats-written k v = refl

pub counts-written : (v : List ℕ) → bytes_of_counts v ≡ flat_map (little_endian 8) v
unfolding bytes_of_counts
counts-written v = refl
