-- Laws of a bitmap cut at a bit: from the byte on that holds it.
use mathlib.Core.Path.{◌≡◌, refl}
use mathlib.Core.Bool.{Bool, true, false, not, ◌&&◌}
use mathlib.Core.List.{List}
use Prim.Native.Nat.{ℕ, ◌+◌, ◌/◌, ◌%◌, ◌≤◌, ◌<◌}
use native.Mathlib.Omega.{arith}
use borrow.Author.Tests.{eq-eqb, ne_eqb, ltb-false, le-ltb, eqb-true, eqb-false}
use lib.Dec.{eqb}
use lib.ListN.{length, drop, length-drop}
use lib.Seq.{get_or-drop}
use Rattle.model.specs.Bitmap.{Bits, bit_at, valid_at, short_bits, bytes_for}
use Rattle.bitmap.specs.Push.{Covers, bits_from}
use Rattle.bitmap.proofs.BitLaws.{within}

-- bit a + i of a bitmap is bit i of what is left from bit a on
bit-from : (s a i : ℕ) (bytes : List ℕ) → bit_at (drop ((s + a) / 8) bytes) ((s + a) % 8 + i) ≡ bit_at bytes (s + (a + i))
bit-from s a i bytes =
    let q : (s + a) / 8 + ((s + a) % 8 + i) / 8 ≡ (s + (a + i)) / 8 = omega arith in
    let m : ((s + a) % 8 + i) % 8 ≡ (s + (a + i)) % 8 = omega arith in
    rw (get_or-drop, q, m)

and_false : (x : Bool) → x && false ≡ false
and_false true = refl
and_false false = refl

-- a bitmap that isn't empty is long enough
pub long : (eb : Bits) (N : ℕ) → Covers eb N → (length eb.bytes ≡ 0 → ⊥) → bytes_for (eb.start + N) ≤ length eb.bytes
unfolding short_bits
long eb N g z = ltb-false _ _ (rw (ne_eqb (length eb.bytes) 0 z) at g.long)

module _ (eb : Bits) (a n N : ℕ) (g : Covers eb N) (h : a + n ≤ N) where
  short-from : (t : Bool) → eqb (length eb.bytes) 0 ≡ t → short_bits (bits_from eb a) n ≡ false
  unfolding short_bits bits_from
  short-from true e =
      let z : length eb.bytes ≡ 0 = eqb-true _ _ e in
      let d : length (drop ((eb.start + a) / 8) eb.bytes) ≡ 0 = omega (arith, length-drop ((eb.start + a) / 8) eb.bytes) in
      rw (eq-eqb _ _ d)
  short-from false e =
      let l = long eb N g (eqb-false _ _ e) in
      let d : bytes_for ((eb.start + a) % 8 + n) ≤ length (drop ((eb.start + a) / 8) eb.bytes) = omega (arith, length-drop ((eb.start + a) / 8) eb.bytes) in
      rw (le-ltb _ _ d) (and_false (not (eqb (length (drop ((eb.start + a) / 8) eb.bytes)) 0)))

  pub covers_from : Covers (bits_from eb a) n
  unfolding bits_from
  covers_from = record { small = omega arith; long = short-from (eqb (length eb.bytes) 0) refl }

  module _ (i : ℕ) (k : i < n) where
    valid_by : (t : Bool) → eqb (length eb.bytes) 0 ≡ t → valid_at (bits_from eb a) i ≡ valid_at eb (a + i)
    unfolding valid_at bits_from
    valid_by true e =
        let z : length eb.bytes ≡ 0 = eqb-true _ _ e in
        let d : length (drop ((eb.start + a) / 8) eb.bytes) ≡ 0 = omega (arith, length-drop ((eb.start + a) / 8) eb.bytes) in
        rw (eq-eqb _ _ d, e)
    valid_by false e =
        let w = within eb (a + i) N g (omega arith) (eqb-false _ _ e) in
        let d : length (drop ((eb.start + a) / 8) eb.bytes) ≡ 0 → ⊥ = λ z. omega (arith, length-drop ((eb.start + a) / 8) eb.bytes) in
        rw (ne_eqb _ _ d, e) (bit-from eb.start a i eb.bytes)

    pub valid_from : valid_at (bits_from eb a) i ≡ valid_at eb (a + i)
    valid_from = valid_by (eqb (length eb.bytes) 0) refl
