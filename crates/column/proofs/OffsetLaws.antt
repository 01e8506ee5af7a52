-- Laws of offsets: the check of refusal 1, and a signed number as a count.
use mathlib.Core.Path.{◌≡◌, refl, sym, ap, ◌∙◌, subst}
use Rattle.std.proofs.Common.{map}
use Rattle.std.proofs.lemmas.List.{get_or-map, length-map}
use mathlib.Core.Bool.{Bool, true, false, ◌||◌}
use mathlib.Core.List.{List, [], ◌∷◌}
use Prim.Native.Nat.{ℕ, zero, suc, ◌+◌, ◌^◌, ◌≤◌, ◌<◌}
use native.Mathlib.Omega.{arith}
use native.Mathlib.Numerals.{add-one}
use borrow.Author.Tests.{ltb-true, ltb-false, le-ltb}
use lib.Dec.{ltb, T}
use lib.IntN.{ℤ, pos, negsuc, nat_abs}
use lib.Signed.{mag, lt_z, non_neg}
use mir.Syntax.{Width, w64}
use mir.Val.{bits, hbits, Fits, to_z, of_z}
use mir.Facts.{to_z-of_z, Fits-nat_abs}
use lib.ListN.{length, get_or, drop, drop_of_length-le}
use lib.Seq.{drop-cons}
use Rattle.model.specs.Column.{count, falls, bad_offsets, offset_at}
use Rattle.model.proofs.BoolLaws.{or_none}

pub falls-step : (l : List ℤ) (n i : ℕ) → i + 1 < length l → falls (get_or l i (pos 0)) (drop (i + 1) l) n ≡ lt_z (get_or l (i + 1) (pos 0)) (get_or l i (pos 0)) || falls (get_or l (i + 1) (pos 0)) (drop (i + 1 + 1) l) n
unfolding falls
falls-step l n i h = rw (drop-cons l (i + 1) (pos 0) h, add-one (i + 1))

pub count_beyond : (n : ℕ) (o : ℤ) → ltb n (count o) ≡ lt_z (pos n) o
unfolding count
count_beyond n (pos m) = refl
count_beyond n (negsuc m) = le-ltb n 0 (omega arith)

pub falls-last : (l : List ℤ) (n i : ℕ) → length l ≤ i + 1 → ltb n (offset_at l i) ≡ falls (get_or l i (pos 0)) (drop (i + 1) l) n
unfolding falls
falls-last l n i h = rw (drop_of_length-le l h) (count_beyond n (get_or l i (pos 0)))

pub bad_falls : (l : List ℤ) (n : ℕ) → falls (pos 0) (drop 0 l) n ≡ bad_offsets l n
unfolding bad_offsets falls
bad_falls [] n = le-ltb n 0 (omega arith)
bad_falls (x ∷ l) n = refl

not_below : (v : ℕ) (o : ℤ) → lt_z o (pos v) ≡ false → o ≡ pos (count o)
unfolding count
not_below v (pos n) h = refl
not_below v (negsuc n) h = absurd (subst T h tt)

-- a turn of the check: v is the offset before the one at i
module _ (l : List ℤ) (n v i : ℕ) (G : Bool) (h : i < length l) (g : falls (pos v) (drop i l) n ≡ G) where
  falls_turn : lt_z (get_or l i (pos 0)) (pos v) || falls (get_or l i (pos 0)) (drop (i + 1) l) n ≡ G
  unfolding falls
  falls_turn = rw (add-one i) (rw (drop-cons l i (pos 0) h) at g)

  pub falls_now : lt_z (get_or l i (pos 0)) (pos v) ≡ true → true ≡ G
  falls_now t = rw t at falls_turn

  pub falls_on : lt_z (get_or l i (pos 0)) (pos v) ≡ false → falls (pos (offset_at l i)) (drop (i + 1) l) n ≡ G
  falls_on t = rw (← not_below v (get_or l i (pos 0)) t) (rw t at falls_turn)

pub falls-end : (l : List ℤ) (n v i : ℕ) (G : Bool) → length l ≤ i → falls (pos v) (drop i l) n ≡ G → ltb n v ≡ G
unfolding falls
falls-end l n v i G h g = rw (drop_of_length-le l h) at g

-- an offset that does not fall
count_mono : (o p : ℤ) → lt_z p o ≡ false → count o ≤ count p
unfolding count
count_mono (pos a) (pos b) h = ltb-false b a h
count_mono (pos a) (negsuc b) h = absurd (subst T h tt)
count_mono (negsuc a) (pos b) h = omega arith
count_mono (negsuc a) (negsuc b) h = omega arith

falls_mono : (o : ℤ) (os : List ℤ) (n i : ℕ) → falls o os n ≡ false → i < length os → offset_at (o ∷ os) i ≤ offset_at (o ∷ os) (suc i)
unfolding falls
falls_mono o [] n i h l = omega arith
falls_mono o (p ∷ os) n zero h l = count_mono o p (or_none (lt_z p o) (falls p os n) h).0
falls_mono o (p ∷ os) n (suc i) h l = falls_mono p os n i (or_none (lt_z p o) (falls p os n) h).1 (omega arith)

falls_top : (o : ℤ) (os : List ℤ) (n i : ℕ) → falls o os n ≡ false → i < length (o ∷ os) → offset_at (o ∷ os) i ≤ n
unfolding falls
falls_top o [] n zero h l = ltb-false n (count o) (count_beyond n o ∙ h)
falls_top o [] n (suc i) h l = omega arith
falls_top o (p ∷ os) n zero h l =
    let m : count o ≤ count p = falls_mono o (p ∷ os) n 0 h (omega arith) in
    let t : count p ≤ n = falls_top p os n 0 (or_none (lt_z p o) (falls p os n) h).1 (omega arith) in
    omega arith
falls_top o (p ∷ os) n (suc i) h l = falls_top p os n i (or_none (lt_z p o) (falls p os n) h).1 (omega arith)

-- what a check that passed tells of the offsets
pub mono : (l : List ℤ) (n i : ℕ) → bad_offsets l n ≡ false → i + 1 < length l → offset_at l i ≤ offset_at l (i + 1)
unfolding bad_offsets
mono [] n i h k = omega arith
mono (o ∷ os) n i h k = rw (add-one i) (falls_mono o os n i (or_none (lt_z o (pos 0)) (falls o os n) h).1 (omega arith))

pub top : (l : List ℤ) (n i : ℕ) → bad_offsets l n ≡ false → i < length l → offset_at l i ≤ n
unfolding bad_offsets
top [] n i h k = omega arith
top (o ∷ os) n i h k = falls_top o os n i (or_none (lt_z o (pos 0)) (falls o os n) h).1 k

-- an offset of a list as a number
pub number_at : {A : Type 0} (number : A → ℤ) (numbers : List A → List ℤ) → ((l : List A) → numbers l ≡ map number l) → (l : List A) (i : ℕ) (x : A) → i < length l → x ≡ get_or l i x → (i < length (numbers l)) × (number x ≡ get_or (numbers l) i (pos 0))
number_at number numbers are l i x h e =
    rw are (omega (arith, length-map l number), ap number e ∙ sym (get_or-map number l i x (pos 0) h))
