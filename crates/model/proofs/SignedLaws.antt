-- A signed number, read back from its bits.
use mathlib.Core.Path.{◌≡◌, refl, subst}
use mathlib.Core.Bool.{Bool, true, false}
use Prim.Native.Nat.{ℕ, ◌^◌, ◌<◌}
use native.Mathlib.Omega.{arith}
use borrow.Author.Tests.{ltb-true}
use lib.Dec.{ltb, T}
use lib.IntN.{ℤ, pos, negsuc, nat_abs}
use lib.Signed.{mag, lt_z, non_neg}
use mir.Syntax.{Width, w64}
use mir.Val.{bits, hbits, Fits, to_z, of_z}
use mir.Facts.{to_z-of_z, Fits-nat_abs}
use Rattle.model.specs.Column.{count}

pub back64 : (x : ℤ) → mag x < 2 ^ 63 → to_z w64 (of_z w64 x) ≡ x
back64 x g = to_z-of_z {w = w64} (record { sfits = g })

module _ (w : Width) (x : ℤ) (g : mag x < 2 ^ hbits w) where
  pub back : to_z w (of_z w x) ≡ x
  back = to_z-of_z {w = w} (record { sfits = g })

  neg : (y : ℤ) → lt_z y (pos 0) ≡ true → 0 ≡ count y
  unfolding count
  neg (pos n) h = let z : n < 0 = ltb-true n 0 h in omega arith
  neg (negsuc n) h = refl

  pub negative : lt_z (to_z w (of_z w x)) (pos 0) ≡ true → 0 ≡ count x
  negative h = neg x (rw back at h)

  non : (y : ℤ) → lt_z y (pos 0) ≡ false → T (non_neg y) × (nat_abs y ≡ count y)
  unfolding count
  non (pos n) h = (tt, refl)
  non (negsuc n) h = let z : ◌≡◌ {A = Bool} true false = h in absurd (subst T z tt)

  pub casts : T (ltb (hbits w) (bits w64)) → lt_z (to_z w (of_z w x)) (pos 0) ≡ false → T (non_neg (to_z w (of_z w x))) × Fits w64 (nat_abs (to_z w (of_z w x)))
  casts t h = rw back ((non x (rw back at h)).0, Fits-nat_abs {w = w} {z = x} t (record { sfits = g }))

  pub counted : lt_z (to_z w (of_z w x)) (pos 0) ≡ false → nat_abs (to_z w (of_z w x)) ≡ count x
  counted h = rw back (non x (rw back at h)).1

  pub count_small : count (to_z w (of_z w x)) < 2 ^ hbits w
  unfolding count
  count_small = rw back (small x g)
    where
      small : (y : ℤ) → mag y < 2 ^ hbits w → count y < 2 ^ hbits w
      small (pos n) l = l
      small (negsuc n) l = omega (arith, l)
