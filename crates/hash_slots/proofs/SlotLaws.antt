-- Laws of heads, and of clean slots.
use mathlib.Core.Path.{◌≡◌, refl, sym, ◌∙◌}
use mathlib.Core.Bool.{Bool, true, false}
use mathlib.Core.List.{List}
use Prim.Native.Nat.{ℕ, ◌*◌, ◌/◌, ◌≤◌, ◌<◌}
use native.Mathlib.Nat.{mul-lt-mul_of_pos_right, div-lt_iff_lt-mul}
use native.Mathlib.Omega.{arith}
use borrow.Author.Tests.{eqb-true, eqb-false, ltb-true, ltb-false}
use lib.Dec.{eqb, ltb}
use lib.ListN.{length, replicate, length-replicate, get_or-replicate, get_or-eq_default}
use lib.Seq.{ext_get_or}
use mir.Syntax.{w64}
use mir.Val.{of_z}
use Rattle.model.specs.Column.{Elem, nul, val}
use Rattle.hash_slots.specs.Slots.{summed, folded, head_of, CleanFrom}

-- ---- tests

pub decide : {P : Type 0} (a b : ℕ) → (a ≡ b → P) → ((a ≡ b → ⊥) → P) → P
decide {P} a b f g = by (eqb a b) refl
  where
    by : (x : Bool) → eqb a b ≡ x → P
    by true e = f (eqb-true a b e)
    by false e = g (eqb-false a b e)

either : {P : Type 0} (a b : ℕ) → (a < b → P) → (b ≤ a → P) → P
either {P} a b f g = by (ltb a b) refl
  where
    by : (x : Bool) → ltb a b ≡ x → P
    by true e = f (ltb-true a b e)
    by false e = g (ltb-false a b e)

-- ---- heads

scaled_lt : (h n : ℕ) → h < 4294967296 → 0 < n → h * n / 4294967296 < n
scaled_lt h n p q = (div-lt_iff_lt-mul {k = 4294967296} {x = h * n} {y = n} (omega arith)).1 (omega (arith, mul-lt-mul_of_pos_right {m = h} {n = 4294967296} {k = n} p q))

pub fold_lt : (s : ℕ) → folded s < 4294967296
fold_lt s = omega arith

pub head_of_lt : (n : ℕ) (e : Elem) → 0 < n → head_of n e < n
unfolding head_of
head_of_lt n nul q = q
head_of_lt n (val v) q = scaled_lt (folded (summed (of_z w64 v))) n (fold_lt (summed (of_z w64 v))) q

-- ---- a clean area, as a list

-- no slot is there from the length on
pub clean_past : (t : List ℕ) → CleanFrom (length t) t
clean_past t i p = get_or-eq_default t 0 {n = i} p

pub clean_zeros : (t : List ℕ) → CleanFrom 0 t → t ≡ replicate (length t) 0
clean_zeros t c =
    ext_get_or 0 t (replicate (length t) 0) (sym (length-replicate (length t) 0)) (λ i p. c i (omega arith) ∙ sym (get_or-replicate (length t) i 0 0 p))

pub zeros_clean : (n : ℕ) → CleanFrom 0 (replicate n 0)
zeros_clean n i p = either i n (λ q. get_or-replicate n i 0 0 q) (λ q. get_or-eq_default (replicate n 0) 0 {n = i} (omega (arith, length-replicate {A = ℕ} n 0)))
