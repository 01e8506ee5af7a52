-- A list written over the beginning of another, part by part.
use mathlib.Core.Path.{◌≡◌, ap, sym, ◌∙◌}
use mathlib.Core.List.{List, [], ◌∷◌, ◌++◌, append_assoc, append-nil, flat_map}
use Prim.Native.Nat.{ℕ, zero, suc, ◌+◌, ◌*◌, ◌<◌, ◌≤◌}
use native.Mathlib.Nat.{suc-mul, zero-mul}
use native.Mathlib.Omega.{arith}
use lib.ListN.{length, get_or, take, drop, length-append}
use lib.Seq.{sets, sets-eq, take_at, drop-append-add, drop-drop, drop-length}
use Rattle.model.specs.Form.{over}

-- b stored behind w
pub written : {A : Type 0} (w b d e : List A) (at : ℕ) → length w ≡ at → d ≡ over w e → at + length b ≤ length d → sets d at b ≡ over (w ++ b) e
written w b d e at l p h =
    let t : take at d ≡ w = ap (take at) p ∙ take_at w (drop (length w) e) at l in
    let r : drop (at + length b) d ≡ drop (length (w ++ b)) e = rw (p, ← l, drop-append-add w (drop (length w) e) (length b), drop-drop, length-append) in
    sets-eq b d at h ∙ rw (t, r)

-- all of d written over
pub whole : {A : Type 0} (w d : List A) → length d ≡ length w → over w d ≡ w
whole w d h = rw (← h, drop-length, append-nil)

-- lists of bytes in a row, and one more of them
module _ {A : Type 0} (g : A → List ℕ) where
  pub flat-suc : (z : A) (v : List A) (i : ℕ) → i < length v → flat_map g (take (suc i) v) ≡ flat_map g (take i v) ++ g (get_or v i z)
  unfolding flat_map
  flat-suc z [] i h = absurd (omega arith)
  flat-suc z (x ∷ v) zero h = append-nil (g x)
  flat-suc z (x ∷ v) (suc i) h = rw (flat-suc z v i (omega arith), append_assoc)

  pub length-flat : (k : ℕ) → ((z : A) → length (g z) ≡ k) → (v : List A) → length (flat_map g v) ≡ length v * k
  unfolding flat_map
  length-flat k each [] = sym (zero-mul k)
  length-flat k each (z ∷ v) = rw (length-append, each z, length-flat k each v, suc-mul) (omega arith)
