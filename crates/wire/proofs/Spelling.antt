-- The loop that writes numbers, g x being the k bytes of the number x: after i turns the bytes of the first i stand over
-- the beginning of d, which was e.
use mathlib.Core.Path.{◌≡◌, refl, ap, sym, ◌∙◌}
use mathlib.Core.List.{List, ◌++◌, append_assoc, flat_map}
use Prim.Native.Nat.{ℕ, ◌+◌, ◌*◌, ◌<◌, ◌≤◌}
use native.Mathlib.Numerals.{add-one}
use native.Mathlib.Omega.{arith}
use lib.ListN.{length, get_or, take}
use lib.Seq.{sets, sets-eq, length-sets, length-take-le, take_all}
use borrow.Rule.Slice.PartMut.{put_mid}
use Rattle.std.proofs.lemmas.List.{drop-drop}
use Rattle.model.specs.Form.{over}
use Rattle.wire.proofs.Writing.{written, flat-suc, length-flat}

-- bytes copied over a part of d
pub stored : (d b : List ℕ) (at k : ℕ) → length b ≡ k → at + k ≤ length d → put_mid at k d b ≡ sets d at b
stored d b at k e h = rw (drop-drop, ← e, ← append_assoc) (sym (sets-eq b d at (omega arith)))

pub record Spelling {A : Type 0} (g : A → List ℕ) (v : List A) (e d : List ℕ) (i : ℕ) : Type 0 where
  pub within : i ≤ length v
  pub same : length d ≡ length e
  pub front : d ≡ over (flat_map g (take i v)) e

module _ {A : Type 0} (g : A → List ℕ) (v : List A) (e : List ℕ) where
  pub begun : Spelling g v e e 0
  unfolding flat_map
  begun = record { within = omega arith; same = refl; front = refl }

  -- b is what was stored, d₁ what is then there
  pub turned : (k : ℕ) → ((x : A) → length (g x) ≡ k) → (z : A) (d d₁ b : List ℕ) (i : ℕ) → Spelling g v e d i → i < length v → i * k + k ≤ length d → b ≡ g (get_or v i z) → d₁ ≡ sets d (i * k) b → Spelling g v e d₁ (i + 1)
  turned k each z d d₁ b i r h room p q =
      let l : length (flat_map g (take i v)) ≡ i * k = length-flat g k each (take i v) ∙ ap (λ n. n * k) (length-take-le i v (omega arith)) in
      let t : flat_map g (take (i + 1) v) ≡ flat_map g (take i v) ++ b = rw (add-one, p) (flat-suc g z v i h) in
      let m : length b ≡ k = ap length p ∙ each (get_or v i z) in
      record {
        within = omega arith;
        same = ap length q ∙ length-sets d (i * k) b ∙ r.same;
        front = rw t (q ∙ written (flat_map g (take i v)) b d e (i * k) l r.front (omega arith));
      }

  pub done : (d : List ℕ) (i : ℕ) → Spelling g v e d i → length v ≤ i → d ≡ over (flat_map g v) e
  done d i r h = r.front ∙ ap (λ u. over (flat_map g u) e) (take_all i v h)
