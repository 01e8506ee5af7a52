-- The loop that reads numbers, f i being the i-th: after i turns the first i stand over the beginning of d, which was e.
use mathlib.Core.Path.{◌≡◌, refl, ap, ◌∙◌}
use mathlib.Core.List.{List, [], ◌∷◌, ◌++◌}
use Prim.Native.Nat.{ℕ, zero, suc, ◌+◌, ◌*◌, ◌<◌, ◌≤◌}
use native.Mathlib.Nat.{zero-add, zero-mul}
use native.Mathlib.Numerals.{add-one}
use native.Mathlib.Omega.{arith}
use lib.ListN.{length, get_or, take, drop, set, length-set}
use Rattle.std.proofs.lemmas.List.{drop-drop}
use Rattle.std.specs.Simd.{first_chunks}
use Rattle.model.specs.Basics.{tab}
use Rattle.model.specs.Form.{over}
use Rattle.model.proofs.TabLaws.{length-tab, tab-last}
use Rattle.wire.proofs.Writing.{written}

pub record Reading {A : Type 0} (f : ℕ → A) (n : ℕ) (e d : List A) (i : ℕ) : Type 0 where
  pub within : i ≤ n
  pub same : length d ≡ length e
  pub front : d ≡ over (tab f 0 i) e

module _ {A : Type 0} (f : ℕ → A) (n : ℕ) (e : List A) where
  pub begun : Reading f n e e 0
  unfolding tab
  begun = record { within = omega arith; same = refl; front = refl }

  -- x is what was stored
  pub turned : (d : List A) (i : ℕ) (x : A) → Reading f n e d i → i < n → n ≤ length e → x ≡ f i → Reading f n e (set d i x) (i + 1)
  turned d i x r h l p =
      let t : tab f 0 (i + 1) ≡ tab f 0 i ++ (x ∷ []) = rw (add-one, tab-last f 0 i, p, zero-add) in
      let same : length d ≡ length e = r.same in
      record {
        within = omega arith;
        same = simp length-set same;
        front = rw t (written (tab f 0 i) (x ∷ []) d e i (length-tab f 0 i) r.front (omega arith));
      }

  pub done : (d : List A) (i : ℕ) → Reading f n e d i → n ≤ i → d ≡ over (tab f 0 n) e
  done d i r h =
      let k : i ≡ n = omega arith in
      r.front ∙ ap (λ m. over (tab f 0 m) e) k

-- the i-th of the first k chunks of n elements
pub get_or-first_chunks : {A : Type 0} (n k : ℕ) (l : List A) (i : ℕ) (e : List A) → i < k → get_or (first_chunks n k l) i e ≡ take n (drop (i * n) l)
get_or-first_chunks n zero l i e h = absurd (omega arith)
get_or-first_chunks n (suc k) l zero e h = rw zero-mul
get_or-first_chunks n (suc k) l (suc i) e h = let at : n + i * n ≡ suc i * n = omega arith in get_or-first_chunks n k (drop n l) i e (omega arith) ∙ rw (drop-drop, at)
