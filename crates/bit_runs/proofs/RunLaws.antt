-- Bits appended some at a time, forward and backward through a bitmap.
use mathlib.Core.Bool.{Bool}
use mathlib.Core.List.{List, ◌++◌, reverse, reverse-append}
use mathlib.Core.Path.{◌≡◌, sym, ap, ◌∙◌}
use Prim.Native.Nat.{ℕ, ◌+◌, ◌-◌, ◌≤◌}
use native.Mathlib.Omega.{arith}
use lib.ListN.{length}
use Rattle.bit_words.specs.Words.{low_bits}
use Rattle.bit_words.proofs.WordLaws.{length_low}
use Rattle.bitmap.specs.Push.{push_bits}
use Rattle.model.specs.Basics.{tab}
use Rattle.model.specs.Bitmap.{bit_at}
use Rattle.model.proofs.TabLaws.{tab_split}
use Rattle.runs.proofs.SameLaws.{push_append}

-- the first bits are written, and the others are left
push_on : (l : List ℕ) {l' d : List ℕ} (bs cs : List Bool) {ws : List Bool} (p m : ℕ) → l' ≡ push_bits l p bs → length bs ≡ m → ws ≡ bs ++ cs → push_bits l p ws ≡ d → push_bits l' (p + m) cs ≡ d
push_on l bs cs p m w n e h = rw (w, ← n, push_append bs cs l p, ← e) h

-- ---- the n bits from bit q on appended at place at: out so far, and how many of them it has

module _ (bitmap : List ℕ) (q n : ℕ) (out₀ : List ℕ) (at : ℕ) where
  pub record Forward (out : List ℕ) (done : ℕ) : Type 0 where
    pub rest : push_bits out (at + done) (tab (bit_at bitmap) (q + done) (n - done)) ≡ push_bits out₀ at (tab (bit_at bitmap) q n)

module _ {bitmap : List ℕ} {q n : ℕ} {out₀ : List ℕ} {at : ℕ} {out : List ℕ} {done : ℕ} (i : Forward bitmap q n out₀ at out done) where
  -- w bits more
  pub forward_on : (w x : ℕ) {p r more : ℕ} {out' : List ℕ} → done + w ≤ n → p ≡ at + done → r ≡ q + done → more ≡ done + w
      → low_bits x w ≡ tab (bit_at bitmap) r w → out' ≡ push_bits out p (low_bits x w) → Forward bitmap q n out₀ at out' more
  forward_on w x {out' = out'} h a b c v e =
      let k : n - done ≡ w + (n - (done + w)) = omega arith in
      let g : q + (done + w) ≡ q + done + w = omega arith in
      let m : at + (done + w) ≡ at + done + w = omega arith in
      let t : tab (bit_at bitmap) (q + done) (n - done) ≡ low_bits x w ++ tab (bit_at bitmap) (q + done + w) (n - (done + w)) = rw (k, tab_split (bit_at bitmap) (q + done) w (n - (done + w)), ← b, v) in
      record { rest = rw (c, g, m) (push_on out (low_bits x w) (tab (bit_at bitmap) (q + done + w) (n - (done + w))) (at + done) w (rw a at e) (length_low x w) t i.rest) }

  pub forward_done : done ≡ n → out ≡ push_bits out₀ at (tab (bit_at bitmap) q n)
  unfolding push_bits tab
  forward_done z = let k : n - done ≡ 0 = omega arith in rw k at i.rest

-- ---- the same, the last of them first

back_split : (f : ℕ → Bool) (q left m : ℕ) → m ≤ left → reverse (tab f q left) ≡ reverse (tab f (q + (left - m)) m) ++ reverse (tab f q (left - m))
back_split f q left m h =
    let e : (left - m) + m ≡ left = omega arith in
    ap (λ (r : ℕ). reverse (tab f q r)) (sym e) ∙ ap reverse (tab_split f q (left - m) m) ∙ reverse-append (tab f q (left - m)) (tab f (q + (left - m)) m)

module _ (bitmap : List ℕ) (q n : ℕ) (out₀ : List ℕ) (at : ℕ) where
  pub record Backward (out : List ℕ) (done : ℕ) : Type 0 where
    pub rest : push_bits out (at + done) (reverse (tab (bit_at bitmap) q (n - done))) ≡ push_bits out₀ at (reverse (tab (bit_at bitmap) q n))

module _ {bitmap : List ℕ} {q n : ℕ} {out₀ : List ℕ} {at : ℕ} {out : List ℕ} {done : ℕ} (i : Backward bitmap q n out₀ at out done) where
  pub backward_on : (w x y : ℕ) {p r more : ℕ} {out' : List ℕ} → done + w ≤ n → p ≡ at + done → r ≡ q + (n - done - w) → more ≡ done + w
      → low_bits x w ≡ tab (bit_at bitmap) r w → low_bits y w ≡ reverse (low_bits x w) → out' ≡ push_bits out p (low_bits y w) → Backward bitmap q n out₀ at out' more
  backward_on w x y h a b c v u e =
      let k : n - (done + w) ≡ n - done - w = omega arith in
      let m : at + (done + w) ≡ at + done + w = omega arith in
      let t : reverse (tab (bit_at bitmap) q (n - done)) ≡ low_bits y w ++ reverse (tab (bit_at bitmap) q (n - done - w)) = back_split (bit_at bitmap) q (n - done) w (omega arith) ∙ rw (u, v, b) in
      record { rest = rw (c, k, m) (push_on out (low_bits y w) (reverse (tab (bit_at bitmap) q (n - done - w))) (at + done) w (rw a at e) (length_low y w) t i.rest) }

  pub backward_done : done ≡ n → out ≡ push_bits out₀ at (reverse (tab (bit_at bitmap) q n))
  unfolding push_bits tab
  backward_done z = let k : n - done ≡ 0 = omega arith in rw k at i.rest
