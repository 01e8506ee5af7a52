-- Laws of resize's running sum.
use Prim.Native.Nat.{ℕ, ◌+◌, ◌-◌, ◌<◌, ◌≤◌}
use mathlib.Core.Path.{◌≡◌, refl, sym, ◌∙◌, subst}
use mathlib.Core.List.{List, [], ◌∷◌}
use native.Mathlib.Omega.{arith}
use borrow.Author.Tests.{lt-ltb, le-ltb, ltb-true}
use Rattle.model.specs.Basics.{tab}
use Rattle.model.specs.Bitmap.{Bits}
use Rattle.model.specs.Column.{Arguments, count}
use Rattle.model.specs.Limits.{Limits, largest}
use Rattle.model.specs.Outcome.{refused, made, gate}
use Rattle.model.specs.Refusals.{RowCount, stopped, sum, plus, and_then, sum_of, sum_refusal, counted}
use Rattle.model.proofs.TabLaws.{tab-step, tab-none}
use Rattle.sums.specs.Sums.{count_at, summed, last_test, resize_measure}
use Rattle.std.specs.Prelude.{Option, None, Some, SomeIff, ok_or, ◌^◌}
use Rattle.model.specs.declared.Refusal.TheVariants.{TooMany}
use mathlib.Core.Bool.{true, false}
use lib.Dec.{T}
use lib.IntN.{ℤ, pos, negsuc}
use lib.Signed.{lt_z}

-- ---- one count more

pub plus_negative : (a : ℕ) (z : ℤ) → lt_z z (pos 0) ≡ true → plus a (counted z) ≡ stopped 7
unfolding plus
plus_negative a (pos n) h = let l = ltb-true n 0 h in let q : ⊥ = omega arith in absurd q
plus_negative a (negsuc n) h = refl

plus-over : (a : ℕ) (z : ℤ) → lt_z z (pos 0) ≡ false → largest < a + count z → plus a (counted z) ≡ stopped 8
unfolding plus count
plus-over a (pos n) h l = rw (lt-ltb largest (a + n) l)
plus-over a (negsuc n) h l = absurd (subst T h tt)

plus-sum : (a : ℕ) (z : ℤ) (k : ℕ) → lt_z z (pos 0) ≡ false → k ≡ count z → a + k ≤ largest → plus a (counted z) ≡ sum (a + k)
unfolding plus count
plus-sum a (pos n) k h e l = rw (e, le-ltb largest (a + n) (omega (arith, e)))
plus-sum a (negsuc n) k h e l = absurd (subst T h tt)

-- the sum, where it does not pass the largest number
pub plus_checked : (a : ℕ) (z : ℤ) (k : ℕ) (o : Option ℕ) → lt_z z (pos 0) ≡ false → k ≡ count z → SomeIff o (a + k < 2 ^ 64) (a + k) → summed (ok_or o TooMany) ≡ plus a (counted z)
unfolding summed
plus_checked a z k None h e s = let l : largest < a + count z = omega (arith, e, s) in sym (plus-over a z h l)
plus_checked a z k (Some x) h e s = rw s.1 (sym (plus-sum a z k h e (omega (arith, s.0))))

pub stays : (k : ℕ) (ns : List RowCount) → sum_of (stopped k) ns ≡ stopped k
unfolding sum_of and_then
stays k [] = refl
stays k (n ∷ ns) = stays k ns

-- ---- the loop over the counts

-- the counts from row r on, added to the total, are those of all rows
pub record Running (K : ℕ → RowCount) (n total r : ℕ) : Type 0 where
  pub same : sum_of (sum total) (tab K r (n - r)) ≡ sum_of (sum 0) (tab K 0 n)

module _ (K : ℕ → RowCount) {n total r : ℕ} (u : Running K n total r) where
  step : r < n → sum_of (plus total (K r)) (tab K (r + 1) (n - (r + 1))) ≡ sum_of (sum 0) (tab K 0 n)
  unfolding sum_of and_then
  step h =
      let e : n - r - 1 ≡ n - (r + 1) = omega arith in
      rw e at (rw (tab-step K r (n - r) (omega arith)) at u.same)

  pub running_more : (s : ℕ) → r < n → sum s ≡ plus total (K r) → Running K n s (r + 1)
  running_more s h e = record { same = rw (← e) at (step h) }

  pub running_stops : (k : ℕ) → r < n → stopped k ≡ plus total (K r) → sum_of (sum 0) (tab K 0 n) ≡ stopped k
  running_stops k h e = sym (rw (← e) at (step h)) ∙ stays k (tab K (r + 1) (n - (r + 1)))

  pub running_done : n ≤ r → sum_of (sum 0) (tab K 0 n) ≡ sum total
  unfolding sum_of
  running_done h = sym (rw (tab-none K r (n - r) (omega arith)) at u.same)

module _ (L : Limits) (rb : Bits) (a : Arguments) (n : ℕ) where
  pub resize_stops : (k : ℕ) → sum_of (sum 0) (tab (count_at rb a) 0 n) ≡ stopped k → refused k ≡ resize_measure L rb a n
  unfolding resize_measure last_test
  resize_stops k e = rw e

  pub resize-over : (m : ℕ) → sum_of (sum 0) (tab (count_at rb a) 0 n) ≡ sum m → L.resized < m → refused 8 ≡ resize_measure L rb a n
  unfolding resize_measure last_test sum_refusal gate
  resize-over m e h = rw (e, lt-ltb L.resized m h)

  pub resize_ends : (m : ℕ) → sum_of (sum 0) (tab (count_at rb a) 0 n) ≡ sum m → m ≤ L.resized → made m ≡ resize_measure L rb a n
  unfolding resize_measure last_test sum_refusal gate
  resize_ends m e h = rw (e, le-ltb L.resized m h)
