-- Laws of the measuring loop: no row before r refuses.
use Prim.Native.Nat.{ℕ, ◌+◌, ◌-◌, ◌<◌, ◌≤◌}
use mathlib.Core.Path.{◌≡◌, refl, sym, ◌∙◌}
use lib.ListN.{length}
use Rattle.model.specs.Basics.{tab}
use Rattle.model.specs.Column.{Row, Column, Arguments, row_count}
use Rattle.model.specs.Form.{flat}
use Rattle.model.specs.Limits.{Limits}
use Rattle.model.specs.Outcome.{refused, made}
use Rattle.model.specs.Refusals.{first_of}
use Rattle.model.proofs.OutcomeLaws.{gate_open, gate_shut, first-refusal, later-refusal, no_refusal}
use Rattle.column.proofs.WalkLaws.{Summing, sum_begun, sum_done}
use Rattle.ops.specs.declared.ListOp.{ListOp}
use Rattle.made_rows.specs.Made.{row_made_at, refusal_at, call_rows, rows_measure}

pub record Measuring (W : ℕ → Row) (K : ℕ → ℕ) (n below top found r left : ℕ) : Type 0 where
  pub sums : Summing W n below top found r left
  pub none : first_of (tab K r left) ≡ first_of (tab K 0 n)

pub measuring_begun : (W : ℕ → Row) (K : ℕ → ℕ) (n below top : ℕ) → Measuring W K n below top 0 0 n
measuring_begun W K n below top = record { sums = sum_begun W n top below; none = refl }

module _ (W : ℕ → Row) (K : ℕ → ℕ) {n below top found r left : ℕ} (m : Measuring W K n below top found r left) where
  pub measuring_more : {below' found' : ℕ} (k : ℕ) → 0 < left → k ≡ K r → k ≡ 0 → Summing W n below' top found' (r + 1) (left - 1) → Measuring W K n below' top found' (r + 1) (left - 1)
  measuring_more k h e z s = record { sums = s; none = sym (later-refusal K r left h (sym e ∙ z)) ∙ m.none }

  pub measuring_stops : (k : ℕ) → 0 < left → k ≡ K r → (k ≡ 0 → ⊥) → first_of (tab K 0 n) ≡ k
  measuring_stops k h e z = sym m.none ∙ first-refusal K r left h (λ q. z (e ∙ q)) ∙ sym e

  pub measuring_done : left ≤ 0 → (first_of (tab K 0 n) ≡ 0) × (found ≡ length (flat (tab W 0 n)))
  measuring_done h = (sym m.none ∙ no_refusal K r left h, sum_done W n top m.sums h)

module _ (N : Limits) (op : ListOp) (c : Column) (x y z : Arguments) (n : ℕ) (e : n ≡ row_count c.offsets) where
  pub rows_stop : (k : ℕ) → first_of (tab (refusal_at N op c x y z) 0 n) ≡ k → (k ≡ 0 → ⊥) → refused k ≡ rows_measure N op c x y z
  unfolding rows_measure
  rows_stop k q h = rw (← e, q, gate_shut k (made (length (flat (call_rows N op c x y z)))) h)

  pub rows_end : (m : ℕ) → first_of (tab (refusal_at N op c x y z) 0 n) ≡ 0 → m ≡ length (flat (tab (row_made_at N op c x y z) 0 n)) → made m ≡ rows_measure N op c x y z
  unfolding rows_measure call_rows
  rows_end m q h = rw (← e, q, gate_open 0 (made (length (flat (tab (row_made_at N op c x y z) 0 n)))) refl, h)
