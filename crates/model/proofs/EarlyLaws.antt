-- The refusals before an operation's rows, as one number: the run and the measure both begin with it.
use Prim.Native.Nat.{ℕ, zero, suc}
use mathlib.Core.Path.{◌≡◌, refl, sym, ap, ◌∙◌}
use mathlib.Core.List.{List}
use native.Mathlib.Omega.{arith}
use borrow.Author.Tests.{ne_eqb}
use Rattle.model.specs.Column.{Elem, Row, Column, Arguments, rows_of, shown_by}
use Rattle.model.specs.Form.{Room}
use Rattle.model.specs.Lengths.{room_of_rows, list_lengths_shown, list_lengths}
use Rattle.model.specs.Limits.{Limits}
use Rattle.model.specs.Outcome.{Outcome, made, gate, early_refusal, after_three, list_shown, list_outcome}
use Rattle.model.specs.Refusals.{or_else, rows_refusal}
use Rattle.model.specs.Rows.{ListCall, on_call, rows_made}
use Rattle.model.proofs.OutcomeLaws.{gate_open, gate_shut}

-- the first number, where it is one
pub or_first : (k j : ℕ) → (k ≡ 0 → ⊥) → or_else k j ≡ k
or_first k j h = rw (ne_eqb k 0 h)

-- one number after another
pub gates : {A : Type 0} (k j : ℕ) (o : Outcome A) → gate k (gate j o) ≡ gate (or_else k j) o
gates zero j o = gate_open 0 (gate j o) refl
gates (suc k) j o =
    let n : suc k ≡ 0 → ⊥ = λ e. omega (arith, e) in
    gate_shut (suc k) (gate j o) n ∙ sym (gate_shut (suc k) o n) ∙ ap (λ (i : ℕ). gate i o) (sym (or_first (suc k) j n))

module _ (L : Limits) (q : ListCall Column Arguments) where
  pub early_outcome : (l : Room) → list_outcome L q l ≡ gate (early_refusal q) (after_three L (on_call rows_of shown_by q) l)
  unfolding list_outcome list_shown early_refusal
  early_outcome l = gates _ _ _

  pub early_lengths : list_lengths L q ≡ gate (early_refusal q) (gate (rows_refusal L (on_call rows_of shown_by q)) (made (room_of_rows (rows_made L (on_call rows_of shown_by q)))))
  unfolding list_lengths list_lengths_shown early_refusal
  early_lengths = gates _ _ _
