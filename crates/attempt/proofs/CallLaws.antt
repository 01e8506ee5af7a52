-- Laws of a recipe's call: what it comes to where it is refused, where it has no step, and where its steps begin, on the rows cut out.
use Prim.Native.Nat.{ℕ, ◌+◌, ◌-◌, ◌/◌, ◌<◌, ◌≤◌}
use mathlib.Core.Path.{◌≡◌, refl, sym, ap, ◌∙◌}
use mathlib.Core.Bool.{Bool, true, false}
use mathlib.Core.List.{List}
use native.Mathlib.Omega.{arith}
use lib.ListN.{length, drop}
use Rattle.model.specs.Basics.{pick, tab}
use Rattle.model.specs.Column.{Elem, Row, Column, Arguments, rows_of, row_count, shown_by, refusal2ᵃ}
use Rattle.model.specs.Form.{Room}
use Rattle.model.specs.Limits.{Limits}
use Rattle.model.specs.Outcome.{refused, fitted}
use Rattle.model.specs.Recipe.{Recipe, step_at, steps_of, carried, stepped, recipe_outcome}
use Rattle.model.specs.Refusals.{or_else}
use Rattle.model.specs.Window.{no_window, window_outcome}
use Rattle.model.proofs.ColumnLaws.{length-rows}
use Rattle.model.proofs.OutcomeLaws.{gate_open, gate_shut}
use Rattle.model.proofs.TabLaws.{tab-step, tab-none}
use Rattle.model.proofs.WindowLaws.{within_window, copy_steps, window_whole}
use Rattle.column.proofs.WalkLaws.{readable}
use Rattle.set_checks.proofs.RefusalLaws.{both_formed}
use Rattle.column.proofs.CutLaws.{part_rows}
use Rattle.recipe_refusal.specs.Refused.{recipe, recipe_refusal}
use Rattle.recipe_refusal.proofs.RefusalLaws.{passed, window_is, or_else_none}
use Rattle.one_list.specs.Uses.{column_at}
use Rattle.step.specs.Step.{rows_taken}
use Rattle.window.specs.Cut.{part, rest_from}
use Rattle.attempt.specs.Going.{Going}
use Rattle.attempt.proofs.ArgumentLaws.{rest_shown}

module _ (L : Limits) (ns : List ℕ) (ws rs : List Row) (col : ℕ → List Elem) (a b o : Room) where
  no_steps : length ns / 4 ≡ 0 → stepped L (steps_of ns) ws rs col a b o ≡ fitted ws o
  unfolding stepped steps_of
  no_steps h = rw (tab-none (step_at ns) 0 (length ns / 4) (omega arith))

  some_steps : (length ns / 4 ≡ 0 → ⊥) → stepped L (steps_of ns) ws rs col a b o ≡ carried L (step_at ns 0) (tab (step_at ns) 1 (length ns / 4 - 1)) ws rs col a b o
  unfolding stepped steps_of
  some_steps h = rw (tab-step (step_at ns) 0 (length ns / 4) (some (length ns / 4) h))
    where
      some : (n : ℕ) → (n ≡ 0 → ⊥) → 0 < n
      some n q = omega arith

none_16 : (t : Bool) → ◌≡◌ {A = ℕ} (pick t 16 0) 0 → t ≡ false
none_16 true h = let w : ⊥ = omega arith in absurd w
none_16 false h = refl

module _ (ns : List ℕ) (k x y : ℕ) (c d : Column) (e : Arguments) (f n : ℕ) (r : f ≡ recipe_refusal (recipe ns k) c d e) (m : n ≡ row_count c.offsets) where
  -- nothing refuses a call whose number is 0
  pub going : 0 ≡ or_else f (pick (no_window x y n) 16 0) → Going (recipe ns k) x y c d e
  unfolding refusal2ᵃ
  going q =
      let z = or_else_none f (pick (no_window x y n) 16 0) (sym q) in
      let none = sym r ∙ z.0 in
      let window : no_window x y (row_count c.offsets) ≡ false = rw (← m) (none_16 (no_window x y n) z.1) in
      let p = passed ns k c d e none in
      let b = both_formed c d p.lists in
      let i = within_window x y (row_count c.offsets) window in
      record {
        none = none;
        window = window;
        begins = i.0;
        ends = i.1;
        second-ends = rw p.equal i.1;
        first = readable c b.0;
        second = readable d b.1;
        covers = record { small = p.small; long = p.long };
      }

  pub call-refused : (L : Limits) (a b o : Room) (j : ℕ) → j ≡ or_else f (pick (no_window x y n) 16 0) → (j ≡ 0 → ⊥) → window_outcome L (recipe ns k) x y c d e a b o ≡ refused j
  call-refused L a b o j q z = window_is L (recipe ns k) x y c d e a b o ∙ rw (length-rows c, ← m, ← r, ← q) (gate_shut _ _ z)

module _ (L : Limits) (ns : List ℕ) (k x y : ℕ) (c d : Column) (e : Arguments) (a b o : Room) (g : Going (recipe ns k) x y c d e) where
  -- the steps are taken on the rows cut out
  goes_on : window_outcome L (recipe ns k) x y c d e a b o ≡ stepped L (steps_of ns) (rows_of (part c x y)) (rows_of (part d x y)) (column_at (drop x (shown_by e)) (row_count c.offsets) (y - x)) a b o
  goes_on =
      let p = passed ns k c d e g.none in
      let u : no_window x y (length (rows_of c)) ≡ false = rw (length-rows c) g.window in
      window_is L (recipe ns k) x y c d e a b o
      ∙ rw (g.none, u) (gate_open 0 _ refl
      ∙ copy_steps L (recipe ns k) x y (rows_of c) (rows_of d) (shown_by e) a b o p.formed p.same u
      ∙ rw (part_rows c x y g.begins g.ends g.first, part_rows d x y g.begins g.second-ends g.second, length-rows c))

  pub call_copy : {c' : Column} → c' ≡ part c x y → length ns / 4 ≡ 0 → window_outcome L (recipe ns k) x y c d e a b o ≡ fitted (rows_of c') o
  call_copy q z = goes_on ∙ no_steps L ns _ _ _ a b o z ∙ rw q

  -- the first step takes the list, whatever a tray holds
  pub call_steps : {c' d' : Column} {e' : Arguments} {n : ℕ} (t : Column) → c' ≡ part c x y → d' ≡ part d x y → e' ≡ rest_from e x → n ≡ row_count c.offsets → (length ns / 4 ≡ 0 → ⊥)
      → window_outcome L (recipe ns k) x y c d e a b o ≡ carried L (step_at ns 0) (tab (step_at ns) (0 + 1) (length ns / 4 - 1)) (rows_taken 0 c' t) (rows_of d') (column_at (shown_by e') n (y - x)) a b o
  unfolding rows_taken
  call_steps t p q r m z = goes_on ∙ some_steps L ns _ _ _ a b o z ∙ rw (p, q, r, m, rest_shown e x g.covers)

-- the run of a recipe is the call for all rows
pub whole_call : (L : Limits) (p : Recipe) (c d : Column) (e : Arguments) (a b o : Room) {n : ℕ} → n ≡ row_count c.offsets → window_outcome L p 0 n c d e a b o ≡ recipe_outcome L p c d e a b o
whole_call L p c d e a b o h = rw (h ∙ sym (length-rows c)) (window_whole L p c d e a b o)
