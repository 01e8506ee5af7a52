-- Laws of the sizes and of the tally.
use mathlib.Core.Path.{◌≡◌}
use mathlib.Core.List.{List, ◌++◌}
use Prim.Native.Nat.{ℕ, ◌/◌, ◌≤◌, ◌<◌}
use native.Mathlib.Omega.{arith}
use borrow.Author.Tests.{ltb-false, lt-ltb, le-ltb, ne_eqb}
use lib.Dec.{ltb}
use Rattle.model.specs.Basics.{All, none, more}
use Rattle.model.specs.Column.{Row, Column, Arguments}
use Rattle.model.specs.Form.{Room}
use Rattle.model.specs.Limits.{narrow}
use Rattle.model.specs.Outcome.{Outcome}
use Rattle.model.specs.Recipe.{Recipe, recipe_outcome, stationed}
use Rattle.entry.specs.Entry.{Numbers, list_sizes, most_offsets, most_values, size_refusal}
use Rattle.entry.specs.Inner.{ListFits}
use Rattle.entry.proofs.SizeLaws.{Fits, Sized, sized, pick-none}
use Rattle.tally_bytes.specs.Bytes.{tallied_in}
use Rattle.recipe_bytes.specs.Inner.{InputsFit, TraysFit}
use Rattle.entry_recipe.specs.Recipe.{recipe_sizes, pair_sizes, recipe_size_refusal, tally_after}

-- ---- the sizes

pub tally-short : (ss : List Numbers) (c t : ℕ) → t < 256 → 100 ≡ recipe_size_refusal ss c t
unfolding recipe_size_refusal
tally-short ss c t h = rw (lt-ltb t 256 h)

pub tally-long : (ss : List Numbers) (c t : ℕ) {r : ℕ} → 256 ≤ t → r ≡ size_refusal ss c 32 → r ≡ recipe_size_refusal ss c t
unfolding recipe_size_refusal
tally-long ss c t h e = rw (le-ltb t 256 h) e

pub recipe_sized : (ss : List Numbers) (c t : ℕ) → recipe_size_refusal ss c t ≡ 0 → (256 ≤ t) × Sized ss c 32
unfolding recipe_size_refusal
recipe_sized ss c t h = let p = pick-none (ltb t 256) 100 (size_refusal ss c 32) (omega arith) h in (ltb-false t 256 p.0, sized ss c 32 p.1)

-- the arrays have places for all numbers
pub all_fit : (bns ba bo bv bso bsv po pv qo qv lo lv : ℕ) → All Fits (((recipe_sizes bns ba ++ pair_sizes bo bv bso bsv) ++ pair_sizes po pv qo qv) ++ list_sizes lo lv)
    → InputsFit bo bv bso bsv ba × TraysFit (po / 4) (pv / 8) (qo / 4) (qv / 8) × ListFits lo lv most_offsets most_values
all_fit bns ba bo bv bso bsv po pv qo qv lo lv (more f1 (more f2 (more f3 (more f4 (more f5 (more f6 (more f7 (more f8 (more f9 (more f10 (more f11 (more f12 none)))))))))))) = (
  record { list = record { offsets = f3; values = f4 }; second = record { offsets = f5; values = f6 }; arguments = f2 },
  record { one-offsets = f7; one-values = f8; two-offsets = f9; two-values = f10 },
  record { offsets = f11; values = f12 },
)

-- ---- the recipe for the trays' lengths as the code found them

pub trays_fit : {ho hv io iv a b c d : ℕ} → ho ≡ a → hv ≡ b → io ≡ c → iv ≡ d → TraysFit a b c d → TraysFit ho hv io iv
trays_fit p q r s h = rw (p, q, r, s) h

pub same_trays : (s : ℕ) (r : Recipe) (c d : Column) (e : Arguments) {a a' b b' : Room} (o : Room) → a ≡ a' → b ≡ b' → stationed s (recipe_outcome narrow r c d e a b o) ≡ stationed s (recipe_outcome narrow r c d e a' b' o)
same_trays s r c d e o f g = rw (f, g)

-- ---- the tally of a call for station n; r is what the code found k to be

module _ (n : ℕ) (x : Outcome (List Row)) {k r : ℕ} (e : r ≡ k) where
  pub not_counted : {s : List ℕ} → (r ≡ 0 → ⊥) → s ≡ tally_after k n x s
  unfolding tally_after
  not_counted z = rw (← e, ne_eqb _ 0 z)

  pub counted : (s : List ℕ) {s' : List ℕ} → r ≡ 0 → s' ≡ tallied_in n x s → s' ≡ tally_after k n x s
  unfolding tally_after
  counted s z h = rw (← e, z) h
