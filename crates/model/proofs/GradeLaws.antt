-- A recipe whose result is graded. `not_graded`: "12 and a short grade slice change neither tally nor output".
-- `as_run`: "A recipe graded answers, moves the tally and leaves its output as its run would".
use Prim.Native.Nat.{ℕ}
use mathlib.Core.Path.{◌≡◌, refl}
use mathlib.Core.Bool.{Bool, true, false}
use mathlib.Core.List.{List, [], ◌∷◌}
use borrow.Author.Tests.{ne_eqb}
use lib.Dec.{eqb}
use lib.IntN.{pos}
use lib.ListN.{replicate}
use Rattle.model.specs.Basics.{pick, given, absent}
use Rattle.model.specs.Limits.{Limits}
use Rattle.model.specs.Column.{Column, Arguments, rows_of}
use Rattle.model.specs.Form.{Room}
use Rattle.model.specs.Outcome.{gate}
use Rattle.model.specs.Recipe.{Recipe, recipe_outcome, stationed}
use Rattle.model.specs.Tally.{Tally, nobody, moved, move_of}
use Rattle.model.specs.Grade.{grade_refusal, graded, graded_move}
use Rattle.model.specs.Call.{recipe, grade_recipe, refusal, answer_of, written, list_numbers, list_bitmaps, recipe_end, trays_end, graded_end, end, move_in}
use Rattle.model.proofs.Stations.{Apart, apart_of}

module _ (L : Limits) (k s : ℕ) (p : Recipe) (c d : Column) (e : Arguments) (a b o : Room) (g : ℕ) (t : Tally) where
  -- the number, no written results, trays of zeros, the tally as it came and no grade
  pub not_graded : (grade_refusal k (rows_of c) g ≡ 0 → ⊥)
      → end L (grade_recipe k s p c d e a b o g t) ≡ record {
        answer = refusal (grade_refusal k (rows_of c) g);
        numbers = [] ∷ [] ∷ [];
        bitmaps = [] ∷ [] ∷ [];
        tray_numbers = replicate a.offsets (pos 0) ∷ replicate a.values (pos 0) ∷ replicate b.offsets (pos 0) ∷ replicate b.values (pos 0) ∷ [];
        tray_bitmaps = replicate a.rows 0 ∷ replicate a.elements 0 ∷ replicate b.rows 0 ∷ replicate b.elements 0 ∷ [];
        tally = given t;
        grades = [];
        area = absent;
      }
  unfolding end graded_end recipe_end trays_end graded gate graded_move moved answer_of list_numbers list_bitmaps written
  not_graded h = rw (ne_eqb _ _ h)

  -- all that its recipe's run ends in, and grades beside
  pub as_run : grade_refusal k (rows_of c) g ≡ 0
      → let y = end L (grade_recipe k s p c d e a b o g t) in
      let x = end L (recipe s p c d e a b o t) in
      (y.answer ≡ x.answer) × (y.numbers ≡ x.numbers) × (y.bitmaps ≡ x.bitmaps) × (y.tray_numbers ≡ x.tray_numbers) × (y.tray_bitmaps ≡ x.tray_bitmaps) × (y.tally ≡ x.tally)
  unfolding end graded_end recipe_end trays_end graded gate graded_move
  as_run h = rw h (refl, refl, refl, refl, refl, refl)

  -- "Only its own calls change a station's counts.": so of a grading, j being another station than the one that it names (`others_stay_long`, Stations.antt)
  pub others_apart : (j : ℕ) → (j ≡ s → ⊥) → Apart j (move_in L (grade_recipe k s p c d e a b o g t))
  unfolding move_in graded_move Apart
  others_apart j h = go (eqb (grade_refusal k (rows_of c) g) 0)
    where
      go : (z : Bool) → Apart j (pick z (move_of s (stationed s (recipe_outcome L p c d e a b o))) nobody)
      go true = apart_of s j (stationed s (recipe_outcome L p c d e a b o)) h
      go false = tt
