-- The steps of a recipe that are left.
use Rattle.std.specs.Prelude.{ℕ, ◌+◌, ◌*◌, ◌≤◌, ◌<◌, List, length}
use Rattle.model.specs.Recipe.{step_at}
use Rattle.step.specs.Step.{StepFits}

-- left steps from step k on are there and fit
pub record Steps (numbers : List ℕ) (pitch n len k left : ℕ) : Type 0 where
  pub some : 0 < left
  pub there : 4 * (k + left) ≤ length numbers
  pub fit : (j : ℕ) → j < left → StepFits (step_at numbers (k + j)) pitch n len
