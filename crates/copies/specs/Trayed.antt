-- A tray of a recipe.
use Rattle.std.specs.Prelude.{◌≡◌}
use Rattle.column.specs.Outputs.{SameLists, room_in}
use Rattle.column.specs.declared.lists.ListOutput.{ListOutput}

-- its slices are those that they were, whatever they hold, and as long as they were
pub record Kept {A : Type 0} (t t' : ListOutput A) : Type 0 where
  pub same : SameLists t t'
  pub room : room_in t' ≡ room_in t
