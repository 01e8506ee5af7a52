-- The recipe, its answer told and its tally put; or 100.
use mathlib.Core.Path.{refl}
use Rattle.typed.proofs.RecipeLaws.{recipe-told, tally-told}
use Rattle.typed.proofs.stations.recipe.Goals as goal

pub returns-clause-recipe_served : goal.returns-clause-recipe_served
returns-clause-recipe_served g c =
    let m = c.run_recipe-done.ensures in
    let s = c.settle.ensures in
    let h = c.station_for-named.ensures in
    record {
      served =
          record {
            list = recipe-told _ _ _ _ refl _ h m.list_answers.meets s.told;
            tally = tally-told _ _ refl _ _ h s.tally m.tally_value c.get_tally-before.ensures;
          };
      same = m.list_answers.same;
    }
