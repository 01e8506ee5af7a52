use Rattle.std.proofs.Common.{arith}
use Rattle.entry_recipe.proofs.RecipeLaws.{tally-short, tally-long}
use Rattle.entry_recipe.proofs.recipe_refusal.Goals as goal

pub returns-then-tally-lt256 : goal.returns-then-tally-lt256
returns-then-tally-lt256 c = λ ss t. tally-short ss _ _ (omega arith)

pub returns : goal.returns
returns c = λ ss t. tally-long ss _ _ (omega arith) (c.refusal.ensures ss t)
