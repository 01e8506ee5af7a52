-- The limits of a recipe; or 100.
use mathlib.Core.Path.{refl}
use borrow.Author.Tests.{lt-ltb, le-ltb}
use Rattle.model.specs.Call.{limit_counts}
use Rattle.typed.proofs.LengthLaws.{short_lengths, own_lengths}
use Rattle.typed.proofs.measures.recipe.Goals as goal

pub returns-then-limits-lt3 : goal.returns-then-limits-lt3
returns-then-limits-lt3 g c = short_lengths limit_counts _ refl (lt-ltb _ 3 c.if-limits-lt3.true)

pub returns : goal.returns
returns g c = own_lengths limit_counts _ refl (le-ltb _ 3 c.if-limits-lt3.false) c.recipe_limits-answer.ensures c.put_limits.ensures
