use Rattle.std.proofs.Common.{arith}
use Rattle.model.specs.Column.{count}
use Rattle.index.specs.Plan.{is_below}
use Rattle.index.proofs.StepLaws.{eights_counted}
use Rattle.index.proofs.slice.count_down.Goals as goal

pub add-requires-3 : goal.add-requires-3
unfolding count is_below
add-requires-3 g c = grind (arith, g.met.O.Offset, eights_counted)

pub returns : goal.returns
unfolding count is_below
returns g c = grind (arith, g.met.O.Offset, eights_counted)
