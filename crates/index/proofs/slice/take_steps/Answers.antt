use Rattle.std.proofs.Common.{arith}
use Rattle.model.specs.Column.{count}
use Rattle.index.specs.Plan.{is_below}
use Rattle.index.proofs.StepLaws.{one_step}
use Rattle.index.proofs.slice.take_steps.Goals as goal

pub loop-stride-preserved : goal.loop-stride-preserved
unfolding count is_below
loop-stride-preserved g c = grind (arith, g.met.O.Offset, one_step)
