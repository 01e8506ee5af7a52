use Rattle.std.proofs.Common.{arith}
use Rattle.recipe_limits.proofs.limits.Measured.step_limit.Goals as goal

pub overflow_mul-step : goal.overflow_mul-step
overflow_mul-step c = let h = c.requires.there c.if-step-eq6.true in record { fits = omega (arith, c.well_formed) }
