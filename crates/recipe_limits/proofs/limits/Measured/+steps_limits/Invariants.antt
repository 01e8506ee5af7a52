use Rattle.recipe_limits.proofs.limits.Measured.+steps_limits.Given as goal

abbrev pub decreases-steps_limits : goal.decreases-steps_limits
decreases-steps_limits l = l.left
