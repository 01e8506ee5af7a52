use Rattle.steps.proofs.+steps.Given as goal

-- proposed from what the function passes where it calls itself
abbrev pub decreases-steps : goal.decreases-steps
decreases-steps g l = l.left
