-- The counts, in the tally's order.
use native.Mathlib.Omega.{arith}
use Rattle.typed.proofs.RecipeLaws.{tally_is}
use Rattle.typed.proofs.tallies.get_tally.Goals as goal

pub get_counts-finished-requires : goal.get_counts-finished-requires
get_counts-finished-requires c = omega arith

pub get_counts-refused-requires : goal.get_counts-refused-requires
get_counts-refused-requires c = omega arith

pub returns : goal.returns
returns c = tally_is _ c.get_counts-finished.ensures c.get_counts-refused.ensures
