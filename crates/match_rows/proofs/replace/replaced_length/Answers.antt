use Rattle.match_rows.specs.Limits.{replaced_length}
use Rattle.match_rows.proofs.replace.replaced_length.Goals as goal

pub returns-in-None : goal.returns-in-None
unfolding replaced_length
returns-in-None c = rw c.in-None.is

pub returns-in-Some : goal.returns-in-Some
unfolding replaced_length
returns-in-Some c = rw c.in-Some.is
