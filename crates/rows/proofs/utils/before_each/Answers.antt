use Rattle.model.proofs.SignedLaws.{back64}
use Rattle.rows.proofs.utils.before_each.Goals as goal

pub returns-in-None : goal.returns-in-None
returns-in-None c = rw c.in-None.is c.before_null.ensures

pub returns-in-Some : goal.returns-in-Some
returns-in-Some c = rw c.in-Some.is (rw (back64 _ c.in-Some.known_told-1-own.given.0.1) at c.before_equal.ensures)
