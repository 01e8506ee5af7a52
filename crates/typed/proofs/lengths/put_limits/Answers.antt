-- The number alone, or the limits over the front.
use Rattle.typed.proofs.LengthLaws.{limit_refused, limit_made}
use Rattle.typed.proofs.lengths.put_limits.Goals as goal

pub returns-in-Err : goal.returns-in-Err
returns-in-Err c = rw c.from.ensures (limit_refused _ c.in-Err.is)

pub returns-in-Ok : goal.returns-in-Ok
returns-in-Ok c = limit_made c.in-Ok.is c.put_counts.ensures
