-- The number alone, or the lengths over the front.
use Rattle.typed.proofs.LengthLaws.{repeat_refused, repeat_made}
use Rattle.typed.proofs.lengths.put_repeat.Goals as goal

pub returns-in-Err : goal.returns-in-Err
returns-in-Err c = rw c.from.ensures (repeat_refused _ c.in-Err.is)

pub returns-in-Ok : goal.returns-in-Ok
returns-in-Ok c = repeat_made c.in-Ok.is c.put_counts.ensures
