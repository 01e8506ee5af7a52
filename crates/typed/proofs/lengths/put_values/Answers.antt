-- The number alone, or the lengths over the front.
use Rattle.typed.proofs.LengthLaws.{value_refused, value_made_lem}
use Rattle.typed.proofs.lengths.put_values.Goals as goal

pub returns-in-Err : goal.returns-in-Err
returns-in-Err c = rw c.from.ensures (value_refused _ c.in-Err.is)

pub returns-in-Ok : goal.returns-in-Ok
returns-in-Ok c = value_made_lem c.in-Ok.is c.put_counts.ensures
