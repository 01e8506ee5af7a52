-- The number alone, or the lengths over the front.
use Rattle.typed.proofs.LengthLaws.{list-refused, list-made}
use Rattle.typed.proofs.lengths.put_list.Goals as goal

pub returns-in-Err : goal.returns-in-Err
returns-in-Err c = rw c.from.ensures (list-refused _ c.in-Err.is)

pub returns-in-Ok : goal.returns-in-Ok
returns-in-Ok c = list-made c.in-Ok.is c.put_counts.ensures
