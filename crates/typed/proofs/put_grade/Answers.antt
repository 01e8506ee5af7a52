-- The number alone, or the count over the front.
use Rattle.typed.proofs.TypedLaws.{grade_refused, grade_made}
use Rattle.typed.proofs.put_grade.Goals as goal

pub returns-in-Err : goal.returns-in-Err
returns-in-Err c = rw c.from.ensures (grade_refused _ c.in-Err.is)

pub returns-in-Ok : goal.returns-in-Ok
returns-in-Ok c = grade_made c.in-Ok.is c.put_counts.ensures
