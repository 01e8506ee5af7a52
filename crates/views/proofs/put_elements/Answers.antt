use Rattle.std.proofs.Common.{refl}
use Rattle.column.proofs.SameLaws.{wrote}
use Rattle.column.proofs.WriteLaws.{begun, done}
use Rattle.views.proofs.put_elements.Goals as goal

pub returns-then-not-valid : goal.returns-then-not-valid
returns-then-not-valid c = rw c.if-not-valid.true (wrote (done (begun _ refl) refl) refl refl)
