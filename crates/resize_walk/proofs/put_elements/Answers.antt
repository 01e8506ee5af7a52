use Rattle.std.proofs.Common.{refl}
use Rattle.column.proofs.SameLaws.{wrote}
use Rattle.column.proofs.WriteLaws.{begun, done}
use Rattle.ops.specs.Ops.{resize_op, op_elems}
use Rattle.resize_walk.proofs.put_elements.Goals as goal

pub returns-in-None : goal.returns-in-None
unfolding resize_op op_elems
returns-in-None c = rw c.in-None.is (wrote (done (begun _ refl) refl) refl refl)
