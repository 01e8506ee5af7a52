-- No elements are none.
use Rattle.std.proofs.Common.{refl}
use Rattle.model.specs.Basics.{tab}
use Rattle.set_rows.proofs.set_ops.none_of.Goals as goal

pub returns-clause-elems : goal.returns-clause-elems
unfolding tab
returns-clause-elems c = refl
