use Rattle.ops.specs.Ops.{call_of}
use Rattle.entries.proofs.list.run.Goals as goal

pub returns : goal.returns
unfolding call_of
returns c = rw c.column-column.ensures at c.run.ensures
