-- The longer row is walked, the left one on equal lengths.
use Rattle.set_rows.proofs.RunLaws.{right_longer, left_longer}
use Rattle.hash_rows.proofs.set_ops.write_intersect.Goals as goal

pub write_shared-requires-clause-place : goal.write_shared-requires-clause-place
write_shared-requires-clause-place c = rw (right_longer c.args.left c.args.right c.if-left-right.true) at c.requires.place

pub returns-then-left-right-clause-writes : goal.returns-then-left-right-clause-writes
returns-then-left-right-clause-writes c =
    rw (right_longer c.args.left c.args.right c.if-left-right.true) c.write_shared.ensures.writes

pub write_shared-requires-2-clause-place : goal.write_shared-requires-2-clause-place
write_shared-requires-2-clause-place c = rw (left_longer c.args.left c.args.right c.if-left-right.false) at c.requires.place

pub returns-clause-writes : goal.returns-clause-writes
returns-clause-writes c =
    rw (left_longer c.args.left c.args.right c.if-left-right.false) c.write_shared-2.ensures.writes
