-- The longer row is walked, and the other looked in.
use Rattle.set_rows.proofs.RunLaws.{intersect_runs}
use Rattle.set_rows.proofs.set_ops.write_intersect.Goals as goal

pub write_kept-requires-clause-room : goal.write_kept-requires-clause-room
write_kept-requires-clause-room c =
    let a = c.args in
    rw (intersect_runs a.left a.right c.walked.result c.looked_in.result c.walked.ensures.elems c.looked_in.ensures.elems) at c.requires.room

pub returns : goal.returns
returns c =
    let a = c.args in
    rw (intersect_runs a.left a.right c.walked.result c.looked_in.result c.walked.ensures.elems c.looked_in.ensures.elems) c.write_kept.ensures
