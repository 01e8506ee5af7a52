-- The longer row is walked, and the other looked in.
use Rattle.std.proofs.Common.{length, sym, ap, ◌∙◌}
use Rattle.set_rows.proofs.RunLaws.{intersect_runs}
use Rattle.set_rows.proofs.set_ops.measure_intersect.Goals as goal

pub returns : goal.returns
returns c =
    let a = c.args in
    c.measure_kept.ensures ∙ ap length (sym (intersect_runs a.left a.right c.walked.result c.looked_in.result c.walked.ensures.elems c.looked_in.ensures.elems))
