-- The longer row is walked, the left one on equal lengths.
use Rattle.std.proofs.Common.{length, sym, ap, ◌∙◌}
use Rattle.set_rows.proofs.RunLaws.{right_longer, left_longer}
use Rattle.hash_rows.proofs.set_ops.measure_intersect.Goals as goal

pub returns-then-left-right-clause-value : goal.returns-then-left-right-clause-value
returns-then-left-right-clause-value c =
    c.measure_shared.ensures.value ∙ ap length (sym (right_longer c.args.left c.args.right c.if-left-right.true))

pub returns-clause-value : goal.returns-clause-value
returns-clause-value c =
    c.measure_shared-2.ensures.value ∙ ap length (sym (left_longer c.args.left c.args.right c.if-left-right.false))
