-- The row walked shows what it shows in its column.
use Rattle.set_rows.proofs.RunLaws.{walked_right, walked_left, readable_right, readable_left}
use Rattle.set_rows.proofs.set_ops.walked.Goals as goal
use Rattle.set_rows.proofs.set_ops.walked.Goals.{then-left-right, else-left-right}

pub returns-clause-elems : goal.returns-clause-elems
returns-clause-elems c =
    let a = c.args in
    elim c.if-left-right.branch [
      | then-left-right w ↦ walked_right a.left a.right c.if-left-right.row c.requires.left c.requires.right c.values.ensures c.values-2.ensures c.longer-values.ensures c.bits.ensures w.if-left-right.true w.row-is
      | else-left-right w ↦ walked_left a.left a.right c.if-left-right.row c.requires.left c.requires.right c.values.ensures c.values-2.ensures c.longer-values.ensures c.bits.ensures w.if-left-right.false w.row-is
    ]

pub returns-clause-readable : goal.returns-clause-readable
returns-clause-readable c =
    let a = c.args in
    elim c.if-left-right.branch [
      | then-left-right w ↦ readable_right a.left a.right c.if-left-right.row c.requires.left c.requires.right c.values.ensures c.values-2.ensures c.longer-values.ensures c.bits.ensures w.if-left-right.true w.row-is
      | else-left-right w ↦ readable_left a.left a.right c.if-left-right.row c.requires.left c.requires.right c.values.ensures c.values-2.ensures c.longer-values.ensures c.bits.ensures w.if-left-right.false w.row-is
    ]
