use mathlib.Core.Path.{sym, ap}
use Rattle.arguments.proofs.TakenLaws.{over_is}
use Rattle.arguments.proofs.taken.is_start_over.Goals as goal

pub returns : goal.returns
returns c =
    let a = c.args in
    rw (over_is a.op c.takes-t.result.columns a.xs.bits.start a.ys.bits.start a.zs.bits.start (ap (λ r. r.columns) (sym c.takes-t.ensures)), ← c.is_over_if.ensures, ← c.is_over_if-2.ensures, ← c.is_over_if-3.ensures)
