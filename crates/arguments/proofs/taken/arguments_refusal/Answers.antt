use mathlib.Core.Path.{sym, ap}
use Rattle.column.specs.Columns.{values_in}
use Rattle.arguments.proofs.TakenLaws.{none_over, refusal_is}
use Rattle.arguments.proofs.taken.arguments_refusal.Goals as goal

pub is_short_if-requires : goal.is_short_if-requires
is_short_if-requires c =
    let a = c.args in
    (none_over a.op c.takes-t.result.columns a.xs.bits.start a.ys.bits.start a.zs.bits.start (ap (λ r. r.columns) (sym c.takes-t.ensures)) c.requires).0

pub is_short_if-requires-2 : goal.is_short_if-requires-2
is_short_if-requires-2 c =
    let a = c.args in
    (none_over a.op c.takes-t.result.columns a.xs.bits.start a.ys.bits.start a.zs.bits.start (ap (λ r. r.columns) (sym c.takes-t.ensures)) c.requires).1

pub is_short_if-requires-3 : goal.is_short_if-requires-3
is_short_if-requires-3 c =
    let a = c.args in
    (none_over a.op c.takes-t.result.columns a.xs.bits.start a.ys.bits.start a.zs.bits.start (ap (λ r. r.columns) (sym c.takes-t.ensures)) c.requires).2

pub returns-then-short : goal.returns-then-short
returns-then-short c =
    let a = c.args in
    rw (refusal_is a.op _ a.n (values_in a.xs) (values_in a.ys) (values_in a.zs) c.takes-t.ensures, ← c.is_short_if.ensures, ← c.is_short_if-2.ensures, ← c.is_short_if-3.ensures, c.if-short.true)

pub returns-then-wrong : goal.returns-then-wrong
returns-then-wrong c =
    let a = c.args in
    rw (refusal_is a.op _ a.n (values_in a.xs) (values_in a.ys) (values_in a.zs) c.takes-t.ensures, ← c.is_short_if.ensures, ← c.is_short_if-2.ensures, ← c.is_short_if-3.ensures, c.if-short.false)
    (rw (← c.limits.ensures, ← c.limits-2.ensures, ← c.is_wrong_if.ensures, ← c.is_wrong_if-2.ensures, ← c.is_wrong_if-3.ensures, c.if-wrong.true))

pub returns : goal.returns
returns c =
    let a = c.args in
    rw (refusal_is a.op _ a.n (values_in a.xs) (values_in a.ys) (values_in a.zs) c.takes-t.ensures, ← c.is_short_if.ensures, ← c.is_short_if-2.ensures, ← c.is_short_if-3.ensures, c.if-short.false)
    (rw (← c.limits.ensures, ← c.limits-2.ensures, ← c.is_wrong_if.ensures, ← c.is_wrong_if-2.ensures, ← c.is_wrong_if-3.ensures, c.if-wrong.false))
