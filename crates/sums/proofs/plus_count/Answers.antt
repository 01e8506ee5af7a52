use Rattle.model.proofs.SignedLaws.{back64}
use Rattle.model.specs.Refusals.{plus}
use Rattle.sums.specs.Sums.{summed, count_if}
use Rattle.sums.proofs.SumLaws.{plus_negative, plus_checked}
use Rattle.sums.proofs.plus_count.Goals as goal

pub returns-then-not-valid : goal.returns-then-not-valid
unfolding count_if plus summed
returns-then-not-valid c = rw c.if-not-valid.true

pub returns-then-n-lt0 : goal.returns-then-n-lt0
unfolding count_if summed
returns-then-n-lt0 c =
    rw (c.if-not-valid.false, c.in-Some.is, plus_negative c.args.sum c.in-Some.n (rw (back64 _ c.in-Some.known_told-1-own.given.0.1) at c.if-n-lt0.true))

pub returns-in-None : goal.returns-in-None
unfolding count_if plus summed
returns-in-None c = rw (c.if-not-valid.false, c.in-None.is)

pub returns-else-n-lt0 : goal.returns-else-n-lt0
unfolding count_if
returns-else-n-lt0 c =
    let f = c.in-Some.known_told-1-own.given.0.1 in
    rw (c.if-not-valid.false, c.in-Some.is, c.ok_or.ensures.value)
    (plus_checked c.args.sum c.in-Some.n c.limit_of.result c.checked_add.result (rw (back64 _ f) at c.if-n-lt0.false) (rw (back64 _ f) at c.limit_of.ensures) c.checked_add.ensures)
