use Rattle.std.proofs.Common.{◌≡◌, arith, false, ltb, ltb-false}
use Rattle.model.specs.Column.{refusal2ᵃ}
use Rattle.arguments.specs.Taken.{over_if, short_if}
use Rattle.arguments.proofs.taken.is_short_if.Goals as goal

pub is_short-requires : goal.is_short-requires
unfolding over_if
is_short-requires c =
    let e : ltb 7 c.args.column.bits.start ≡ false = rw c.if-on.true at c.requires in
    omega (arith, ltb-false 7 c.args.column.bits.start e)

pub returns-then-on : goal.returns-then-on
unfolding short_if refusal2ᵃ
returns-then-on c = rw c.if-on.true c.is_short.ensures

pub returns-else-on : goal.returns-else-on
unfolding short_if
returns-else-on c = rw c.if-on.false
