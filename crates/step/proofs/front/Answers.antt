use Rattle.std.proofs.Common.{◌+◌}
use Rattle.step.proofs.StepLaws.{numbers_front, front_is}
use Rattle.step.proofs.front.Goals as goal

pub returns : goal.returns
returns g c =
    let a = c.args in
    front_is (g.O.Offset.numbers a.offsets.now) a.rows.now a.elements.now.values.now a.elements.now.bits.now a.n a.m _ _ (numbers_front g.O.Offset.number g.O.Offset.numbers g.met.O.Offset.numbers_are (a.n + 1) a.offsets.now) c.bytes_for.ensures c.bytes_for-2.ensures
