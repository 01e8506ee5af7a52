use Rattle.std.proofs.Common.{arith, w32, ap}
use Rattle.model.specs.Column.{count}
use Rattle.model.proofs.SignedLaws.{back64, count_small}
use Rattle.model.proofs.offsets.I32Offset.to_number.Goals as goal

pub returns-clause-upper_bound : goal.returns-clause-upper_bound
returns-clause-upper_bound c =
    omega (arith, ap count (back64 c.from.result c.from.type_inv), ap count c.from.ensures, count_small w32 c.args.self c.ranges.self.sfits)
