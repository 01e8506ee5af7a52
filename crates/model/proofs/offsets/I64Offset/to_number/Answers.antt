use Rattle.std.proofs.Common.{arith, w64}
use Rattle.model.proofs.SignedLaws.{count_small}
use Rattle.model.proofs.offsets.I64Offset.to_number.Goals as goal

pub returns-clause-upper_bound : goal.returns-clause-upper_bound
returns-clause-upper_bound c = omega (arith, count_small w64 c.args.self c.ranges.self.sfits)
