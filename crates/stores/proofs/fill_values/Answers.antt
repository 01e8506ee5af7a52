use Rattle.std.proofs.Common.{arith}
use Rattle.model.proofs.SignedLaws.{back64}
use Rattle.stores.proofs.StoreLaws.{part_filled}
use Rattle.stores.proofs.fill_values.Goals as goal

pub returns : goal.returns
returns c = let a = c.args in part_filled a.v c.fill.new.self a.out.now a.at a.n _ (omega arith) c.requires (rw (back64 _ c.ranges.v.sfits) at (c.fill.ensures.after (λ y e. e)))
