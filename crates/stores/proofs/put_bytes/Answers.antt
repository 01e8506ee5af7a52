use Rattle.std.proofs.Common.{arith}
use Rattle.stores.proofs.StoreLaws.{part_filled}
use Rattle.stores.proofs.put_bytes.Goals as goal

pub returns : goal.returns
returns c = let a = c.args in part_filled a.byte c.fill.new.self a.bitmap.now a.k a.m _ (omega arith) c.requires (c.fill.ensures.after (λ y e. e))
