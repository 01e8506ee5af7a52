use Rattle.std.proofs.lemmas.Nat.{one_shl, and_mask}
use Rattle.std.proofs.Common.{arith}
use Rattle.bit_words.proofs.ones_below.Goals as goal

pub returns : goal.returns
returns c = rw (one_shl c.args.m 8 (omega arith), and_mask c.args.byte c.args.m)
