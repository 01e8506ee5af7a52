use Rattle.std.proofs.Common.{arith, sym}
use Rattle.bit_words.proofs.WordLaws.{few-first, few_across, few_shifted}
use Rattle.bit_runs.proofs.push_few.Goals as goal

pub returns-then-s-eq0 : goal.returns-then-s-eq0
returns-then-s-eq0 c = let r = c.requires in sym (few-first c.args.m c.args.bits _ c.args.at (omega arith) c.if-s-eq0.true r.m_nonzero r.m_bound r.bits_bound)

pub returns-then-s-m-gt8 : goal.returns-then-s-m-gt8
returns-then-s-m-gt8 c = few_across c.args.m c.args.bits _ c.args.at (omega arith) (omega arith) c.if-s-m-gt8.true c.requires.m_bound c.requires.bits_bound

pub returns-else-s-m-gt8 : goal.returns-else-s-m-gt8
returns-else-s-m-gt8 c = few_shifted c.args.m c.args.bits _ c.args.at (omega arith) (omega arith) c.if-s-m-gt8.false c.requires.bits_bound
