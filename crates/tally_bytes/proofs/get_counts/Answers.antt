use mathlib.Core.Path.{◌∙◌}
use Rattle.std.proofs.Common.{arith}
use Rattle.tally_bytes.proofs.TallyLaws.{counts_cut}
use Rattle.tally_bytes.proofs.get_counts.Goals as goal

pub returns : goal.returns
returns c = c.decode.ensures ∙ counts_cut c.args.bytes.now c.args.at _ (omega arith) c.requires
