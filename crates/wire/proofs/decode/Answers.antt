-- d has a place for each number, and nothing of it stays.
use mathlib.Core.Path.{ap, sym, ◌∙◌}
use Rattle.model.proofs.TabLaws.{length-tab}
use lib.ListN.{length}
use Rattle.wire.proofs.Writing.{whole}
use Rattle.wire.proofs.decode.Goals as goal

pub returns : goal.returns
returns g c = c.fill.ensures ∙ whole _ _ (c.requires ∙ sym (ap length (g.met.T.Number.reads c.args.s.now) ∙ length-tab _ 0 _))
