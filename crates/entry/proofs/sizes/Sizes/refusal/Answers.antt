use Rattle.entry.proofs.SizeLaws.{tested_ragged, tested_outsize, tested_fit}
use Rattle.entry.proofs.sizes.Sizes.refusal.Goals as goal

pub returns-then-self-counts : goal.returns-then-self-counts
returns-then-self-counts c = λ ss t. tested_ragged ss _ _ t c.if-self-counts.true

pub returns-then-self : goal.returns-then-self
returns-then-self c = λ ss t. tested_outsize ss _ _ t c.if-self-counts.false c.if-self.true

pub returns : goal.returns
returns c = λ ss t. tested_fit ss _ _ t c.if-self-counts.false c.if-self.false
