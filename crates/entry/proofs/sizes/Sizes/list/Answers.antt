use Rattle.entry.proofs.SizeLaws.{tested_both}
use Rattle.entry.proofs.sizes.Sizes.list.Goals as goal

pub returns : goal.returns
returns c = λ ss t. tested_both ss _ _ (c.numbers-2.ensures _ (c.numbers.ensures ss t))
