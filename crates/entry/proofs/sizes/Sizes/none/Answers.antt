use Rattle.entry.proofs.SizeLaws.{tested_none}
use Rattle.entry.proofs.sizes.Sizes.none.Goals as goal

pub returns : goal.returns
returns c = tested_none
