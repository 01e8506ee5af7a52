use Rattle.std.proofs.Common.{refl}
use Rattle.entry.specs.Entry.{numbers}
use Rattle.entry.proofs.SizeLaws.{tested_one}
use Rattle.entry.proofs.sizes.Sizes.numbers.Goals as goal

pub returns : goal.returns
returns c = λ ss t. tested_one ss (numbers c.args.width c.args.most c.args.bytes) t refl refl
