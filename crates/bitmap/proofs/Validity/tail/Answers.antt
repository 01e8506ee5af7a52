use Rattle.std.proofs.Common.{sym, ◌∙◌, arith}
use borrow.Author.Tests.{eqb-false}
use Rattle.bitmap.specs.Reads.{bits_in}
use Rattle.bitmap.proofs.PartLaws.{long}
use Rattle.bitmap.proofs.Validity.tail.Goals as goal

pub slice_bounds-result-count : goal.slice_bounds-result-count
slice_bounds-result-count c =
    omega (arith, c.requires.covers.small, long (bits_in c.args.self) c.args.n c.requires.covers (eqb-false _ _ (sym c.is_empty.ensures ∙ c.if-is_empty.false)))

pub slice_bounds-result-start : goal.slice_bounds-result-start
slice_bounds-result-start c =
    omega (arith, c.requires.covers.small, long (bits_in c.args.self) c.args.n c.requires.covers (eqb-false _ _ (sym c.is_empty.ensures ∙ c.if-is_empty.false)))
