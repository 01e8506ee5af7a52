use Rattle.std.proofs.Common.{sym, ◌∙◌, arith}
use borrow.Author.Tests.{eqb-false}
use Rattle.bitmap.specs.Reads.{bits_in}
use Rattle.bitmap.proofs.BitLaws.{within}
use Rattle.bitmap.proofs.Validity.is_valid.Goals as goal

pub bit_at-requires : goal.bit_at-requires
bit_at-requires c =
    omega (arith, within (bits_in c.args.self) c.args.i c.args.n c.requires.covers c.requires.i_lt_n (eqb-false _ _ (sym c.is_empty.ensures ∙ c.if-is_empty.false)))

pub bit_from-requires-clause-i_in_bounds : goal.bit_from-requires-clause-i_in_bounds
bit_from-requires-clause-i_in_bounds c =
    within (bits_in c.args.self) c.args.i c.args.n c.requires.covers c.requires.i_lt_n (eqb-false _ _ (sym c.is_empty.ensures ∙ c.if-is_empty.false))
