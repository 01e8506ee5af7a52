use Rattle.std.proofs.Common.{arith, ◌∙◌}
use Rattle.bit_words.proofs.WordLaws.{word_shifted}
use Rattle.bit_words.proofs.push_word.Goals as goal

pub returns : goal.returns
returns c =
    let a = c.args in
    c.put_word-2.ensures ∙ word_shifted a.word a.out.now a.at (omega (arith, c.requires)) (omega (arith, c.if-s-eq0.false)) c.ranges.word.fits
