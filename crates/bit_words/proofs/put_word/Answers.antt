use Rattle.std.proofs.Common.{arith, length, refl, ap, ◌∙◌}
use Rattle.std.proofs.lemmas.List.Edits.{sets}
use Rattle.runs.proofs.SameLaws.{next_stored, all_stored}
use Rattle.bit_words.proofs.WordLaws.{word_stored}
use Rattle.bit_words.proofs.put_word.Goals as goal

pub loop-i-preserved : goal.loop-i-preserved
loop-i-preserved c = next_stored c.loop-i.i c.loop-i.invariant _ refl 0 _ (omega (arith, ap length c.to_le_bytes-bytes.ensures)) refl

pub returns : goal.returns
returns c =
    let a = c.args in
    all_stored c.loop-i.i c.loop-i.invariant (omega (arith, ap length c.to_le_bytes-bytes.ensures))
    ∙ ap (sets a.out.now a.k) c.to_le_bytes-bytes.ensures
    ∙ word_stored a.word a.out.now a.k c.requires
