use Rattle.std.proofs.Common.{arith, ◌-◌, length, drop, ap, ◌∙◌}
use Rattle.std.proofs.lemmas.List.{take-take}
use Rattle.bit_words.specs.Words.{low_bits}
use Rattle.bit_words.proofs.WordLaws.{word_bits}
use Rattle.bit_words.proofs.word_at.Goals as goal

pub returns : goal.returns
returns c =
    let a = c.args in
    let chunk = rw c.unwrap.ensures at c.first_chunk.ensures.cases in
    let bytes = chunk.same ∙ take-take 8 (length a.bitmap.now - a.k) (drop a.k a.bitmap.now) (omega (arith, c.requires)) in
    ap (λ x. low_bits x 64) c.from_le_bytes.ensures ∙ word_bits a.bitmap.now c.unwrap.result.now a.k bytes (λ i. (c.type_inv.bitmap i).fits)
