use Rattle.std.proofs.Common.{◌≡◌, ◌∙◌, ◌+◌, ◌-◌, ◌*◌, ◌/◌, ◌%◌, length, arith, rules, tests}
use Rattle.bitmap.specs.Reads.{bits_in}
use Rattle.model.specs.Bitmap.{valid_at}
use Rattle.slice_rows.proofs.WordLaws.{all_ones, empty_valid, enough_bytes, lent_bits_lem, one_bit, word_bits}
use Rattle.slice_rows.proofs.validity.word_at.Goals as goal

pub returns-then-is_empty : goal.returns-then-is_empty
returns-then-is_empty c =
    let b = bits_in c.args.bits in
    let e : length b.bytes ≡ 0 = search (rules, tests, c.if-is_empty.ensures) in
    all_ones (valid_at b) c.args.r (c.args.n - c.args.r) (empty_valid b e)

pub returns-then-n-r-lt64 : goal.returns-then-n-r-lt64
returns-then-n-r-lt64 c =
    one_bit (valid_at (bits_in c.args.bits)) c.args.r (c.args.n - c.args.r) c.is_valid.result c.if-n-r-lt64.true c.is_valid.ensures

pub word_from-requires-clause-s_in_bounds : goal.word_from-requires-clause-s_in_bounds
word_from-requires-clause-s_in_bounds c =
    let b = bits_in c.args.bits in
    let e : length b.bytes ≡ 0 → ⊥ = λ z. search (rules, tests, c.if-is_empty.ensures, z) in
    omega (arith, c.requires.known.small, c.requires.there, c.if-n-r-lt64.false, enough_bytes b c.args.n c.requires.known e)

pub returns : goal.returns
returns c =
    let a = c.args in
    let b = bits_in a.bits in
    let h : length b.bytes ≡ 0 → ⊥ = λ z. search (rules, tests, c.if-is_empty.ensures, z) in
    let e : 8 * (a.r / 8 + (b.start + a.r % 8) / 8) + (b.start + a.r % 8) % 8 ≡ b.start + a.r = omega arith in
    word_bits (valid_at b) a.r (a.n - a.r) c.word_from.result c.if-n-r-lt64.false (c.word_from.ensures ∙ lent_bits_lem b _ a.r 64 e h)
