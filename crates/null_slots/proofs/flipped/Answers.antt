use Rattle.std.proofs.Common.{◌≡◌, ℕ, ◌-◌, ◌*◌, ◌%◌, ◌^◌, ◌≤◌, Bool, true, false, cond, ltb, not, map, refl, ap, ◌∙◌, arith}
use Rattle.std.proofs.lemmas.Nat.Bits.{ones_shl}
use borrow.Author.Tests.{ltb-false}
use lib.Bits.{and_mask}
use lib.Pow.{pow_mono}
use Rattle.bit_words.proofs.WordLaws.{low_mod}
use Rattle.null_slots.proofs.MarkLaws.{low_flipped}
use Rattle.null_slots.proofs.flipped.Goals as goal

-- all but the m lowest bits of a word
high : (b : Bool) (m : ℕ) → ltb m 64 ≡ b → m ≤ 64 → cond b (18446744073709551615 * 2 ^ m % 18446744073709551616) 0 ≡ 18446744073709551616 - 2 ^ m
high true m e h = ones_shl 64 m h
high false m e h = let z : m ≡ 64 = omega (arith, ltb-false m 64 e) in rw z

pub returns-clause-m_value : goal.returns-clause-m_value
returns-clause-m_value c =
    let m = c.args.m in
    let r = 18446744073709551615 - c.args.word in
    let fits : 2 ^ m ≤ 2 ^ 64 = pow_mono c.requires in
    let low : 18446744073709551615 - c.unbounded_shl.result ≡ 2 ^ m - 1 = omega (arith, c.unbounded_shl.ensures ∙ high (ltb m 64) m refl c.requires) in
    rw (low, and_mask r m) (ap (map not) (low_mod m r) ∙ low_flipped m 64 c.args.word c.requires c.ranges.word.fits)
