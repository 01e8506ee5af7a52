use Rattle.std.proofs.Common.{◌≡◌, ℕ, ◌-◌, ◌/◌, ◌%◌, ◌^◌, ◌≤◌, arith, mod-lt}
use Rattle.std.proofs.lemmas.Nat.Bits.{ones_shr}
use lib.Bits.{bit_and, and_mask}
use lib.Pow.{pow_pos}
use Rattle.bit_words.proofs.WordLaws.{read_within, read_across}
use Rattle.bit_runs.proofs.few_at.Goals as goal

-- the mask keeps the m lowest bits
masked : (x m : ℕ) → m ≤ 8 → bit_and x (255 / 2 ^ (8 - m)) ≡ x % 2 ^ m
masked x m h = let e : 8 - (8 - m) ≡ m = omega arith in rw (ones_shr 8 (8 - m) (omega arith), e) (and_mask x m)

pub returns-then-s-m-le8 : goal.returns-then-s-m-le8
returns-then-s-m-le8 c =
    let a = c.args in
    rw (masked _ a.m c.requires.m_bound) (record { m_value = read_within a.m a.bitmap.now a.k a.s c.if-s-m-le8.true; upper_bound = mod-lt _ (pow_pos a.m) })

pub returns : goal.returns
returns c =
    let a = c.args in
    rw (masked _ a.m c.requires.m_bound) (record { m_value = read_across a.m a.bitmap.now a.k a.s (omega (arith, c.type_inv.bitmap a.k)) c.requires.s_bound c.requires.m_bound; upper_bound = mod-lt _ (pow_pos a.m) })
