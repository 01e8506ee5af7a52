use Rattle.std.proofs.Common.{◌≡◌, ◌*◌, ◌-◌, ◌%◌, ◌^◌, sym, arith}
use Rattle.std.proofs.lemmas.Nat.{pow_pos, shl_whole}
use Rattle.runs.proofs.SameLaws.{ones_within, zeros_within}
use Rattle.runs.proofs.push_within.Goals as goal

pub returns-then-on : goal.returns-then-on
returns-then-on c =
    let a = c.args in
    let p = pow_pos a.m in
    let shifted : (2 ^ a.m - 1) * 2 ^ (a.i % 8) % 256 ≡ (2 ^ a.m - 1) * 2 ^ (a.i % 8) = shl_whole (2 ^ a.m - 1) a.m (a.i % 8) 8 (omega arith) (omega (arith, c.requires.m_bound)) in
    rw (c.if-on.true, c.low_ones.ensures, shifted) (sym (ones_within a.m _ a.i c.requires.i_in_bounds c.requires.nonzero c.requires.m_bound))

pub returns-else-on : goal.returns-else-on
returns-else-on c = rw c.if-on.false (sym (zeros_within c.args.m _ c.args.i c.requires.nonzero c.requires.m_bound))
