use Rattle.std.proofs.Common.{◌≡◌, ◌+◌, ◌-◌, ℤ, true, false, take, drop, rules}
use borrow.Author.Tests.{tests}
use Rattle.std.specs.Ordering.{int_eq}
use Rattle.std.proofs.lemmas.Iterator.{IsFirst-from_position, YieldsList-from_slice}
use Rattle.model.proofs.SignedLaws.{back64}
use Rattle.set_elements.proofs.SearchLaws.{before_position}
use Rattle.set_elements.proofs.before_value.Goals as goal

pub returns : goal.returns
returns c =
    let a = c.args in
    let r = c.fours_before-r.result in
    let W = take (a.a + a.k - (a.a + r)) (drop (a.a + r) a.values.now) in
    let m = IsFirst-from_position _ _ c.position.result (λ (y : ℤ). int_eq y a.v ≡ true) (λ (y : ℤ). int_eq y a.v ≡ false) c.position.ensures.ran (YieldsList-from_slice W cc) (λ x q k. search (rules, tests, back64)) (λ x q k. search (rules, tests, back64)) in
    let f = c.fours_before-r.ensures in
    rw c.unwrap_or.ensures (before_position a.v a.values.now a.a a.k r c.requires f.upper_bound (rw (back64 a.v c.ranges.v.sfits) at f.result_value) c.position.result m)
