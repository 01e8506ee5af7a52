use Rattle.std.proofs.Common.{◌≡◌, ◌+◌, ◌-◌, ◌/◌, ℤ, List, take, drop, length, arith, rules, ◌∙◌}
use borrow.Author.Tests.{tests}
use Rattle.std.proofs.lemmas.Iterator.{YieldsList-from_slice}
use Rattle.std.proofs.lemmas.Iterator.Search.{any_from_yields_List}
use Rattle.model.proofs.SignedLaws.{back64}
use Rattle.set_elements.specs.Pairs.{has_value}
use Rattle.set_elements.proofs.SearchLaws.{any_value, any_four}
use Rattle.set_elements.proofs.has_value.Goals as goal

pub returns-then-any : goal.returns-then-any
returns-then-any c =
    let a = c.args in
    let e : a.a + a.k - a.a ≡ a.k = omega arith in
    let m = any_from_yields_List (λ (four : List ℤ). has_value a.v four 0 4) _ _ c.any.result c.any.ensures.ran (YieldsList-from_slice c.as_chunks.result.0.now cc) (λ x b q k. search (rules, tests, back64)) in
    let W = take a.k (drop a.a a.values.now) in
    let f = any_four a.v W (length W / 4) (omega arith) in
    c.if-any.true ∙ rw (← rw (c.as_chunks.ensures.front, e) at m, c.if-any.true) at f ∙ any_value a.v a.values.now a.a a.k c.requires

pub returns-else-any : goal.returns-else-any
returns-else-any c =
    let a = c.args in
    let e : a.a + a.k - a.a ≡ a.k = omega arith in
    let m = any_from_yields_List (λ (four : List ℤ). has_value a.v four 0 4) _ _ c.any.result c.any.ensures.ran (YieldsList-from_slice c.as_chunks.result.0.now cc) (λ x b q k. search (rules, tests, back64)) in
    let W = take a.k (drop a.a a.values.now) in
    let f = any_four a.v W (length W / 4) (omega arith) in
    rw (back64 a.v c.ranges.v.sfits, c.as_chunks.ensures.back, e) at c.contains.ensures.value
    ∙ rw (← rw (c.as_chunks.ensures.front, e) at m, c.if-any.false) at f ∙ any_value a.v a.values.now a.a a.k c.requires
