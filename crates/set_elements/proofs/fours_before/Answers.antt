use Rattle.std.proofs.Common.{◌≡◌, ◌+◌, ◌-◌, ◌/◌, ◌≤◌, ◌<◌, true, false, ℕ, ℤ, List, Option, None, Some, take, drop, length, arith, rules}
use borrow.Author.Tests.{tests}
use Rattle.std.proofs.lemmas.List.{length-take, length-drop}
use Rattle.std.specs.List.{AllWithin, HoldsAt}
use Rattle.std.specs.Option.{MatchOption, unwrap_or}
use Rattle.std.proofs.lemmas.Iterator.{IsFirst-from_position, YieldsList-from_slice}
use Rattle.model.proofs.SignedLaws.{back64}
use Rattle.set_elements.specs.Pairs.{has_value}
use Rattle.set_elements.proofs.SearchLaws.{none_four}
use Rattle.set_elements.proofs.fours_before.Goals as goal

-- the fours before the one found, or all of them
passed : (P Q : List ℤ → Type 0) (xs : List (List ℤ)) (o : Option ℕ) → MatchOption o (AllWithin P xs 0 (length xs)) (λ (i : ℕ). (i < length xs) × HoldsAt Q xs i × AllWithin P xs 0 i) → (unwrap_or o (length xs) ≤ length xs) × AllWithin P xs 0 (unwrap_or o (length xs))
passed P Q xs None m = (omega arith, m)
passed P Q xs (Some i) m = (omega (arith, m.0), m.2)

pub returns-clause-result_value : goal.returns-clause-result_value
returns-clause-result_value c =
    let a = c.args in
    let m = IsFirst-from_position _ _ c.position.result (λ (four : List ℤ). has_value a.v four 0 4 ≡ true) (λ (four : List ℤ). has_value a.v four 0 4 ≡ false) c.position.ensures.ran (YieldsList-from_slice c.as_chunks.result.0.now cc) (λ x q k. search (rules, tests, back64)) (λ x q k. search (rules, tests, back64)) in
    let W = take a.k (drop a.a a.values.now) in
    let e : a.a + a.k - a.a ≡ a.k = omega arith in
    let n : length W ≡ a.k = omega (arith, length-take a.k (drop a.a a.values.now), length-drop a.a a.values.now) in
    let t : length c.as_chunks.result.0.now ≡ length W / 4 = rw e at c.as_chunks.ensures.front_len in
    let p = passed (λ (four : List ℤ). has_value a.v four 0 4 ≡ false) (λ (four : List ℤ). has_value a.v four 0 4 ≡ true) c.as_chunks.result.0.now c.position.result m in
    none_four a.v a.values.now a.a a.k (length W / 4) c.unwrap_or.result (omega arith) c.requires (omega (arith, p.0)) (rw (← c.unwrap_or.ensures, rw e at c.as_chunks.ensures.front) at p.1)
