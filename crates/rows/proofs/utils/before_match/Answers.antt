use mathlib.Core.Path.{◌≡◌, sym, ◌∙◌}
use Prim.Native.Nat.{◌+◌}
use native.Mathlib.Omega.{arith}
use lib.ListN.{length}
use Rattle.model.proofs.SignedLaws.{back64}
use Rattle.bitmap.specs.Reads.{bits_in}
use Rattle.rows.specs.Cells.{elem_of}
use Rattle.rows.proofs.CellLaws.{plain_null, plain_value}
use Rattle.rows.proofs.utils.before_match.Goals as goal

pub returns-in-None : goal.returns-in-None
unfolding elem_of
returns-in-None c =
    let a = c.args in
    let z : length a.elements.bits.bytes.now ≡ 0 = omega arith in
    rw c.in-None.is
    (record {
      inside = omega arith;
      none = λ i h. plain_null a.elements.values.now (bits_in a.elements.bits) z (a.a + i);
      found = λ h. let z : ⊥ = omega arith in absurd z;
    })

pub returns-in-Some : goal.returns-in-Some
unfolding elem_of
returns-in-Some c =
    let a = c.args in
    let z : length a.elements.bits.bytes.now ≡ 0 = omega arith in
    let b = rw (back64 _ c.in-Some.known_told-1-own.given.0.1) at c.before_value.ensures in
    rw c.in-Some.is
    (record {
      inside = b.inside;
      none = λ i h. sym (plain_value a.elements.values.now (bits_in a.elements.bits) z (a.a + i) _) ∙ b.none i h;
      found = λ h. sym (plain_value a.elements.values.now (bits_in a.elements.bits) z (a.a + _) _) ∙ b.found h;
    })
