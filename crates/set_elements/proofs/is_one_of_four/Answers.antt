use Rattle.std.proofs.Common.{◌≡◌, ◌<◌, ◌^◌, ℤ, pos, get_or, of_z, arith, w64}
use lib.Dec.{eqb}
use lib.Signed.{mag}
use Rattle.model.specs.Column.{val}
use Rattle.model.specs.Elements.{eq_z, same_elem}
use Rattle.set_elements.specs.Pairs.{plain}
use Rattle.set_elements.proofs.ElementLaws.{eq_bits}
use Rattle.set_elements.proofs.PairLaws.{is_in_four}
use Rattle.set_elements.proofs.is_one_of_four.Goals as goal

pub returns : goal.returns
unfolding same_elem
returns c =
    let f = c.args.four.now in
    let same : (x : ℤ) → mag x < 2 ^ 63 → eqb (of_z w64 c.args.v) (of_z w64 x) ≡ eq_z c.args.v x = λ x g. eq_bits c.args.v x c.ranges.v (record { sfits = g }) in
    rw (same (get_or f 0 (pos 0)) (omega arith), same (get_or f 1 (pos 0)) (omega arith), same (get_or f 2 (pos 0)) (omega arith), same (get_or f 3 (pos 0)) (omega arith))
    (is_in_four (val c.args.v) (plain f) 0)
