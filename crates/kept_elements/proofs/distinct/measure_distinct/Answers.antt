use Rattle.bitmap.specs.Reads.{bits_in}
use Rattle.std.proofs.Common.{◌≡◌, ◌+◌, ◌-◌, Bool, not, ap, length, arith}
use Rattle.bitmap.proofs.BitLaws.{bit_byte, bit_le}
use Rattle.model.specs.Basics.{tab}
use Rattle.model.specs.Bitmap.{from, bit}
use Rattle.model.specs.Column.{elem_at}
use Rattle.model.specs.Elements.{is_in}
use Rattle.set_elements.proofs.ElementLaws.{later_all, later-none, length-later}
use Rattle.kept_elements.proofs.distinct.measure_distinct.Goals as goal

pub loop-k-init : goal.loop-k-init
loop-k-init c =
    let z : c.args.n - 0 ≡ c.args.n = omega arith in
    rw z (omega (arith, ap length (later_all (elem_at c.args.elements.values.now (bits_in c.args.elements.bits)) c.args.a c.args.n)), omega arith)

pub loop-k-preserved : goal.loop-k-preserved
loop-k-preserved c =
    let l = c.loop-k in
    let a = c.args in
    let E = elem_at a.elements.values.now (bits_in a.elements.bits) in
    let e : bit (not c.is_among-new.result) ≡ bit (not (is_in (E (a.a + l.k)) (tab E a.a l.k))) = ap (λ (t : Bool). bit (not t)) c.is_among-new.ensures in
    let b = bit_byte (not c.is_among-new.result) in
    let d : a.n - l.k - 1 ≡ a.n - (l.k + 1) = omega arith in
    let p = rw d at (length-later E a.a l.k (a.n - l.k) (omega arith)) in
    (omega (arith, c), omega (arith, c, bit_le (not c.is_among-new.result)))

pub returns : goal.returns
returns c =
    let l = c.loop-k in
    let a = c.args in
    omega (arith, ap length (later-none (elem_at a.elements.values.now (bits_in a.elements.bits)) a.a l.k (a.n - l.k) (omega arith)))
