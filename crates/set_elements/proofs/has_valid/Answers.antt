use Rattle.std.proofs.Common.{◌≡◌, ◌+◌, ◌-◌, sym, ◌∙◌, arith}
use Rattle.bitmap.specs.Reads.{bits_in}
use Rattle.model.specs.Column.{val, elem_at}
use Rattle.model.proofs.SignedLaws.{back64}
use Rattle.set_elements.proofs.ElementLaws.{is_in-none}
use Rattle.set_elements.proofs.SearchLaws.{not_found, found_valid, found_null}
use Rattle.set_elements.proofs.has_valid.Goals as goal
use Rattle.set_elements.proofs.has_valid.Goals.{else-found-end-via-then-found-end+else-is_valid, else-found-end-via-else-found-end}

pub returns-then-is_valid : goal.returns-then-is_valid
returns-then-is_valid c =
    let l = c.loop-p in
    let a = c.args in
    let b = rw (back64 a.v c.ranges.v.sfits) at c.before_value.ensures in
    let i = rw (back64 a.v c.ranges.v.sfits) at l.invariant in
    sym (found_valid a.v a.others.values.now (bits_in a.others.bits) l.p (a.a + a.k - l.p) _ b (omega (arith, c.if-found-end.true)) (sym c.is_valid.ensures ∙ c.if-is_valid.true)) ∙ i

pub loop-p-preserved : goal.loop-p-preserved
loop-p-preserved c =
    let l = c.loop-p in
    let a = c.args in
    let b = c.before_value.ensures in
    elim c.else-found-end.branch [
      | else-found-end-via-then-found-end+else-is_valid w ↦ (
          let r = c.before_value.result in
          let e : l.p + (r + 1) ≡ l.p + r + 1 = omega arith in
          let d : a.a + a.k - l.p - (r + 1) ≡ a.a + a.k - (l.p + r + 1) = omega arith in
          sym (rw (e, d) at (found_null _ a.others.values.now (bits_in a.others.bits) l.p (a.a + a.k - l.p) r b (omega (arith, w.if-found-end.true)) (sym w.is_valid.ensures ∙ w.if-is_valid.false))) ∙ l.invariant)
      | else-found-end-via-else-found-end w ↦
          is_in-none _ (elem_at a.others.values.now (bits_in a.others.bits)) (l.p + c.before_value.result + 1) (a.a + a.k - (l.p + c.before_value.result + 1)) (omega (arith, w.if-found-end.false))
          ∙ sym (not_found _ a.others.values.now (bits_in a.others.bits) l.p (a.a + a.k - l.p) _ b (omega (arith, w.if-found-end.false))) ∙ l.invariant
    ]

pub returns : goal.returns
returns c =
    let l = c.loop-p in
    let a = c.args in
    let i = rw (back64 a.v c.ranges.v.sfits) at l.invariant in
    sym (is_in-none (val a.v) (elem_at a.others.values.now (bits_in a.others.bits)) l.p (a.a + a.k - l.p) (omega (arith, c.loop-p-test.false))) ∙ i
