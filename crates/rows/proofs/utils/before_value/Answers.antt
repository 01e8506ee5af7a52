use Rattle.std.proofs.Common.{arith, sym, ◌∙◌, below_more}
use borrow.Author.Tests.{eq-eqb, ne_eqb}
use Rattle.model.proofs.SignedLaws.{back64}
use Rattle.set_elements.proofs.ElementLaws.{eq_bits}
use Rattle.rows.proofs.utils.before_value.Goals as goal

pub returns-then-values-a : goal.returns-then-values-a
returns-then-values-a c = record {
  inside = omega arith;
  none = rw (back64 _ c.ranges.v.sfits) at c.loop-r.invariant;
  found = λ h. sym (eq_bits _ _ (record { sfits = c.t10-1.given }) c.ranges.v) ∙ eq-eqb _ _ c.if-values-a.true;
}

pub loop-r-preserved : goal.loop-r-preserved
loop-r-preserved c =
    below_more _ _ c.loop-r.invariant
    (rw (back64 _ c.ranges.v.sfits) (sym (eq_bits _ _ (record { sfits = c.t10-1.given }) c.ranges.v) ∙ ne_eqb _ _ c.if-values-a.false))

pub returns : goal.returns
returns c = record {
  inside = omega arith;
  none = λ i h. rw (back64 _ c.ranges.v.sfits) at (c.loop-r.invariant i (omega arith));
  found = λ h. absurd (omega arith);
}
