use Rattle.std.proofs.Common.{arith, sym, ◌∙◌, below_more}
use Rattle.model.proofs.SignedLaws.{back64}
use Rattle.rows.specs.Cells.{elem_of}
use Rattle.rows.proofs.CellLaws.{none_more}
use Rattle.rows.proofs.utils.before_equal.Goals as goal

pub returns-then-r-n : goal.returns-then-r-n
unfolding elem_of
returns-then-r-n c =
    let f = c.ranges.v.sfits in
    record {
      inside = omega arith;
      none = none_more _ _ _ _ _ _ _ (rw (back64 _ f) at c.loop-r.invariant.1) (rw (back64 _ f) at c.before_value-r.ensures);
      found = λ h. absurd (omega (arith, c.if-r-n.true));
    }

pub returns-then-compare_element_to_list : goal.returns-then-compare_element_to_list
unfolding elem_of
returns-then-compare_element_to_list c =
    let f = c.ranges.v.sfits in
    record {
      inside = omega (arith, c.before_value-r.ensures.inside);
      none = none_more _ _ _ _ _ _ _ (rw (back64 _ f) at c.loop-r.invariant.1) (rw (back64 _ f) at c.before_value-r.ensures);
      found = λ h. sym (rw (back64 _ f) at c.compare_element_to_list.ensures) ∙ c.if-compare_element_to_list.true;
    }

pub loop-r-preserved : goal.loop-r-preserved
unfolding elem_of
loop-r-preserved c =
    let f = c.ranges.v.sfits in (
      omega (arith, c.before_value-r.ensures.inside, c.if-r-n.false),
      rw (back64 _ f)
          (below_more _ _ (none_more _ _ _ _ _ _ _ (rw (back64 _ f) at c.loop-r.invariant.1) (rw (back64 _ f) at c.before_value-r.ensures))
          (sym (rw (back64 _ f) at c.compare_element_to_list.ensures) ∙ c.if-compare_element_to_list.false)),
    )

pub returns : goal.returns
unfolding elem_of
returns c = record {
  inside = omega arith;
  none = rw (back64 _ c.ranges.v.sfits) at c.loop-r.invariant.1;
  found = λ h. absurd (omega arith);
}
