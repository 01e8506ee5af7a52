use Rattle.set_elements.proofs.ElementLaws.{pop_front, pop_back}
use lib.ListN.{length-reverse}
use Rattle.model.proofs.TabLaws.{length-tab}
use Rattle.model.specs.Elements.{unary_elems}
use Rattle.column.specs.Columns.{elem_in}
use Rattle.row_ops.proofs.measure_plain.Goals as goal

pub returns-in-Reverse : goal.returns-in-Reverse
unfolding unary_elems
returns-in-Reverse c = rw (c.in-Reverse.is, length-reverse, length-tab)

pub returns-in-PopFront : goal.returns-in-PopFront
returns-in-PopFront c =
    let a = c.args in
    rw (c.in-PopFront.is, pop_front (elem_in a.elements) a.a a.n, length-tab) c.one_less.ensures

pub returns-in-PopBack : goal.returns-in-PopBack
returns-in-PopBack c =
    let a = c.args in
    rw (c.in-PopBack.is, pop_back (elem_in a.elements) a.a a.n, length-tab) c.one_less-in-PopBack.ensures
