-- Each turn adds one row's count, and the values that it repeats.
use Prim.Native.Nat.{◌+◌, ◌-◌, ◌*◌}
use Rattle.std.proofs.Common.{◌≡◌, sym, ◌∙◌, arith}
use borrow.Author.Tests.{ltb-true, ltb-false}
use Rattle.column.specs.Columns.{column_in, values_in}
use Rattle.repeat_sums.specs.Counts.{sums_of}
use Rattle.repeat_sums.proofs.SumLaws.{sums-many, sums_large, sums-more, sums_done, repeated_is}
use Rattle.repeat_sums.proofs.sum_repeats.Goals as goal

pub returns-then-limits-lists : goal.returns-then-limits-lists
unfolding sums_of
returns-then-limits-lists g c =
    rw (← c.row_count-n.ensures) (sums-many _ _ _ _ c.loop-r.invariant _ (omega arith) c.repeat_count-times.ensures (rw c.LIMITS-limits.ensures at c.if-limits-lists.true))

pub row_len-len-requires-clause-a_le_b : goal.row_len-len-requires-clause-a_le_b
row_len-len-requires-clause-a_le_b g c =
    rw (c.offset_at-a.ensures.value, c.offset_at-b.ensures.value) (c.requires.rising.step c.loop-r.r (omega (arith, c.row_count-n.ensures)))

pub returns-then-is_product_over : goal.returns-then-is_product_over
unfolding sums_of
returns-then-is_product_over g c =
    let product = repeated_is (column_in g.O.Offset.numbers c.args.list) (values_in c.args.counts) c.loop-r.r _ _ _ _ c.repeat_count-times.ensures c.row_len-len.ensures c.offset_at-a.ensures.value c.offset_at-b.ensures.value in
    let over = ltb-true _ (c.repeat_count-times.result * c.row_len-len.result) (sym c.is_product_over.ensures ∙ c.if-is_product_over.true) in
    rw (← c.row_count-n.ensures) (sums_large _ _ _ _ c.loop-r.invariant _ (omega arith) c.repeat_count-times.ensures _ product (rw c.LIMITS-limits.ensures at over))

pub loop-r-preserved : goal.loop-r-preserved
loop-r-preserved g c =
    let product = repeated_is (column_in g.O.Offset.numbers c.args.list) (values_in c.args.counts) c.loop-r.r _ _ _ _ c.repeat_count-times.ensures c.row_len-len.ensures c.offset_at-a.ensures.value c.offset_at-b.ensures.value in
    let within = ltb-false _ (c.repeat_count-times.result * c.row_len-len.result) (sym c.is_product_over.ensures ∙ c.if-is_product_over.false) in
    let left : c.row_count-n.result - (c.loop-r.r + 1) ≡ c.row_count-n.result - c.loop-r.r - 1 = omega arith in
    rw left (sums-more _ _ _ _ c.loop-r.invariant _ (omega arith) c.repeat_count-times.ensures _ product (rw c.LIMITS-limits.ensures at c.if-limits-lists.false) (rw c.LIMITS-limits.ensures at within))

pub returns : goal.returns
unfolding sums_of
returns g c = rw (← c.row_count-n.ensures) (sums_done _ _ _ _ c.loop-r.invariant (omega arith))
