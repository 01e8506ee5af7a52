-- The early refusals, then the sums: 8, or the lengths of what is made.
use Rattle.std.proofs.Common.{refl, ◌∙◌, arith}
use Rattle.checks.proofs.RefusedLaws.{handed_on, number_positive}
use Rattle.model.specs.Asked.{asked_repeat}
use Rattle.column.specs.Columns.{column_in, values_in}
use Rattle.repeat_walk.proofs.RepeatLaws.{sums_are, lengths_early, lengths_eight, lengths-made}
use Rattle.repeat_sums.proofs.SumLaws.{countable}
use Rattle.repeat_walk.proofs.lengths.Goals as goal

pub returns-in_err-early : goal.returns-in_err-early
unfolding asked_repeat
returns-in_err-early g c =
    rw (handed_on _ _ c.from_residual.ensures)
    (lengths_early _ _ (values_in c.args.counts) _ c.in_err-early.ensures.value (number_positive c.in_err-early.field-0.0))

pub sum_repeats-requires : goal.sum_repeats-requires
sum_repeats-requires g c = countable _ _ (c.in_ok-early.ensures.begun refl)

pub returns-in_err-sums : goal.returns-in_err-sums
unfolding asked_repeat
returns-in_err-sums g c =
    let b = c.in_ok-early.ensures.begun refl in
    rw (handed_on _ _ c.from_residual-in_err-sums.ensures)
    (lengths_eight _ _ (values_in c.args.counts) _ c.in_ok-early.ensures.value refl b.equal _ c.in_err-sums.ensures)

pub lengths_for-requires : goal.lengths_for-requires
lengths_for-requires g c =
    let m = sums_are g.O.Offset.LIMITS (column_in g.O.Offset.numbers c.args.list) (values_in c.args.counts) _ c.in_ok-sums.ensures in
    let f = g.met.O.Offset.limits_fit in
    record {
      n_lt_largest = omega (arith, c.row_count.ensures, (c.in_ok-early.ensures.begun refl).equal, c.ranges.counts.1);
      lists_lt_largest = omega (arith, m.few, f.outer, f.offset);
    }

pub returns : goal.returns
returns g c =
    c.lengths_for.ensures
    ∙ lengths-made _ (column_in g.O.Offset.numbers c.args.list) (values_in c.args.counts) _ c.in_ok-early.ensures.value refl (c.in_ok-early.ensures.begun refl).equal _ c.in_ok-sums.ensures _ c.row_count.ensures
