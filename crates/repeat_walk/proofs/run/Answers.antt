-- The early refusals, then the sums: 8, or what is made.
use Rattle.std.proofs.Common.{refl}
use Rattle.checks.proofs.RefusedLaws.{handed_on, number_positive}
use Rattle.column.specs.Columns.{column_in, values_in}
use Rattle.column.specs.Outputs.{repeat_room_in}
use Rattle.repeat_walk.proofs.AnswerLaws.{repeat_refused}
use Rattle.repeat_walk.proofs.RepeatLaws.{sums_are, run_early, run_eight, run_fits}
use Rattle.repeat_sums.proofs.SumLaws.{countable}
use Rattle.repeat_walk.proofs.run.Goals as goal

pub returns-in_err-early : goal.returns-in_err-early
returns-in_err-early g c =
    rw (handed_on _ _ c.from_residual.ensures)
    (record {
      meets = repeat_refused _ (run_early _ _ (values_in c.args.counts) _ c.in_err-early.ensures.value _ (number_positive c.in_err-early.field-0.0));
      outer = record { offsets = refl; rows = refl };
      lists = record { offsets = refl; rows = refl; elements = refl; values = refl; bits = refl };
    })

pub sum_repeats-requires : goal.sum_repeats-requires
sum_repeats-requires g c = countable _ _ (c.in_ok-early.ensures.begun refl)

pub returns-in_err-sums : goal.returns-in_err-sums
returns-in_err-sums g c =
    rw (handed_on _ _ c.from_residual-in_err-sums.ensures)
    (record {
      meets = repeat_refused _ (run_eight _ _ (values_in c.args.counts) _ c.in_ok-early.ensures.value refl (c.in_ok-early.ensures.begun refl).equal _ c.in_err-sums.ensures _);
      outer = record { offsets = refl; rows = refl };
      lists = record { offsets = refl; rows = refl; elements = refl; values = refl; bits = refl };
    })

pub fill-requires-clause-sized : goal.fill-requires-clause-sized
fill-requires-clause-sized g c = sums_are g.O.Offset.LIMITS (column_in g.O.Offset.numbers c.args.list) (values_in c.args.counts) _ c.in_ok-sums.ensures

pub returns : goal.returns
returns g c =
    let w = c.fill.ensures in
    record {
      meets = rw (run_fits _ (column_in g.O.Offset.numbers c.args.list) (values_in c.args.counts) _ c.in_ok-early.ensures.value refl (c.in_ok-early.ensures.begun refl).equal _ c.in_ok-sums.ensures (repeat_room_in c.args.out.now c.args.inner.now)) w.meets;
      outer = w.outer;
      lists = w.lists;
    }
