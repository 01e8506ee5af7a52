-- The first occurrences of the left row, and those of the right one that it doesn't have.
use Rattle.std.proofs.Common.{false, [], length, length-append, ap, arith}
use Rattle.set_rows.specs.Runs.{run_elems}
use Rattle.set_rows.proofs.RunLaws.{length_run}
use Rattle.set_rows.proofs.SetLaws.{union_distinct, firsts-kept, kept_le}
use Rattle.hash_rows.proofs.set_ops.measure_union.Goals as goal

pub overflow_add-result : goal.overflow_add-result
overflow_add-result c =
    let l = c.args.left in
    let r = c.args.right in
    omega (arith, c.measure_new-first.ensures.value, c.measure_kept-second.ensures.value, ap length (firsts-kept [] [] (run_elems l)), kept_le false [] [] (run_elems l), kept_le false (run_elems l) [] (run_elems r), length_run l, length_run r)

pub returns-clause-value : goal.returns-clause-value
returns-clause-value c =
    rw (union_distinct (run_elems c.args.left) (run_elems c.args.right), length-append)
    (omega (arith, c.measure_new-first.ensures.value, c.measure_kept-second.ensures.value))
