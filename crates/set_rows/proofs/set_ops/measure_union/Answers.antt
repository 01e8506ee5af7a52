-- Two walks, the first of them with no others.
use Rattle.std.proofs.Common.{false, [], length-append, arith}
use Rattle.set_rows.specs.Runs.{run_elems}
use Rattle.set_rows.proofs.RunLaws.{length_run}
use Rattle.set_rows.proofs.SetLaws.{union_kept, kept_le}
use Rattle.set_rows.proofs.set_ops.measure_union.Goals as goal

pub overflow_add-result : goal.overflow_add-result
overflow_add-result c =
    let l = c.args.left in
    let r = c.args.right in
    omega (arith, c.measure_kept-first.ensures, c.measure_kept-second.ensures, kept_le false (run_elems c.none_of.result) [] (run_elems l), kept_le false (run_elems l) [] (run_elems r), length_run l, length_run r, c.requires.sum)

pub returns : goal.returns
returns c =
    let l = run_elems c.args.left in
    let r = run_elems c.args.right in
    rw (union_kept l r, length-append) (omega (arith, rw c.none_of.ensures.elems at c.measure_kept-first.ensures, c.measure_kept-second.ensures))
