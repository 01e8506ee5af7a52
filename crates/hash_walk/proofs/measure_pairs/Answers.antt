-- A turn adds the elements made of one pair of rows.
use Rattle.std.proofs.Common.{◌∙◌, arith}
use Rattle.column.specs.Columns.{column_in}
use Rattle.column.proofs.WalkLaws.{sum_done}
use Rattle.hash_checks.specs.Narrow.{narrow_numbers}
use Rattle.hash_walk.specs.Hashes.{hash_rows}
use Rattle.hash_walk.proofs.WalkingLaws.{hash_more, hash_small, need_fits}
use Rattle.hash_walk.proofs.measure_pairs.Goals as goal

pub measure_pair-found-requires-clause-room : goal.measure_pair-found-requires-clause-room
measure_pair-found-requires-clause-room c =
    rw c.loop-r.auto.area (need_fits c.args.op (column_in narrow_numbers c.args.left) (column_in narrow_numbers c.args.right) c.loop-r.r _ (omega (arith, c.row_count-r-end.ensures)) c.requires.room)

pub overflow_add-found : goal.overflow_add-found
overflow_add-found c =
    let m = c.measure_pair-found.ensures in
    let more = hash_more c.args.op (column_in narrow_numbers c.args.left) (column_in narrow_numbers c.args.right) _ _ c.measure_pair-found.result c.requires.begun c.row_count-r-end.ensures c.loop-r.invariant.0 (omega arith) m.left_end m.right_end m.value in
    omega (arith, more.small, hash_small c.args.op)

pub loop-r-preserved : goal.loop-r-preserved
loop-r-preserved c =
    let m = c.measure_pair-found.ensures in
    (hash_more c.args.op (column_in narrow_numbers c.args.left) (column_in narrow_numbers c.args.right) _ _ c.measure_pair-found.result c.requires.begun c.row_count-r-end.ensures c.loop-r.invariant.0 (omega arith) m.left_end m.right_end m.value, m.clean_from)

pub returns-clause-value : goal.returns-clause-value
unfolding hash_rows
returns-clause-value c = sum_done _ _ _ c.loop-r.invariant.0 (omega arith) ∙ rw c.row_count-r-end.ensures
