-- No element where one of the pair is null; otherwise what the row functions find.
use Rattle.std.proofs.Common.{◌∙◌}
use Rattle.column.specs.Columns.{column_in}
use Rattle.hash_checks.specs.Area.{hash_elems}
use Rattle.hash_checks.specs.Narrow.{narrow_numbers}
use Rattle.hash_walk.proofs.WalkingLaws.{need_valid}
use Rattle.set_rows.specs.Runs.{run_elems}
use Rattle.set_walk.proofs.SetLaws.{pair_none, pair_length}
use Rattle.hash_walk.proofs.measure_pair.Goals as goal

pub returns-then-not-are_valid-clause-value : goal.returns-then-not-are_valid-clause-value
returns-then-not-are_valid-clause-value c =
    pair_none (hash_elems c.args.op) (column_in narrow_numbers c.args.left) (column_in narrow_numbers c.args.right) c.args.r c.are_valid.ensures c.if-not-are_valid.true

pub measure_row-requires-clause-room : goal.measure_row-requires-clause-room
measure_row-requires-clause-room c =
    need_valid c.args.op (column_in narrow_numbers c.args.left) (column_in narrow_numbers c.args.right) c.args.r _ _ _ c.are_valid.ensures c.if-not-are_valid.false c.of_row-left_row.ensures.count c.of_row-right_row.ensures.count c.requires.room

pub returns-clause-value : goal.returns-clause-value
returns-clause-value c =
    let f = hash_elems c.args.op in
    c.measure_row.ensures.value
    ∙ pair_length f (column_in narrow_numbers c.args.left) (column_in narrow_numbers c.args.right) c.args.r c.are_valid.ensures c.if-not-are_valid.false {es = f (run_elems c.of_row-left_row.result) (run_elems c.of_row-right_row.result)} (rw (c.of_row-left_row.ensures.elems, c.of_row-right_row.ensures.elems))
