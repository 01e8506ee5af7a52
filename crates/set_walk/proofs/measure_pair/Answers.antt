-- No element where one of the pair is null; otherwise what the row functions find.
use Rattle.std.proofs.Common.{◌∙◌}
use Rattle.model.specs.Elements.{set_elems}
use Rattle.column.specs.Columns.{column_in}
use Rattle.set_rows.specs.Runs.{run_elems}
use Rattle.set_walk.proofs.SetLaws.{pair_none, pair_length}
use Rattle.set_walk.proofs.measure_pair.Goals as goal

pub returns-then-not-are_valid-clause-value : goal.returns-then-not-are_valid-clause-value
returns-then-not-are_valid-clause-value g c =
    pair_none (set_elems c.args.op) (column_in g.O.Offset.numbers c.args.left) (column_in g.O.Offset.numbers c.args.right) c.args.r c.are_valid.ensures c.if-not-are_valid.true

pub returns-clause-value : goal.returns-clause-value
returns-clause-value g c =
    let f = set_elems c.args.op in
    c.measure_set.ensures
    ∙ pair_length f (column_in g.O.Offset.numbers c.args.left) (column_in g.O.Offset.numbers c.args.right) c.args.r c.are_valid.ensures c.if-not-are_valid.false {es = f (run_elems c.of_row-left_row.result) (run_elems c.of_row-right_row.result)} (rw (c.of_row-left_row.ensures.elems, c.of_row-right_row.ensures.elems))
