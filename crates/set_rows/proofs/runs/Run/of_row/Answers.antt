-- A row lies between its offsets.
use Rattle.std.proofs.Common.{refl, arith}
use Rattle.column.specs.Columns.{column_in}
use Rattle.column.proofs.WalkLaws.{between}
use Rattle.set_rows.proofs.runs.Run.of_row.Goals as goal

pub overflow_sub-result : goal.overflow_sub-result
overflow_sub-result g c =
    (between (column_in g.O.Offset.numbers c.args.list) _ c.args.r _ _ c.requires.readable refl c.requires.there c.offset_at-from.ensures.value c.offset_at-end.ensures.value).rises

pub returns-clause-readable : goal.returns-clause-readable
returns-clause-readable g c =
    let w = between (column_in g.O.Offset.numbers c.args.list) _ c.args.r _ _ c.requires.readable refl c.requires.there c.offset_at-from.ensures.value c.offset_at-end.ensures.value in
    record { inside = omega (arith, w.rises, w.inside); bits = w.elements }
