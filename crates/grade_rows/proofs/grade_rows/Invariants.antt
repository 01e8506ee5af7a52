use Rattle.column.specs.Columns.{column_in}
use Rattle.model.specs.Column.{row_at}
use Rattle.model.specs.Grade.{grade_of}
use Rattle.wire.proofs.Reading.{Reading}
use Rattle.grade_rows.proofs.grade_rows.Given as goal

abbrev pub invariant-loop-r : goal.invariant-loop-r
invariant-loop-r g l = Reading (λ i. grade_of l.k (row_at (column_in g.O.Offset.numbers l.list) i)) l.n l.initial.grades l.grades l.r
