use Rattle.std.proofs.Common.{ap, ◌∙◌, sym, arith}
use Rattle.model.specs.Basics.{tab}
use Rattle.model.specs.Column.{row_at}
use Rattle.model.specs.Form.{over}
use Rattle.model.specs.Grade.{grade_of}
use Rattle.column.specs.Columns.{column_in}
use Rattle.column.proofs.WalkLaws.{between, row_from_lem}
use Rattle.wire.proofs.Reading.{begun, turned, done}
use Rattle.grade_rows.proofs.FrontLaws.{rows-graded}
use Rattle.grade_rows.proofs.grade_rows.Goals as goal

pub loop-r-init : goal.loop-r-init
loop-r-init g c = begun _ _ _

pub row_grade-requires-clause-column : goal.row_grade-requires-clause-column
row_grade-requires-clause-column g c =
    between (column_in g.O.Offset.numbers c.args.list) _ c.loop-r.r _ _ c.requires.column c.row_count-n.ensures c.loop-r-test.true c.offset_at-a.ensures.value c.offset_at-b.ensures.value

pub loop-r-preserved : goal.loop-r-preserved
loop-r-preserved g c =
    let C = column_in g.O.Offset.numbers c.args.list in
    turned (λ r. grade_of c.args.k (row_at C r)) _ _ _ _ _ c.loop-r.invariant c.loop-r-test.true (omega (arith, c.row_count-n.ensures, c.requires.room))
    (c.row_grade.ensures ∙ ap (grade_of c.args.k) (row_from_lem C c.loop-r.r _ _ c.offset_at-a.ensures.value c.offset_at-b.ensures.value))

pub returns : goal.returns
returns g c =
    let a = c.args in
    let C = column_in g.O.Offset.numbers a.list in
    done (λ r. grade_of a.k (row_at C r)) _ _ _ _ c.loop-r.invariant c.loop-r-test.false ∙ ap (λ w. over w a.grades.now) (ap (tab (λ r. grade_of a.k (row_at C r)) 0) c.row_count-n.ensures ∙ sym (rows-graded a.k C))
