use Rattle.std.proofs.Common.{sym, length, arith}
use Rattle.model.specs.Column.{rows_of}
use Rattle.model.proofs.ColumnLaws.{length-rows}
use Rattle.checks.proofs.RefusedLaws.{handed_on}
use Rattle.column.proofs.WalkLaws.{readable}
use Rattle.grades.specs.Graded.{column_of}
use Rattle.grades.proofs.CallLaws.{early_is, none_early, column-refused, column-passed, grade_early, grade_refused, grade_made}
use Rattle.grades.proofs.grade_column.Goals as goal

pub returns-in_err-early_refusal : goal.returns-in_err-early_refusal
returns-in_err-early_refusal c =
    let a = c.args in
    let C = column_of a.list in
    rw (handed_on _ _ c.from_residual.ensures)
    (grade_early _ C _ _ (early_is a.k C (length a.grades.now) c.in_err-early_refusal.ensures))

pub returns-in_err-lengths : goal.returns-in_err-lengths
returns-in_err-lengths c =
    let a = c.args in
    let C = column_of a.list in
    rw (handed_on _ _ c.from_residual-in_err-lengths.ensures)
    (grade_refused _ C _ (early_is a.k C (length a.grades.now) c.in_ok-early_refusal.ensures) _ (column-refused C _ c.in_err-lengths.ensures))

pub grade_rows-requires : goal.grade_rows-requires
grade_rows-requires c =
    let a = c.args in
    let C = column_of a.list in
    let n = none_early _ (rows_of C) _ (sym (early_is a.k C (length a.grades.now) c.in_ok-early_refusal.ensures)) in
    record {
      positive = n.0;
      column = readable C (sym (column-passed C _ c.in_ok-lengths.ensures).0);
      room = omega (arith, n.1, length-rows C);
    }

pub returns : goal.returns
returns c =
    let a = c.args in
    let C = column_of a.list in
    let p = column-passed C _ c.in_ok-lengths.ensures in
    grade_made _ C _ (early_is a.k C (length a.grades.now) c.in_ok-early_refusal.ensures) p.0 p.1 c.grade_rows.ensures
