use Rattle.std.proofs.Common.{sym, ◌∙◌}
use Rattle.grade_rows.proofs.FrontLaws.{null_grade, row_graded}
use Rattle.grade_rows.proofs.row_grade.Goals as goal

pub returns-then-not-is_valid : goal.returns-then-not-is_valid
returns-then-not-is_valid c = null_grade _ _ _ _ _ _ (sym c.is_valid.ensures ∙ c.if-not-is_valid.true)

pub returns : goal.returns
returns c = row_graded _ _ _ _ _ _ (sym c.is_valid.ensures ∙ c.if-not-is_valid.false) c.elements_grade.ensures
