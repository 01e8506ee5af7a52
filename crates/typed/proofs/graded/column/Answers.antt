-- One grade a row, the answer told; or 100.
use mathlib.Core.Path.{refl}
use borrow.Author.Tests.{lt-ltb, le-ltb}
use Rattle.typed.proofs.TypedLaws.{too_short, own, grade_unserved, grade_told}
use Rattle.typed.proofs.graded.column.Goals as goal

pub returns-then-counts-lt1 : goal.returns-then-counts-lt1
returns-then-counts-lt1 c = grade_unserved _ (too_short _ _ _ refl (lt-ltb _ 1 c.if-counts-lt1.true))

pub returns : goal.returns
returns c = grade_told (own _ _ _ refl (le-ltb _ 1 c.if-counts-lt1.false)) c.grade_column-answer.ensures c.put_grade.ensures
