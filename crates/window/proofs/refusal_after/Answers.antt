use borrow.Author.Tests.{ne_eqb}
use Rattle.model.specs.Answers.{number_of}
use Rattle.checks.proofs.RefusedLaws.{handed_on, number_positive}
use Rattle.window.proofs.refusal_after.Goals as goal

pub returns-in_err-first : goal.returns-in_err-first
returns-in_err-first c =
    let k = c.in_err-first.field-0.0 in
    rw (handed_on _ _ c.from_residual.ensures, c.in_err-first.was, ne_eqb (number_of k) 0 (number_positive k))
