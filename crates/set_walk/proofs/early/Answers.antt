-- 13, 1 and 2 of either list, then 3.
use Rattle.std.proofs.Common.{sym, ◌∙◌}
use borrow.Author.Tests.{eqb-true, eqb-false}
use Rattle.column.proofs.WalkLaws.{readable}
use Rattle.checks.proofs.RefusedLaws.{handed_on, number_positive}
use Rattle.set_checks.proofs.RefusalLaws.{both_formed}
use Rattle.set_walk.proofs.SetLaws.{early_lists, early_three, early_none}
use Rattle.set_walk.proofs.early.Goals as goal

pub returns-in_err-lists_refusal : goal.returns-in_err-lists_refusal
returns-in_err-lists_refusal g c =
    let p = number_positive c.in_err-lists_refusal.field-0.0 in
    rw (handed_on _ _ c.from_residual.ensures)
    (record { value = λ op. early_lists op _ _ _ c.in_err-lists_refusal.ensures p; begun = λ h. absurd (p h) })

pub returns-then-not-same_row_count-clause-value : goal.returns-then-not-same_row_count-clause-value
returns-then-not-same_row_count-clause-value g c = λ op. early_three op _ _ (sym c.in_ok-lists_refusal.ensures) (eqb-false _ _ (sym c.same_row_count.ensures ∙ c.if-not-same_row_count.true))

pub returns : goal.returns
returns g c =
    let equal = eqb-true _ _ (sym c.same_row_count.ensures ∙ c.if-not-same_row_count.false) in
    let b = both_formed _ _ (sym c.in_ok-lists_refusal.ensures) in record {
      value = λ op. early_none op _ _ (sym c.in_ok-lists_refusal.ensures) equal;
      begun = λ h. record { left = readable _ b.0; right = readable _ b.1; equal = equal };
    }
