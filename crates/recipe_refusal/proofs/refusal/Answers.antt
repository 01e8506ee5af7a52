use mathlib.Core.Path.{sym, ◌∙◌}
use Rattle.checks.proofs.RefusedLaws.{handed_on, number_positive}
use Rattle.model.specs.Column.{refusal2ᵃ}
use Rattle.recipe_refusal.proofs.RefusalLaws.{refused_ten, refused_starts, refused-lists, refused-short, refused-rows, refused-length}
use Rattle.recipe_refusal.proofs.refusal.Goals as goal

pub returns-then-is_malformed : goal.returns-then-is_malformed
returns-then-is_malformed g c = refused_ten _ _ _ _ _ (sym c.is_malformed.ensures ∙ c.if-is_malformed.true)

pub returns-then-is_start_over : goal.returns-then-is_start_over
returns-then-is_start_over g c =
    refused_starts _ _ _ _ _ (sym c.is_malformed.ensures ∙ c.if-is_malformed.false) (sym c.is_start_over.ensures ∙ c.if-is_start_over.true)

pub returns-in_err-lists_refusal : goal.returns-in_err-lists_refusal
returns-in_err-lists_refusal g c =
    rw (handed_on _ _ c.from_residual.ensures)
    (refused-lists _ _ _ _ _ (sym c.is_malformed.ensures ∙ c.if-is_malformed.false) (sym c.is_start_over.ensures ∙ c.if-is_start_over.false) _ c.in_err-lists_refusal.ensures (number_positive c.in_err-lists_refusal.field-0.0))

pub returns-then-is_short : goal.returns-then-is_short
unfolding refusal2ᵃ
returns-then-is_short g c =
    refused-short _ _ _ _ _ (sym c.is_malformed.ensures ∙ c.if-is_malformed.false) (sym c.is_start_over.ensures ∙ c.if-is_start_over.false) (sym c.in_ok-lists_refusal.ensures) (sym c.is_short.ensures ∙ c.if-is_short.true)

pub returns-then-row_count : goal.returns-then-row_count
unfolding refusal2ᵃ
returns-then-row_count g c =
    refused-rows _ _ _ _ _ (sym c.is_malformed.ensures ∙ c.if-is_malformed.false) (sym c.is_start_over.ensures ∙ c.if-is_start_over.false) (sym c.in_ok-lists_refusal.ensures) (sym c.is_short.ensures ∙ c.if-is_short.false) (λ z. c.if-row_count.true (c.row_count.ensures ∙ z ∙ sym c.row_count-2.ensures))

pub returns-then-has_wrong_length : goal.returns-then-has_wrong_length
unfolding refusal2ᵃ
returns-then-has_wrong_length g c =
    sym (refused-length _ _ _ _ _ (sym c.is_malformed.ensures ∙ c.if-is_malformed.false) (sym c.is_start_over.ensures ∙ c.if-is_start_over.false) (sym c.in_ok-lists_refusal.ensures) (sym c.is_short.ensures ∙ c.if-is_short.false) (sym c.row_count.ensures ∙ c.if-row_count.false ∙ c.row_count-2.ensures) c.has_wrong_length.result c.has_wrong_length.ensures ∙ rw c.if-has_wrong_length.true)

pub returns : goal.returns
unfolding refusal2ᵃ
returns g c =
    sym (refused-length _ _ _ _ _ (sym c.is_malformed.ensures ∙ c.if-is_malformed.false) (sym c.is_start_over.ensures ∙ c.if-is_start_over.false) (sym c.in_ok-lists_refusal.ensures) (sym c.is_short.ensures ∙ c.if-is_short.false) (sym c.row_count.ensures ∙ c.if-row_count.false ∙ c.row_count-2.ensures) c.has_wrong_length.result c.has_wrong_length.ensures ∙ rw c.if-has_wrong_length.false)
