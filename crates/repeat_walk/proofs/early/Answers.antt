-- 13 of the counts, then 13, 1 and 2 of the list, then 2 and 3 of the counts.
use mathlib.Core.Path.{refl, sym, ◌∙◌}
use native.Mathlib.Omega.{arith}
use borrow.Author.Tests.{ltb-false}
use Rattle.checks.proofs.RefusedLaws.{handed_on, number_positive}
use Rattle.column.specs.Columns.{values_in}
use Rattle.column.proofs.WalkLaws.{readable}
use Rattle.repeat_walk.proofs.RepeatLaws.{early_starts, early_list, early_two, early_three, early_none}
use Rattle.repeat_walk.proofs.early.Goals as goal

pub returns-then-is_start_over : goal.returns-then-is_start_over
returns-then-is_start_over g c = record {
  value = early_starts _ (values_in c.args.counts) (sym c.is_start_over.ensures ∙ c.if-is_start_over.true);
  begun = λ h. let n : ⊥ = omega (arith, h) in absurd n;
}

pub returns-in_err-list_refusal : goal.returns-in_err-list_refusal
returns-in_err-list_refusal g c =
    let k = c.in_err-list_refusal.field-0.0 in
    rw (handed_on _ _ c.from_residual.ensures)
    (record {
      value = early_list _ (values_in c.args.counts) (sym c.is_start_over.ensures ∙ c.if-is_start_over.false) _ c.in_err-list_refusal.ensures (number_positive k);
      begun = λ h. absurd (number_positive k h);
    })

pub returns-then-is_short : goal.returns-then-is_short
returns-then-is_short g c = record {
  value = early_two _ (values_in c.args.counts) (sym c.is_start_over.ensures ∙ c.if-is_start_over.false) _ c.in_ok-list_refusal.ensures refl (sym c.is_short.ensures ∙ c.if-is_short.true);
  begun = λ h. let n : ⊥ = omega (arith, h) in absurd n;
}

pub returns-then-counts-row_count : goal.returns-then-counts-row_count
returns-then-counts-row_count g c = record {
  value =
      early_three _ (values_in c.args.counts) (sym c.is_start_over.ensures ∙ c.if-is_start_over.false) _ c.in_ok-list_refusal.ensures refl (sym c.is_short.ensures ∙ c.if-is_short.false)
      (λ z. c.if-counts-row_count.true (z ∙ sym c.row_count.ensures));
  begun = λ h. let n : ⊥ = omega (arith, h) in absurd n;
}

pub returns : goal.returns
returns g c =
    let started = sym c.is_start_over.ensures ∙ c.if-is_start_over.false in
    let long = sym c.is_short.ensures ∙ c.if-is_short.false in
    let counted = c.if-counts-row_count.false ∙ c.row_count.ensures in
    record {
      value = early_none _ (values_in c.args.counts) started _ c.in_ok-list_refusal.ensures refl long counted;
      begun = λ h. record {
        list = readable _ (sym c.in_ok-list_refusal.ensures);
        bits = record { small = omega (arith, ltb-false _ _ started); long = long };
        equal = counted;
      };
    }
