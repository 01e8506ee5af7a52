-- A refusal is the one of the call in any room; where there is none, the list and the indexes can be read.
use Rattle.std.proofs.Common.{refl, ◌≡◌, ℕ, sym, ap, ◌∙◌, arith}
use Rattle.bitmap.specs.Push.{Covers}
use Rattle.checks.proofs.RefusedLaws.{handed_on, number_positive}
use Rattle.column.proofs.WalkLaws.{readable}
use Rattle.model.specs.Bitmap.{Bits}
use Rattle.model.specs.Limits.{Limits}
use Rattle.value_places.proofs.FoundLaws.{no_fours}
use Rattle.value_places.proofs.CallLaws.{element_starts, element_early, element-two, element-shown, element_three, refuses, passes}
use Rattle.value_places.proofs.element_refusal.Goals as goal

by_count : {b : Bits} {n m : ℕ} → m ≡ n → Covers b n → Covers b m
by_count e h = rw e h

pub returns-then-is_start_over : goal.returns-then-is_start_over
returns-then-is_start_over g c =
    refuses _ _ _ 13 (λ z. omega arith) (λ l. element_starts _ _ c.args.indexes l (sym c.is_start_over.ensures ∙ c.if-is_start_over.true))

pub returns-in_err-list_refusal : goal.returns-in_err-list_refusal
returns-in_err-list_refusal g c =
    let s = sym c.is_start_over.ensures ∙ c.if-is_start_over.false in
    let p = number_positive c.in_err-list_refusal.field-0.0 in
    rw (handed_on _ _ c.from_residual.ensures)
    (refuses _ _ _ _ p (λ l. element_early _ _ c.args.indexes l s _ c.in_err-list_refusal.ensures p))

pub returns-then-is_short : goal.returns-then-is_short
returns-then-is_short g c =
    let s = sym c.is_start_over.ensures ∙ c.if-is_start_over.false in
    refuses _ _ _ 2 (λ z. omega arith) (λ l. element-two _ _ c.args.indexes l s 0 c.in_ok-list_refusal.ensures refl (sym c.is_short.ensures ∙ c.if-is_short.true))

pub returns-then-indexes-row_count : goal.returns-then-indexes-row_count
returns-then-indexes-row_count g c =
    let s = sym c.is_start_over.ensures ∙ c.if-is_start_over.false in
    refuses _ _ _ 3 (λ z. omega arith)
    (λ l. element-shown _ _ c.args.indexes l s 0 c.in_ok-list_refusal.ensures refl (sym c.is_short.ensures ∙ c.if-is_short.false)
    ∙ element_three _ _ c.args.indexes l (λ z. c.if-indexes-row_count.true (z ∙ sym c.row_count.ensures)))

pub returns-then-LIMITS : goal.returns-then-LIMITS
returns-then-LIMITS g c =
    let s = sym c.is_start_over.ensures ∙ c.if-is_start_over.false in
    passes g.O.Offset.LIMITS _ c.args.indexes _ s c.in_ok-list_refusal.ensures (sym c.is_short.ensures ∙ c.if-is_short.false) (c.if-indexes-row_count.false ∙ c.row_count.ensures) (sym (no_fours _ (ap (λ (L : Limits). L.every) (sym c.LIMITS.ensures) ∙ c.if-LIMITS.true) _ _ 0 _))

pub index_refusal-requires-clause-covers : goal.index_refusal-requires-clause-covers
index_refusal-requires-clause-covers g c =
    by_count (c.if-indexes-row_count.false ∙ c.row_count.ensures) (readable _ (sym c.in_ok-list_refusal.ensures)).rows

pub returns : goal.returns
returns g c =
    let s = sym c.is_start_over.ensures ∙ c.if-is_start_over.false in
    passes g.O.Offset.LIMITS _ c.args.indexes _ s c.in_ok-list_refusal.ensures (sym c.is_short.ensures ∙ c.if-is_short.false) (c.if-indexes-row_count.false ∙ c.row_count.ensures) c.index_refusal.ensures
