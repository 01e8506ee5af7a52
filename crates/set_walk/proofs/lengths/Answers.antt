-- The early refusals, then the first walk: 8 by what it measured, or the lengths of that.
use Rattle.std.proofs.Common.{refl, sym, ap, ◌∙◌}
use Rattle.model.specs.Asked.{asked_list}
use Rattle.model.specs.Refusals.{union_refusal}
use Rattle.model.proofs.OutcomeLaws.{gate_open, gate_shut}
use Rattle.checks.proofs.RefusedLaws.{handed_on, number_positive}
use Rattle.set_walk.proofs.SetLaws.{lengths_early, lengths_go}
use Rattle.set_walk.proofs.lengths.Goals as goal

pub returns-in_err-early : goal.returns-in_err-early
unfolding asked_list
returns-in_err-early g c =
    rw (handed_on _ _ c.from_residual.ensures)
    (lengths_early _ _ _ _ _ (c.in_err-early.ensures.value c.args.op) (number_positive _))

pub returns-in_err-union_refusal : goal.returns-in_err-union_refusal
unfolding asked_list
returns-in_err-union_refusal g c =
    let a = c.args in
    let h = lengths_go a.op _ _ g.O.Offset.LIMITS 0 (c.in_ok-early.ensures.value a.op) refl (c.in_ok-early.ensures.begun refl).equal in
    let e = c.in_err-union_refusal.ensures ∙ ap (union_refusal g.O.Offset.LIMITS a.op) c.measure_pairs-m.ensures.value in
    rw (handed_on _ _ c.from_residual-in_err-union_refusal.ensures) (sym (h ∙ rw (← e) (gate_shut _ _ (number_positive _))))

pub returns : goal.returns
returns g c =
    let a = c.args in
    let h = lengths_go a.op _ _ g.O.Offset.LIMITS 0 (c.in_ok-early.ensures.value a.op) refl (c.in_ok-early.ensures.begun refl).equal in
    let e = c.in_ok-union_refusal.ensures ∙ ap (union_refusal g.O.Offset.LIMITS a.op) c.measure_pairs-m.ensures.value in
    c.lengths_for.ensures
    ∙ rw (c.row_count.ensures, c.measure_pairs-m.ensures.value) (sym (h ∙ gate_open _ _ (sym e)))
