-- The rows cut out of both lists and of the arguments, and the copy or the steps on them.
use Rattle.std.proofs.Common.{refl, sym, ap, ◌∙◌, ◌+◌, ◌-◌, ◌*◌, ℕ, length, arith}
use Rattle.model.specs.Column.{Column, Arguments, row_count}
use Rattle.column.specs.Columns.{column_in, values_in}
use Rattle.column.specs.Outputs.{room_in}
use Rattle.column.proofs.CutLaws.{part_count, part_readable}
use Rattle.recipe_refusal.proofs.RefusalLaws.{passed}
use Rattle.step.specs.Step.{front_in}
use Rattle.attempt.proofs.ArgumentLaws.{left_over, rest_covers}
use Rattle.attempt.proofs.CallLaws.{call_copy, call_steps}
use Rattle.attempt.proofs.FitLaws.{all_steps}
use Rattle.attempt.proofs.take_steps.Goals as goal

pub copy-requires : goal.copy-requires
copy-requires g c =
    let r = c.requires in
    rw c.rows_of-list.ensures (part_readable _ _ _ r.begins r.ends r.first)

pub returns-then-steps-eq0-clause-answers : goal.returns-then-steps-eq0-clause-answers
returns-then-steps-eq0-clause-answers g c =
    let m = c.copy.ensures in
    record { meets = rw (call_copy _ _ _ _ _ _ _ _ _ _ _ c.requires c.rows_of-list.ensures c.if-steps-eq0.true) m.meets; same = m.same }

pub steps-requires-clause-steps : goal.steps-requires-clause-steps
steps-requires-clause-steps g c =
    let a = c.args in
    let r = c.requires in
    let C = column_in g.O.Offset.numbers a.inputs.list in
    let A = values_in a.inputs.arguments in
    let p = passed a.recipe.numbers.now a.recipe.columns C _ A r.none in
    let l = ap (λ (x : Arguments). length x.values) c.arguments_from.ensures ∙ left_over A a.begin in
    all_steps a.recipe.numbers.now a.recipe.columns c.row_count.result (a.end - a.begin) a.begin _ p.formed (omega (arith, r.begins, r.ends, c.row_count.ensures)) (l ∙ ap (λ (x : ℕ). x - a.begin) (p.many ∙ ap (λ (x : ℕ). a.recipe.columns * x) (sym c.row_count.ensures))) c.if-steps-eq0.false

pub steps-requires-clause-taken : goal.steps-requires-clause-taken
steps-requires-clause-taken g c =
    let a = c.args in
    let r = c.requires in
    let C = column_in g.O.Offset.numbers a.inputs.list in
    let cut = c.rows_of-list.ensures in
    record {
      first = λ z. rw cut (part_readable C a.begin a.end r.begins r.ends r.first);
      rows = λ z. ap (λ (x : Column). row_count x.offsets) cut ∙ part_count C a.begin a.end r.begins r.ends;
      later = λ z. absurd (z refl);
    }

pub steps-requires-clause-beside : goal.steps-requires-clause-beside
steps-requires-clause-beside g c =
    let a = c.args in
    let r = c.requires in
    let D = column_in g.O.Offset.numbers a.inputs.second in
    let cut = c.rows_of.ensures in
    record {
      second = rw cut (part_readable D a.begin a.end r.begins r.second-ends r.second);
      rows = ap (λ (x : Column). row_count x.offsets) cut ∙ part_count D a.begin a.end r.begins r.second-ends;
      bits = rest_covers _ _ r.covers c.arguments_from.ensures;
    }

pub returns-clause-answers : goal.returns-clause-answers
returns-clause-answers g c =
    let m = c.steps.ensures.answers in
    let a = c.args in
    record { meets = rw (call_steps _ _ _ _ _ _ _ _ _ _ _ c.requires (front_in g.O.Offset.numbers (a.end - a.begin) 0 a.two.now) c.rows_of-list.ensures c.rows_of.ensures c.arguments_from.ensures c.row_count.ensures c.if-steps-eq0.false) m.meets; same = m.same }
