-- The recipe looked at for a few rows, its answer told; or 100.
use Rattle.typed.proofs.WindowLaws.{window-told}
use Rattle.typed.proofs.windowed.recipe.Goals as goal

pub returns-clause-list_served : goal.returns-clause-list_served
returns-clause-list_served g c =
    let m = c.run_window-answer.ensures.list_answers in
    record { served = window-told _ _ _ _ _ _ _ _ _ _ _ c.begin_for-first.ensures c.end_for-last.ensures m.meets c.settle.ensures; same = m.same }
