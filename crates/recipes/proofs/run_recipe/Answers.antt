-- The call for all rows is the run; its answer moves the tally, and the trays that it left are cleared.
use Rattle.column.specs.Columns.{column_in, values_in}
use Rattle.column.specs.Outputs.{room_in}
use Rattle.copies.proofs.TrayLaws.{clears_on}
use Rattle.tally.proofs.TallyLaws.{tallied_is}
use Rattle.attempt.proofs.CallLaws.{whole_call}
use Rattle.recipe_refusal.specs.Refused.{recipe_in}
use Rattle.recipes.proofs.run_recipe.Goals as goal

pub returns-clause-list_answers : goal.returns-clause-list_answers
returns-clause-list_answers g c =
    let a = c.args in
    let i = a.inputs in
    let numbers = g.O.Offset.numbers in
    let m = c.attempt_at_station-answer.ensures.answers in
    let whole = whole_call g.O.Offset.LIMITS (recipe_in a.recipe) (column_in numbers i.list) (column_in numbers i.second) (values_in i.arguments) (room_in a.one.now) (room_in a.two.now) (room_in a.out.now) c.row_count-n.ensures in
    record { meets = rw (c.settle.ensures.answer_value, ← whole) m.meets; same = m.same }

pub returns-clause-clears : goal.returns-clause-clears
returns-clause-clears g c = let k = c.attempt_at_station-answer.ensures.one in clears_on k.same k.room c.clear.ensures

pub returns-clause-clears_2 : goal.returns-clause-clears_2
returns-clause-clears_2 g c = let k = c.attempt_at_station-answer.ensures.two in clears_on k.same k.room c.clear-2.ensures

pub returns-clause-tally_value : goal.returns-clause-tally_value
returns-clause-tally_value g c =
    let a = c.args in
    let i = a.inputs in
    let numbers = g.O.Offset.numbers in
    let whole = whole_call g.O.Offset.LIMITS (recipe_in a.recipe) (column_in numbers i.list) (column_in numbers i.second) (values_in i.arguments) (room_in a.one.now) (room_in a.two.now) (room_in a.out.now) c.row_count-n.ensures in
    rw (c.settle.ensures.tally_value, ← whole) (tallied_is _ _ _ _ c.attempt_at_station-answer.ensures.answers.meets.answer)
