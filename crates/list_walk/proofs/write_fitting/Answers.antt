use Rattle.std.proofs.Common.{refl, sym, ◌∙◌}
use Rattle.column.specs.Outputs.{room_in}
use Rattle.column.specs.Columns.{column_in, values_in}
use Rattle.made_rows.specs.Made.{call_rows}
use Rattle.model.specs.declared.Refusal.TheVariants.{ShortOutput}
use Rattle.column.proofs.AnswerLaws.{list-refused, list-made, same_fit, fitted-made, fitted_short}
use Rattle.made_rows.proofs.CallLaws.{length-call}
use Rattle.list_walk.proofs.write_fitting.Goals as goal

pub returns-then-not-has_room : goal.returns-then-not-has_room
returns-then-not-has_room g c =
    let a = c.args in
    let col = column_in g.O.Offset.numbers a.list in
    let x = values_in a.xs in
    let y = values_in a.ys in
    let z = values_in a.zs in
    let lim = g.O.Offset.LIMITS in
    let l = room_in a.out.now in
    let ws = call_rows lim a.op col x y z in
    let rows = c.row_count-n.ensures ∙ sym (length-call lim a.op col x y z) in
    let test = c.has_room.ensures ∙ same_fit l rows c.requires.made in
    record { meets = list-refused ShortOutput (fitted_short ws l (sym test ∙ c.if-not-has_room.true)); same = record { offsets = refl; rows = refl; elements = refl; values = refl; bits = refl } }

pub returns : goal.returns
returns g c =
    let a = c.args in
    let col = column_in g.O.Offset.numbers a.list in
    let x = values_in a.xs in
    let y = values_in a.ys in
    let z = values_in a.zs in
    let lim = g.O.Offset.LIMITS in
    let l = room_in a.out.now in
    let ws = call_rows lim a.op col x y z in
    let rows = c.row_count-n.ensures ∙ sym (length-call lim a.op col x y z) in
    let test = c.has_room.ensures ∙ same_fit l rows c.requires.made in
    record { meets = list-made ws _ _ (fitted-made ws l (sym test ∙ c.if-not-has_room.false)) rows c.requires.made c.write_rows.ensures.filled c.list_answer.ensures; same = c.write_rows.ensures.same }
