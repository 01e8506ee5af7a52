-- Station 0 is one, so the call is the window's; the trays that it left are cleared.
use Rattle.std.proofs.Common.{arith}
use Rattle.model.proofs.Stations.{station_named}
use Rattle.copies.proofs.TrayLaws.{clears_on}
use Rattle.windows.proofs.run_window.Goals as goal

pub returns-clause-list_answers : goal.returns-clause-list_answers
returns-clause-list_answers g c =
    let m = c.attempt_at_station-answer.ensures.answers in
    record { meets = rw (station_named 0 _ (omega arith)) at m.meets; same = m.same }

pub returns-clause-clears : goal.returns-clause-clears
returns-clause-clears g c = let k = c.attempt_at_station-answer.ensures.one in clears_on k.same k.room c.clear.ensures

pub returns-clause-clears_2 : goal.returns-clause-clears_2
returns-clause-clears_2 g c = let k = c.attempt_at_station-answer.ensures.two in clears_on k.same k.room c.clear-2.ensures
