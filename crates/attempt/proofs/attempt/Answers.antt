-- Station 0 is one, so the call is that of no station.
use Rattle.std.proofs.Common.{arith}
use Rattle.model.proofs.Stations.{station_named}
use Rattle.attempt.proofs.attempt.Goals as goal

pub returns-clause-answers : goal.returns-clause-answers
returns-clause-answers g c =
    let m = c.attempt_at_station.ensures.answers in
    record { meets = rw (station_named 0 _ (omega arith)) at m.meets; same = m.same }
