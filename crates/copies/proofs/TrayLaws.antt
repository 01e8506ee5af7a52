-- A tray that is cleared after steps have written it.
use mathlib.Core.Path.{◌≡◌}
use mathlib.Core.List.{List}
use lib.IntN.{ℤ}
use Rattle.column.specs.Outputs.{SameLists, Clears, room_in}
use Rattle.column.specs.declared.lists.ListOutput.{ListOutput}
use Rattle.column.proofs.SameLaws.{lists_on}

pub clears_on : {A : Type 0} {numbers : List A → List ℤ} {o p q : ListOutput A} → SameLists o p → room_in p ≡ room_in o → Clears numbers p q → Clears numbers o q
clears_on s r c = record { zeroed = rw r at c.zeroed; same = lists_on s c.same }
