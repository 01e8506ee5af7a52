-- The contract of an operation with a work area.
use Rattle.std.specs.Prelude.{ℕ, List, ℤ, length}
use Rattle.model.specs.Answers.{ListAnswer}
use Rattle.model.specs.Column.{Row}
use Rattle.model.specs.Contract.{HashMeets}
use Rattle.model.specs.Form.{Room}
use Rattle.model.specs.Outcome.{Outcome}
use Rattle.column.specs.Outputs.{SameLists, room_in}
use Rattle.column.specs.declared.lists.ListOutput.{ListOutput}

-- the answer and the outputs are what f gives for the slots of the work area and the lengths lent; w is the area at entry, w' at exit
pub record HashAnswers (f : ℕ → Room → Outcome (List Row)) (a : ListAnswer) (o o' : ListOutput ℤ) (w w' : List ℕ) : Type 0 where
  pub meets : HashMeets (f (length w) (room_in o)) (length w) a o.offsets.now o'.offsets.now o.rows.now o'.rows.now o.elements.now.values.now o'.elements.now.values.now o.elements.now.bits.now o'.elements.now.bits.now w'
  pub same : SameLists o o'
