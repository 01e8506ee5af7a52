use Rattle.slice_rows.proofs.WordLaws.{held_first, held_rest}
use Rattle.slice_rows.proofs.validity.NextBits.take.Goals as goal

pub returns-clause-valid : goal.returns-clause-valid
returns-clause-valid c = held_first _ _ _ _ c.read.ensures.held.bits c.read.ensures.some

pub returns-clause-held : goal.returns-clause-held
returns-clause-held c = record { bits = held_rest _ _ _ _ c.read.ensures.held.bits c.read.ensures.some }
