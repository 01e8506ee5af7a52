-- The earlier one of the two lists' refusals is what refuses both.
use Rattle.set_checks.proofs.RefusalLaws.{of_both}
use Rattle.set_checks.proofs.lists_refusal.Goals as goal

pub returns : goal.returns
returns g c = rw (← of_both _ _, ← c.list_refusal.ensures, ← c.list_refusal-2.ensures) c.earlier.ensures
