use Rattle.std.proofs.Common.{refl}
use Rattle.bitmap.specs.Push.{push_bits}
use Rattle.model.specs.Basics.{tab}
use Rattle.null_slots.specs.Nulled.{nulled}
use Rattle.nullable_runs.proofs.put_bits.Goals as goal

pub returns-then-n-eq0 : goal.returns-then-n-eq0
unfolding tab nulled push_bits
returns-then-n-eq0 c = rw c.if-n-eq0.true (record { values_after = refl; bits_after = refl; same = record { values = refl; bits = refl } })
