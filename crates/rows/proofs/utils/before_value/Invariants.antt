use Rattle.std.proofs.Common.{◌≡◌, ℕ, ◌+◌, ◌<◌, false, pos, get_or}
use Rattle.model.specs.Elements.{eq_z}
use Rattle.rows.proofs.utils.before_value.Given as goal

abbrev pub invariant-loop-r : goal.invariant-loop-r
invariant-loop-r l = (i : ℕ) → i < l.r → eq_z (get_or l.values (l.a + i) (pos 0)) l.v ≡ false
