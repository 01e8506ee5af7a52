use Rattle.std.proofs.Common.{◌≡◌, ℕ, ◌+◌, ◌-◌, ◌<◌, ◌≤◌, false}
use Rattle.bitmap.specs.Reads.{bits_in}
use Rattle.model.specs.Column.{val, elem_at}
use Rattle.model.specs.Elements.{same_elem}
use Rattle.rows.proofs.utils.before_equal.Given as goal

abbrev pub invariant-loop-r : goal.invariant-loop-r
invariant-loop-r l = (l.r ≤ l.n) × ((i : ℕ) → i < l.r → same_elem (elem_at l.elements.values.now (bits_in l.elements.bits) (l.a + i)) (val l.v) ≡ false)

abbrev pub decreases-loop-r : goal.decreases-loop-r
decreases-loop-r l = l.n - l.r
