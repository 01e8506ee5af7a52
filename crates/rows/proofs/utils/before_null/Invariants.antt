use Rattle.std.proofs.Common.{◌≡◌, ℕ, ◌+◌, ◌<◌, false, None}
use Rattle.bitmap.specs.Reads.{bits_in}
use Rattle.model.specs.Column.{elem_at}
use Rattle.model.specs.Elements.{same_elem}
use Rattle.rows.specs.Cells.{elem_of}
use Rattle.rows.proofs.utils.before_null.Given as goal

abbrev pub invariant-loop-r : goal.invariant-loop-r
invariant-loop-r l = (i : ℕ) → i < l.r → same_elem (elem_at l.elements.values.now (bits_in l.elements.bits) (l.a + i)) (elem_of None) ≡ false
