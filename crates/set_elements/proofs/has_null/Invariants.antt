use Rattle.std.proofs.Common.{◌≡◌, ◌+◌, ◌-◌}
use Rattle.model.specs.Basics.{tab}
use Rattle.bitmap.specs.Reads.{bits_in}
use Rattle.model.specs.Column.{nul, elem_at}
use Rattle.model.specs.Elements.{is_in}
use Rattle.set_elements.proofs.has_null.Given as goal

abbrev pub invariant-loop-p : goal.invariant-loop-p
invariant-loop-p l =
    is_in nul (tab (elem_at l.others.values.now (bits_in l.others.bits)) l.p (l.a + l.k - l.p)) ≡ is_in nul (tab (elem_at l.others.values.now (bits_in l.others.bits)) l.a l.k)
