use Rattle.std.proofs.Common.{◌≡◌, ◌-◌}
use Rattle.model.specs.Basics.{tab}
use Rattle.bitmap.specs.Reads.{bits_in}
use Rattle.model.specs.Column.{val, elem_at}
use Rattle.model.specs.Elements.{is_in}
use Rattle.set_elements.proofs.has_valid.Given as goal

abbrev pub invariant-loop-p : goal.invariant-loop-p
invariant-loop-p l =
    is_in (val l.v) (tab (elem_at l.others.values.now (bits_in l.others.bits)) l.p (l.end - l.p)) ≡ is_in (val l.v) (tab (elem_at l.others.values.now (bits_in l.others.bits)) l.a l.k)

abbrev pub decreases-loop-p : goal.decreases-loop-p
decreases-loop-p l = l.end - l.p
