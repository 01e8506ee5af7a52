-- What refuses the rows from the row on is what refuses them all.
use Rattle.std.proofs.Common.{◌≡◌, ◌-◌, length}
use Rattle.bitmap.specs.Reads.{bits_in}
use Rattle.column.specs.Columns.{values_in}
use Rattle.model.specs.Basics.{tab}
use Rattle.model.specs.Refusals.{first_of}
use Rattle.value_places.specs.Found.{four_at}
use Rattle.value_places.proofs.index_refusal.Given as goal

abbrev pub invariant-loop-r : goal.invariant-loop-r
invariant-loop-r g l =
    let K = four_at g.O.Offset.LIMITS (bits_in l.rows) (values_in l.indexes) in let n = length l.indexes.values.now in
    first_of (tab K l.r (n - l.r)) ≡ first_of (tab K 0 n)
