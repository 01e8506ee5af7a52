-- So many elements are made of the rows so far, no more than the offsets there allow, and the area is clean.
use Rattle.std.proofs.Common.{◌-◌}
use Rattle.model.specs.Column.{offset_at}
use Rattle.model.specs.Limits.{narrow}
use Rattle.column.specs.Columns.{column_in}
use Rattle.column.proofs.WalkLaws.{Summing}
use Rattle.hash_checks.specs.Narrow.{narrow_numbers}
use Rattle.hash_slots.specs.Slots.{CleanFrom}
use Rattle.hash_walk.specs.Hashes.{hash_bound, hash_at}
use Rattle.hash_walk.proofs.measure_pairs.Given as goal

abbrev pub invariant-loop-r : goal.invariant-loop-r
invariant-loop-r l =
    let C = column_in narrow_numbers l.left in
    let D = column_in narrow_numbers l.right in
    Summing (hash_at l.op C D) l.r-end (hash_bound l.op (offset_at C.offsets l.r) (offset_at D.offsets l.r)) (hash_bound l.op narrow.offset narrow.offset) l.found l.r (l.r-end - l.r)
    × CleanFrom 0 l.area
