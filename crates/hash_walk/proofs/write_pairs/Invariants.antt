-- The rows so far are written, and the area is clean.
use Rattle.std.proofs.Common.{◌-◌}
use Rattle.column.specs.Columns.{column_in}
use Rattle.column.specs.Outputs.{SameLists}
use Rattle.column.proofs.WalkLaws.{Walking}
use Rattle.hash_checks.specs.Narrow.{narrow_numbers}
use Rattle.hash_slots.specs.Slots.{CleanFrom}
use Rattle.hash_walk.specs.Hashes.{hash_at}
use Rattle.hash_walk.proofs.write_pairs.Given as goal

abbrev pub invariant-loop-r : goal.invariant-loop-r
invariant-loop-r l =
    let was = l.fn.out in
    let o = l.out in
    Walking (hash_at l.op (column_in narrow_numbers l.left) (column_in narrow_numbers l.right)) l.r-end l.initial.out.offsets.now was.rows.now was.elements.now.values.now was.elements.now.bits.now
    o.offsets.now o.rows.now o.elements.now.values.now o.elements.now.bits.now l.r l.at (l.r-end - l.r)
    × SameLists was o
    × CleanFrom 0 l.area
