use Rattle.std.proofs.Common.{◌≡◌, ◌-◌}
use Rattle.column.specs.Columns.{column_in}
use Rattle.column.specs.Outputs.{SameLists}
use Rattle.column.proofs.WalkLaws.{Walking}
use Rattle.model.specs.Column.{offset_at}
use Rattle.plain_walk.proofs.PlainLaws.{plain_at}
use Rattle.plain_walk.proofs.write_each.Given as goal

-- the rows before r are written, and row r begins at a
abbrev pub invariant-loop-r : goal.invariant-loop-r
invariant-loop-r g l =
    let numbers = g.O.Offset.numbers in
    let C = column_in numbers l.list in
    let was = l.fn.out in
    let o = l.out in
    record {
      walking : Walking (plain_at g.O.Offset.LIMITS l.op C) l.n (numbers l.initial.out.offsets.now) was.rows.now was.elements.now.values.now was.elements.now.bits.now
          (numbers o.offsets.now) o.rows.now o.elements.now.values.now o.elements.now.bits.now l.r l.at (l.n - l.r);
      place : l.a ≡ offset_at C.offsets l.r;
      same : SameLists was o;
    }
