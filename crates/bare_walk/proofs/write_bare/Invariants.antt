use Rattle.std.proofs.Common.{◌≡◌, ◌-◌}
use Rattle.column.specs.Outputs.{SameLists}
use Rattle.bare_walk.specs.Bare.{bare_at}
use Rattle.bare_walk.proofs.BareLaws.{Baring}
use Rattle.bare_walk.proofs.write_bare.Given as goal

-- the rows before r are written, and row r begins at a
abbrev pub invariant-loop-r : goal.invariant-loop-r
invariant-loop-r g l =
    let numbers = g.O.Offset.numbers in
    let I = numbers l.list.offsets.now in
    let was = l.fn.out in
    let o = l.out in
    record {
      walk : Baring (bare_at l.op I l.list.elements.values.now) I l.n (numbers l.initial.out.offsets.now) was.elements.now.values.now (numbers o.offsets.now) o.elements.now.values.now l.a l.r l.at (l.n - l.r);
      rows : o.rows.now ≡ was.rows.now;
      bits : o.elements.now.bits.now ≡ was.elements.now.bits.now;
      same : SameLists was o;
    }
