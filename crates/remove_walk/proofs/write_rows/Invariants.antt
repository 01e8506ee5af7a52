use Rattle.std.proofs.Common.{◌≡◌, ◌-◌}
use Rattle.column.proofs.WalkLaws.{Walking}
use Rattle.column.specs.Columns.{column_in, values_in}
use Rattle.column.specs.Outputs.{SameLists}
use Rattle.made_rows.specs.Made.{row_made_at}
use Rattle.match_rows.specs.Limits.{none}
use Rattle.model.specs.Column.{offset_at}
use Rattle.ops.specs.declared.ListOp.TheVariants as L
use Rattle.remove_walk.proofs.write_rows.Given as goal

-- what was written of the rows before r, and where row r begins
abbrev pub invariant-loop-r : goal.invariant-loop-r
invariant-loop-r g l =
    let numbers = g.O.Offset.numbers in
    let C = column_in numbers l.list in
    let W = row_made_at g.O.Offset.LIMITS L.Remove C (values_in l.xs) (values_in l.ys) none in
    let was = l.fn.out in
    let o = l.out in
    record {
      walking : Walking W l.n (numbers l.initial.out.offsets.now) was.rows.now was.elements.now.values.now was.elements.now.bits.now (numbers o.offsets.now) o.rows.now o.elements.now.values.now o.elements.now.bits.now l.r l.at (l.n - l.r);
      same : SameLists was o;
      place : l.a ≡ offset_at C.offsets l.r;
    }
