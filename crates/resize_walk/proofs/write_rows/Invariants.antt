use Rattle.std.proofs.Common.{◌-◌}
use Rattle.column.proofs.WalkLaws.{Walking}
use Rattle.column.specs.Columns.{column_in, values_in}
use Rattle.column.specs.Outputs.{SameLists}
use Rattle.resize_walk.specs.Resized.{fills_in}
use Rattle.resize_walk.proofs.ResizedLaws.{resized_at}
use Rattle.resize_walk.proofs.write_rows.Given as goal

-- what was written of the rows before r
abbrev pub invariant-loop-r : goal.invariant-loop-r
invariant-loop-r g l =
    let N = g.O.Offset.numbers in
    record {
      walking : Walking (resized_at (column_in N l.list) (values_in l.xs) (fills_in l.fills)) l.n (N l.initial.out.offsets.now) l.fn.out.rows.now l.fn.out.elements.now.values.now l.fn.out.elements.now.bits.now (N l.out.offsets.now) l.out.rows.now l.out.elements.now.values.now l.out.elements.now.bits.now l.r l.at (l.n - l.r);
      same : SameLists l.fn.out l.out;
    }
