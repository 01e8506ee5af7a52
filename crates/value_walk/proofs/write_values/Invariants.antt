-- The values of the rows so far are written.
use Rattle.std.proofs.Common.{◌-◌}
use Rattle.model.specs.Basics.{tab}
use Rattle.model.specs.Column.{row_count}
use Rattle.column.specs.Columns.{column_in}
use Rattle.column.specs.Outputs.{SameValues}
use Rattle.column.proofs.WriteLaws.{Writing}
use Rattle.value_places.specs.Values.{value_at}
use Rattle.value_walk.proofs.write_values.Given as goal

abbrev pub invariant-loop-r : goal.invariant-loop-r
invariant-loop-r g l =
    let W = value_at l.op (column_in g.O.Offset.numbers l.list) in
    let n = row_count (g.O.Offset.numbers l.list.offsets.now) in
    record {
      written : Writing (tab W 0 n) 0 l.fn.out.values.now l.fn.out.bits.now (tab W l.r (n - l.r)) l.r l.out.values.now l.out.bits.now;
      same : SameValues l.fn.out l.out;
    }
