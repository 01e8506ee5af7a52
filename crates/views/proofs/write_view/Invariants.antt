-- The rows so far are written as a view.
use Rattle.std.proofs.Common.{◌-◌}
use Rattle.model.specs.Column.{row_at}
use Rattle.column.specs.Columns.{column_in}
use Rattle.views.specs.ViewOutputs.{SameViews, itself}
use Rattle.views.proofs.ShowLaws.{Showing}
use Rattle.views.proofs.write_view.Given as goal

abbrev pub invariant-loop-r : goal.invariant-loop-r
invariant-loop-r l = record {
  showing : Showing (row_at (column_in itself l.list)) l.n l.fn.out.offsets.now l.fn.out.sizes.now l.fn.out.rows.now l.fn.out.elements.now.values.now l.fn.out.elements.now.bits.now l.out.offsets.now l.out.sizes.now l.out.rows.now l.out.elements.now.values.now l.out.elements.now.bits.now l.r l.at (l.n - l.r);
  same : SameViews l.fn.out l.out;
}
