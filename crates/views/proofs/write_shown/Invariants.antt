-- The rows so far are written.
use Rattle.std.proofs.Common.{◌-◌}
use Rattle.model.specs.View.{view_at}
use Rattle.column.specs.Outputs.{SameLists}
use Rattle.column.proofs.WalkLaws.{Walking}
use Rattle.view_checks.specs.Views.{view_in}
use Rattle.views.proofs.write_shown.Given as goal

abbrev pub invariant-loop-r : goal.invariant-loop-r
invariant-loop-r l = record {
  walking : Walking (view_at (view_in l.view)) l.n l.initial.out.offsets.now l.fn.out.rows.now l.fn.out.elements.now.values.now l.fn.out.elements.now.bits.now l.out.offsets.now l.out.rows.now l.out.elements.now.values.now l.out.elements.now.bits.now l.r l.at (l.n - l.r);
  same : SameLists l.fn.out l.out;
}
