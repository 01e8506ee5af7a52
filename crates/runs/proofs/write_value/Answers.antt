use Rattle.std.proofs.Common.{refl}
use Rattle.column.proofs.SameLaws.{wrote}
use Rattle.model.proofs.SignedLaws.{back64}
use Rattle.model.specs.Column.{val}
use Rattle.model.specs.Form.{value_of, is_val}
use Rattle.runs.proofs.PlainLaws.{same_written}
use Rattle.runs.proofs.write_value.Goals as goal

pub returns : goal.returns
unfolding value_of is_val
returns c = wrote (same_written (val c.args.v) c.args.n c.args.at (rw (back64 _ c.ranges.v.sfits) at c.fill_values.ensures) c.push_same.ensures) refl refl
