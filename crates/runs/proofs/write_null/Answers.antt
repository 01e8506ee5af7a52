use Rattle.std.proofs.Common.{refl}
use Rattle.column.proofs.SameLaws.{wrote}
use Rattle.model.specs.Column.{nul}
use Rattle.model.specs.Form.{value_of, is_val}
use Rattle.runs.proofs.PlainLaws.{same_written}
use Rattle.runs.proofs.write_null.Goals as goal

pub returns : goal.returns
unfolding value_of is_val
returns c = wrote (same_written nul c.args.n c.args.at c.fill_values.ensures c.push_same.ensures) refl refl
