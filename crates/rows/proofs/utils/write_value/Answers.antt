use Rattle.std.proofs.Common.{refl}
use Rattle.model.specs.Form.{is_val, value_of}
use Rattle.model.proofs.SignedLaws.{back64}
use Rattle.rows.specs.Cells.{elem_of}
use Rattle.rows.proofs.utils.write_value.Goals as goal

pub returns : goal.returns
unfolding elem_of value_of is_val
returns c = record { values_after = rw (back64 _ c.ranges.v.sfits); bits_after = c.push_bit.ensures; same = record { values = refl; bits = refl } }
