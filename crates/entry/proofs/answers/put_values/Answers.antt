-- The refusal's number, or the values that the answer counts, as bytes.
use mathlib.Core.Path.{sym}
use lib.Seq.{length-take-le}
use Rattle.entry.proofs.AnswerLaws.{values-refused, values-made, counted-values, counted_value_bytes}
use Rattle.entry.proofs.answers.put_values.Goals as goal

pub slice_bounds-encode-end : goal.slice_bounds-encode-end
slice_bounds-encode-end c = sym (length-take-le _ _ (counted-values c.in-Ok.is c.requires))

pub encode-requires : goal.encode-requires
encode-requires c = rw (length-take-le _ _ (counted-values c.in-Ok.is c.requires)) (counted_value_bytes c.in-Ok.is c.requires)

pub returns-in-Err : goal.returns-in-Err
returns-in-Err c = rw c.from.ensures (values-refused _ c.in-Err.is)

pub returns-in-Ok : goal.returns-in-Ok
returns-in-Ok c = values-made c.in-Ok.is c.encode.ensures c.put_value_counts.ensures
