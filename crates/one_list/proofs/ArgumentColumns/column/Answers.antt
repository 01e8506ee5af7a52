use Rattle.std.proofs.Common.{arith}
use Rattle.one_list.specs.Uses.{LiesIn}
use Rattle.one_list.proofs.ArgumentColumns.column.Goals as goal

pub overflow_mul-a : goal.overflow_mul-a
unfolding LiesIn
overflow_mul-a c = let h = c.requires.lies_in in record { fits = omega (arith, c.well_formed) }

pub column_values-requires : goal.column_values-requires
unfolding LiesIn
column_values-requires c = c.requires.lies_in

pub tail-requires-clause-a_le_n : goal.tail-requires-clause-a_le_n
unfolding LiesIn
tail-requires-clause-a_le_n c = let h = c.requires.lies_in in omega arith
