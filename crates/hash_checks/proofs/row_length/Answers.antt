-- A row lies between its offsets.
use Rattle.std.proofs.Common.{refl}
use Rattle.column.specs.Columns.{column_in}
use Rattle.column.proofs.WalkLaws.{between}
use Rattle.hash_checks.specs.Narrow.{narrow_numbers}
use Rattle.hash_checks.proofs.row_length.Goals as goal

pub overflow_sub-result : goal.overflow_sub-result
overflow_sub-result c =
    (between (column_in narrow_numbers c.args.list) _ c.args.r _ _ c.requires.readable refl c.requires.there c.offset_at-2.ensures.value c.offset_at.ensures.value).rises
