-- A valid count is read back as the number that it is.
use Rattle.std.proofs.Common.{get_or, pos, sym, ◌∙◌, rules}
use Rattle.column.specs.Columns.{values_in}
use Rattle.model.proofs.SignedLaws.{back64}
use Rattle.repeat_sums.proofs.SumLaws.{times_null, times_valid}
use Rattle.repeat_sums.proofs.repeat_count.Goals as goal

pub returns-then-not-is_valid : goal.returns-then-not-is_valid
returns-then-not-is_valid c = times_null (values_in c.args.counts) c.args.r (sym c.is_valid.ensures ∙ c.if-not-is_valid.true)

pub returns : goal.returns
returns c =
    let a = values_in c.args.counts in
    rw (back64 (get_or a.values c.args.r (pos 0)) (search rules)) at c.limit_of.ensures ∙ times_valid a c.args.r (sym c.is_valid.ensures ∙ c.if-not-is_valid.false)
