use Rattle.std.proofs.Common.{sym, ◌∙◌}
use borrow.Author.Tests.{not-true, not-false}
use Rattle.match_rows.specs.Limits.{limit_at}
use Rattle.match_rows.proofs.limit_at.Goals as goal

pub returns-then-not-is_valid : goal.returns-then-not-is_valid
unfolding limit_at
returns-then-not-is_valid c = rw (sym c.is_valid.ensures ∙ not-true _ c.if-not-is_valid.true-raw)

pub returns : goal.returns
unfolding limit_at
returns c = rw (sym c.is_valid.ensures ∙ not-false _ c.if-not-is_valid.false-raw) c.taken_at.ensures
