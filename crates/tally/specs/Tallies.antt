-- The tally, as the code holds it and as the definitions do.
use Rattle.std.specs.Prelude.{ℕ, List}
use Rattle.model.specs.Call.{Answer, refusal, counts}
use Rattle.model.specs.Outcome.{Outcome, refused, made}
use Rattle.model.specs.Tally.{tallied}
use Rattle.model.specs.Tally as R
use Rattle.tally.specs.declared.Tally.{Tally}

abbrev pub tally_of : Tally → R.Tally
tally_of t = record { finished = t.finished; refused = t.refused }

-- the outcome that an answer tells of
unfoldable pub outcome_of : Answer → Outcome (List ℕ)
outcome_of (refusal k) = refused k
outcome_of (counts ns) = made ns

-- the tally after an answer to a call that names station s: the rule is `tallied`
abbrev pub tallied_by : ℕ → Answer → R.Tally → R.Tally
tallied_by s a t = tallied s (outcome_of a) t
