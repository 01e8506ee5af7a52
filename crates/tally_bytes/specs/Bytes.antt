-- The tally in a slice of bytes.
use Rattle.std.specs.Prelude.{ℕ, ◌+◌, ◌*◌, List, ◌++◌}
use Rattle.model.specs.Basics.{tab}
use Rattle.model.specs.Column.{Row}
use Rattle.model.specs.Form.{over}
use Rattle.model.specs.Outcome.{Outcome}
use Rattle.model.specs.Tally.{Tally, tallied}
use Rattle.wire.specs.Bytes.{number, bytes_of_counts}

-- the counts of stations 0 to 15 in the 128 bytes that begin at `at`, eight each
unfoldable pub counts_from : ℕ → List ℕ → List ℕ
counts_from at s = tab (λ k. number 8 s (at + k * 8)) 0 16

-- the tally in the first 256 bytes of a slice: the finished counts, then the refused ones
unfoldable pub tally_in : List ℕ → Tally
tally_in s = record { finished = counts_from 0 s; refused = counts_from 128 s }

-- the slice with a tally over its first bytes
abbrev pub with_tally : Tally → List ℕ → List ℕ
with_tally t s = over (bytes_of_counts t.finished ++ bytes_of_counts t.refused) s

-- the slice after a recipe of station k that came to x
abbrev pub tallied_in : ℕ → Outcome (List Row) → List ℕ → List ℕ
tallied_in k x s = with_tally (tallied k x (tally_in s)) s
