use Rattle.std.proofs.Common.{ℕ, ◌+◌, List, get_or}
use Rattle.wire.proofs.Reading.{Reading}
use Rattle.typed.proofs.tallies.get_counts.Given as goal

-- count k of those that begin at `at`
unfoldable pub count : List ℕ → ℕ → ℕ → ℕ
count s at k = get_or s (at + k) 0

abbrev pub invariant-loop-i : goal.invariant-loop-i
invariant-loop-i l = Reading (count l.s l.at) 16 l.initial.counts l.counts l.i
