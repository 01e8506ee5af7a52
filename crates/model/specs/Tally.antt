-- The tally of recipes, station by station, and what calls do to it. A tally is
-- a term of the rules.
use Rattle.std.specs.Prelude.{ℕ, ◌+◌, ◌<◌, ◌≡◌, List, [], ◌∷◌, map, length, get_or, set, ltb}
use Rattle.model.specs.Basics.{pick, All}
use Rattle.model.specs.Limits.{largest}
use Rattle.model.specs.Outcome.{Outcome, refused, made}

-- "Keep finished and refused counts for stations 0 to 15": those of station s stand at place s of each list
pub record Tally : Type 0 where
  pub finished : List ℕ
  pub refused : List ℕ

-- a count of each kind for each of the sixteen stations, and no more
pub record Sixteen (t : Tally) : Type 0 where
  pub finished : length t.finished ≡ 16
  pub refused : length t.refused ≡ 16

-- one more, "unless that count stands at its largest value"
unfoldable pub one_more : ℕ → ℕ
one_more n = pick (ltb n largest) (n + 1) n

-- "Only its own calls change a station's counts.": the count at place s one more, the others as they were
unfoldable pub counted_at : ℕ → List ℕ → List ℕ
counted_at s ns = set ns s (one_more (get_or ns s 0))

-- what a call does to a tally: it counts for a station, as finished or as refused, or it counts for nobody
pub data Move : Type 0 where
  finished_at : ℕ → Move
  refused_at : ℕ → Move
  nobody : Move

-- the tally after it
unfoldable pub moved : Move → Tally → Tally
moved (finished_at s) t = record { finished = counted_at s t.finished; refused = t.refused }
moved (refused_at s) t = record { finished = t.finished; refused = counted_at s t.refused }
moved nobody t = t

-- "15, a station over 15; it .. counts for nobody"
unfoldable pub named : ℕ → Move → Move
named s m = pick (ltb 15 s) nobody m

-- "An accepted call adds 1 to the first count, a refused one, 10 included, 1 to the second"
unfoldable pub outcome_at : {A : Type 0} → ℕ → Outcome A → Move
outcome_at s (refused k) = refused_at s
outcome_at s (made a) = finished_at s

-- what a call that names station s and comes to x does to the tally
unfoldable pub move_of : {A : Type 0} → ℕ → Outcome A → Move
move_of s x = named s (outcome_at s x)

-- and the tally after it
abbrev pub tallied : {A : Type 0} → ℕ → Outcome A → Tally → Tally
tallied s x t = moved (move_of s x) t

-- ---- many calls: "Where each call takes the tally the last one gave, and while no count has reached its largest value, the sums over
-- stations grow by the calls made, split by outcome; calls naming no such station .. are left out."

-- a move names one of the sixteen stations, or none
unfoldable pub Names : Move → Type 0
Names (finished_at s) = s < 16
Names (refused_at s) = s < 16
Names nobody = Unit

-- "each call takes the tally the last one gave": the tally after the last one, the first taking t
unfoldable pub moved_all : List Move → Tally → Tally
moved_all [] t = t
moved_all (m ∷ ms) t = moved_all ms (moved m t)

-- no count of a tally has reached its largest value
pub record Below (t : Tally) : Type 0 where
  pub finished : All (λ (n : ℕ). n < largest) t.finished
  pub refused : All (λ (n : ℕ). n < largest) t.refused

-- "while no count has reached its largest value": none has in any tally that a call takes, the first taking t
pub data While : List Move → Tally → Type 0 where
  no_more : {t : Tally} → While [] t
  still : {m : Move} {ms : List Move} {t : Tally} → Below t → While ms (moved m t) → While (m ∷ ms) t

-- "the sums over stations"
unfoldable pub total : List ℕ → ℕ
total [] = 0
total (n ∷ ns) = n + total ns

-- "the calls made, split by outcome": 1 for a call that counts as finished, and for one that counts as refused
unfoldable pub as_finished : Move → ℕ
as_finished (finished_at s) = 1
as_finished (refused_at s) = 0
as_finished nobody = 0

unfoldable pub as_refused : Move → ℕ
as_refused (finished_at s) = 0
as_refused (refused_at s) = 1
as_refused nobody = 0

-- t before the calls, u after them
pub record Grown (ms : List Move) (t u : Tally) : Type 0 where
  pub finished : total u.finished ≡ total t.finished + total (map as_finished ms)
  pub refused : total u.refused ≡ total t.refused + total (map as_refused ms)
