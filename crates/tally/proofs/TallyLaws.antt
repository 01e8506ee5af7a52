-- The tally after an answer is the tally after its outcome; and what the code stores is the move that the definitions name.
use Prim.Native.Nat.{ℕ, ◌+◌, ◌-◌, ◌^◌, min, ◌≤◌, ◌<◌}
use native.Mathlib.Omega.{arith}
use lib.Dec.{ltb}
use mathlib.Core.Path.{◌≡◌, refl, ◌∙◌, ap}
use mathlib.Core.Bool.{Bool, true, false}
use mathlib.Core.List.{List}
use borrow.Author.Tests.{lt-ltb, le-ltb, ltb-true, ltb-false}
use lib.ListN.{get_or, set}
use Rattle.model.specs.Basics.{pick}
use Rattle.model.specs.Limits.{largest}
use Rattle.model.specs.Call.{answer_of, list_counts}
use Rattle.model.specs.Column.{Row}
use Rattle.model.specs.Contract.{told}
use Rattle.model.specs.Outcome.{Outcome, refused, made}
use Rattle.model.specs.Tally.{Tally, one_more, counted_at, nobody, finished_at, refused_at, moved, named, outcome_at, move_of, tallied}
use Rattle.model.specs.Answers.{ListAnswer}
use Rattle.tally.specs.Tallies.{outcome_of, tallied_by}

by_outcome : (s : ℕ) (x : Outcome (List Row)) (t : Tally) → tallied_by s (answer_of list_counts x) t ≡ tallied s x t
unfolding outcome_of answer_of move_of outcome_at
by_outcome s (refused k) t = refl
by_outcome s (made ws) t = refl

pub tallied_is : (s : ℕ) (x : Outcome (List Row)) (a : ListAnswer) (t : Tally) → told a ≡ answer_of list_counts x → tallied_by s (told a) t ≡ tallied s x t
tallied_is s x a t e = ap (λ r. tallied_by s r t) e ∙ by_outcome s x t

-- a station over 15 counts nowhere
pub no_count : (s : ℕ) (ns : List ℕ) → 16 ≤ s → ns ≡ pick (ltb 15 s) ns (counted_at s ns)
no_count s ns h = rw (lt-ltb 15 s (omega arith))

saturated : (n : ℕ) → n < 2 ^ 64 → min (n + 1) (2 ^ 64 - 1) ≡ one_more n
unfolding one_more
saturated n h = go (ltb n largest) refl
  where
    go : (b : Bool) → ltb n largest ≡ b → min (n + 1) (2 ^ 64 - 1) ≡ pick b (n + 1) n
    go true e = let l = ltb-true n largest e in omega (arith, l)
    go false e = let l = ltb-false n largest e in omega (arith, l)

-- n is what the code stored at the station's place
pub count_stored : (s n : ℕ) (ns : List ℕ) → s < 16 → get_or ns s 0 < 2 ^ 64 → n ≡ min (get_or ns s 0 + 1) (2 ^ 64 - 1) → set ns s n ≡ pick (ltb 15 s) ns (counted_at s ns)
unfolding counted_at
count_stored s n ns h f e = rw (le-ltb 15 s (omega arith), e, saturated (get_or ns s 0) f)

-- fs are the counts after it
pub finished_counted : (s : ℕ) (t : Tally) (fs : List ℕ) → fs ≡ pick (ltb 15 s) t.finished (counted_at s t.finished) → ◌≡◌ {A = Tally} (record { finished = fs; refused = t.refused }) (moved (named s (finished_at s)) t)
unfolding named moved
finished_counted s t fs e = go (ltb 15 s) e
  where
    go : (b : Bool) → fs ≡ pick b t.finished (counted_at s t.finished) → ◌≡◌ {A = Tally} (record { finished = fs; refused = t.refused }) (moved (pick b nobody (finished_at s)) t)
    go true e = rw e
    go false e = rw e

pub refused_counted : (s : ℕ) (t : Tally) (rs : List ℕ) → rs ≡ pick (ltb 15 s) t.refused (counted_at s t.refused) → ◌≡◌ {A = Tally} (record { finished = t.finished; refused = rs }) (moved (named s (refused_at s)) t)
unfolding named moved
refused_counted s t rs e = go (ltb 15 s) e
  where
    go : (b : Bool) → rs ≡ pick b t.refused (counted_at s t.refused) → ◌≡◌ {A = Tally} (record { finished = t.finished; refused = rs }) (moved (pick b nobody (refused_at s)) t)
    go true e = rw e
    go false e = rw e
