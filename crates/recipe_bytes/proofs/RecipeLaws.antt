-- Laws of a recipe on decoded numbers, of a long one on the front of them, and on trays and outputs that were cut from arrays.
use mathlib.Core.Path.{◌≡◌, refl, ap, ◌∙◌}
use mathlib.Core.Bool.{Bool, true, false, not, ◌||◌}
use mathlib.Core.List.{List}
use Prim.Native.Nat.{ℕ, zero, suc, ◌+◌, ◌*◌, ◌/◌, ◌%◌, ◌≤◌, ◌<◌}
use native.Mathlib.Omega.{arith}
use borrow.Author.Tests.{ltb-true, ltb-false, lt-ltb}
use lib.Dec.{ltb, eqb}
use lib.ListN.{length, take}
use lib.Seq.{length-take-le, take_all, get_or-take}
use lib.IntN.{ℤ}
use Rattle.model.specs.Basics.{pick, tab, any}
use Rattle.model.specs.Bitmap.{Bits}
use Rattle.model.specs.Column.{Row, Column, column, Arguments, arguments}
use Rattle.model.specs.Contract.{room}
use Rattle.model.specs.Form.{Room, over}
use Rattle.model.specs.Limits.{narrow}
use Rattle.model.specs.Outcome.{Outcome, gate}
use Rattle.model.specs.Recipe.{Recipe, wrong_step, steps_of, malformed, recipe_outcome, stationed}
use Rattle.model.specs.Tally.{Tally, tallied}
use Rattle.model.proofs.TabLaws.{tab_ext}
use Rattle.recipe_refusal.specs.Refused.{recipe}
use Rattle.wire.specs.Bytes.{number, nat, nats}
use Rattle.wire.proofs.Lengths.{length-nats}
use Rattle.entry.proofs.AnswerLaws.{filled}
use Rattle.recipe_bytes.specs.Inner.{most_numbers, numbers_taken}

-- ---- a long recipe: its front is as malformed as all of it

second-true : (a c d : Bool) → a || true || c || d ≡ true
second-true true c d = refl
second-true false c d = refl

-- "over 32 steps"
malformed-long : (columns : ℕ) (ns : List ℕ) → 132 ≤ length ns → malformed (recipe ns columns) ≡ true
unfolding malformed
malformed-long columns ns h = rw (lt-ltb 32 (length ns / 4) (omega arith)) (second-true (not (eqb (length ns % 4) 0)) (ltb 8 columns) (any (wrong_step columns) (steps_of ns)))

both_malformed : (p q : Recipe) (c d : Column) (e : Arguments) (a b o : Room) → malformed p ≡ true → malformed q ≡ true → recipe_outcome narrow p c d e a b o ≡ recipe_outcome narrow q c d e a b o
unfolding recipe_outcome gate
both_malformed p q c d e a b o h k = rw (h, k)

module _ (station columns : ℕ) (ns : List ℕ) (c d : Column) (e : Arguments) (a b o : Room) (bytes : ℕ) (l : length ns ≡ bytes / 4) where
  recipe-front : stationed station (recipe_outcome narrow (recipe ns columns) c d e a b o) ≡ stationed station (recipe_outcome narrow (recipe (take (numbers_taken bytes) ns) columns) c d e a b o)
  unfolding numbers_taken
  recipe-front = go (ltb most_numbers (bytes / 4)) refl
    where
      go : (t : Bool) → ltb most_numbers (bytes / 4) ≡ t → stationed station (recipe_outcome narrow (recipe ns columns) c d e a b o) ≡ stationed station (recipe_outcome narrow (recipe (take (pick t most_numbers (bytes / 4)) ns) columns) c d e a b o)
      go true t =
          let h = ltb-true most_numbers (bytes / 4) t in
          let k : 132 ≤ length ns = omega (arith, h, l) in
          ap (stationed station) (both_malformed _ _ c d e a b o (malformed-long columns ns k) (malformed-long columns (take 132 ns) (omega (arith, length-take-le 132 ns k))))
      go false t = rw (take_all (bytes / 4) ns (omega (arith, l)))

-- ---- the numbers in the front of some bytes

number-front : (k : ℕ) (s : List ℕ) (at m : ℕ) → at + k ≤ m → number k (take m s) at ≡ number k s at
unfolding number
number-front zero s at m h = refl
number-front (suc k) s at m h = rw (get_or-take m s at 0 (omega arith), number-front k s (at + 1) m (omega arith))

take-tab : {A : Type 0} (f : ℕ → A) (a n m : ℕ) → n ≤ m → take n (tab f a m) ≡ tab f a n
unfolding tab
take-tab f a zero m h = refl
take-tab f a (suc n) zero h = let z : ⊥ = omega arith in absurd z
take-tab f a (suc n) (suc m) h = rw (take-tab f (suc a) n m (omega arith))

pub nats-front : (s : List ℕ) (n : ℕ) → n ≤ length s / 4 → nats 4 (take (n * 4) s) ≡ take n (nats 4 s)
unfolding nats nat
nats-front s n h =
    let l = length-take-le (n * 4) s (omega arith) in
    let q : length (take (n * 4) s) / 4 ≡ n = omega (arith, l) in
    rw (q, take-tab (nat 4 s) 0 n (length s / 4) h)
    (tab_ext (nat 4 (take (n * 4) s)) (nat 4 s) 0 0 n (λ i k. number-front 4 s ((0 + i) * 4) (n * 4) (omega arith)))

pub taken-few : (bytes : ℕ) → (numbers_taken bytes ≤ bytes / 4) × (numbers_taken bytes ≤ most_numbers)
unfolding numbers_taken
taken-few bytes = go (ltb most_numbers (bytes / 4)) refl
  where
    go : (t : Bool) → ltb most_numbers (bytes / 4) ≡ t → (pick t most_numbers (bytes / 4) ≤ bytes / 4) × (pick t most_numbers (bytes / 4) ≤ most_numbers)
    go true t = let h = ltb-true most_numbers (bytes / 4) t in (omega (arith, h), omega arith)
    go false t = let h = ltb-false most_numbers (bytes / 4) t in (omega arith, omega (arith, h))

-- n of them, as the code finds it
module _ (s : List ℕ) (n : ℕ) (e : n ≡ numbers_taken (length s)) where
  pub few : (n ≤ length s / 4) × (n ≤ most_numbers)
  few = rw e (taken-few (length s))

  pub front_length : length (take (n * 4) s) ≡ n * 4
  front_length = length-take-le (n * 4) s (omega (arith, few.0))

  pub front-numbers : length (take (n * 4) s) / 4 ≡ n
  front-numbers = omega (arith, front_length)

  pub fronts : (d : List ℕ) {d' : List ℕ} → d' ≡ over (nats 4 (take (n * 4) s)) d → take (numbers_taken (length s)) d' ≡ take (numbers_taken (length s)) (nats 4 s)
  fronts d h = rw (← e) (filled _ d n h (length-nats 4 _ ∙ front-numbers) ∙ nats-front s n few.0)

-- ns is the front that was decoded of the recipe in the bytes s, and the columns are decoded
pub read_is : (station columns : ℕ) (s ns : List ℕ) (n : ℕ) {c c' d d' : Column} {e e' : Arguments} (a b o : Room) → n ≡ numbers_taken (length s) → take (numbers_taken (length s)) ns ≡ take (numbers_taken (length s)) (nats 4 s) → c' ≡ c → d' ≡ d → e' ≡ e
    → stationed station (recipe_outcome narrow (recipe (nats 4 s) columns) c d e a b o) ≡ stationed station (recipe_outcome narrow (recipe (take n ns) columns) c' d' e' a b o)
read_is station columns s ns n {c} {c'} {d} {d'} {e} {e'} a b o hn hs hc hd he =
    recipe-front station columns (nats 4 s) c d e a b o (length s) (length-nats 4 s) ∙ rw (hn, hs, hc, hd, he)

pub tallied_as : (s : ℕ) {x y : Outcome (List Row)} (t : Tally) {u : Tally} → y ≡ x → u ≡ tallied s x t → u ≡ tallied s y t
tallied_as s t h p = rw h p
