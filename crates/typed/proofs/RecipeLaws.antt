-- Laws of the tally in a slice of numbers, and of a recipe told with it.
use mathlib.Core.Path.{◌≡◌, refl, sym, ap, ◌∙◌}
use mathlib.Core.Bool.{Bool, true, false, ◌||◌}
use mathlib.Core.List.{List, ◌++◌}
use Prim.Native.Nat.{ℕ, ◌-◌, ◌≤◌, ◌<◌}
use native.Mathlib.Omega.{arith}
use borrow.Author.Tests.{ltb-false}
use lib.Dec.{ltb}
use lib.IntN.{ℤ}
use lib.ListN.{length, take, drop, length-drop}
use lib.Seq.{length-take-le}
use Rattle.model.specs.Basics.{pick, given}
use Rattle.model.specs.Column.{Row}
use Rattle.model.specs.Form.{Room}
use Rattle.model.specs.Outcome.{Outcome, refused}
use Rattle.model.specs.Recipe.{stationed}
use Rattle.model.specs.Tally.{Tally, tallied}
use Rattle.model.specs.Call.{Answer, refusal, written}
use Rattle.model.specs.Contract.{told, ListMeets}
use Rattle.model.specs.Answers.{ListAnswer}
use Rattle.model.proofs.BoolLaws.{or_none}
use Rattle.model.proofs.Stations.{station_over}
use Rattle.entry.specs.Entry.{number_of}
use Rattle.entry.specs.Inner.{number_in, counts_in}
use Rattle.typed.specs.Typed.{served, Told, TypedList}
use Rattle.typed.specs.Tallies.{counts_at, tally_at, with_tally, tally_after}
use Rattle.typed.proofs.TypedLaws.{too_short, own, list-told}

pub tally_is : (s : List ℕ) {f r : List ℕ} → f ≡ counts_at 0 s → r ≡ counts_at 16 s → ◌≡◌ {A = Tally} (record { finished = f; refused = r }) (tally_at s)
unfolding tally_at
tally_is s p q = rw (p, q)

-- the part from place 16 on has room for k counts
pub part_room : (d : List ℕ) (k : ℕ) → k ≡ 16 → 32 ≤ length d → k ≤ length (take (length d - 16) (drop 16 d))
part_room d k e h =
    let r = length-drop 16 d in
    let t : length (take (length d - 16) (drop 16 d)) ≡ length d - 16 = length-take-le (length d - 16) (drop 16 d) (omega (arith, r)) in
    omega (arith, t)

-- ---- an answer told, and a tally put, where the counts and the tally have their places

-- b says that they have not
module _ (b : Bool) (a : Answer) where
  pub short-told : {c : List ℕ} → b ≡ true → Told (pick b (refusal 100) a) 100 c c
  unfolding number_in counts_in
  short-told e = rw e (record { number = refl; counts = refl })

  pub long-told : {n : ℕ} {c c' : List ℕ} → b ≡ false → Told a n c c' → Told (pick b (refusal 100) a) n c c'
  long-told e t = rw e t

pub short-tally : (b : Bool) (t u : List ℕ) → b ≡ true → t ≡ pick b t u
short-tally b t u e = rw e

pub long-tally : (b : Bool) (t : List ℕ) {t' u : List ℕ} → b ≡ false → t' ≡ u → t' ≡ pick b t u
long-tally b t e h = rw e h

pub long_enough : (c t : ℕ) → ltb c 4 || ltb t 32 ≡ false → (4 ≤ c) × (32 ≤ t)
long_enough c t h = let p = or_none (ltb c 4) (ltb t 32) h in (ltb-false c 4 p.0, ltb-false t 32 p.1)

-- ---- a recipe of station s that came to x: where the counts or the tally are too short (b) it was run for station 16, and so only cleared the
-- trays; s' is the station that it was run for

module _ (s : ℕ) (f : Room → Outcome (List Row)) (l : Room) (x : Outcome (List Row)) (e : f l ≡ stationed s x) where
  told_by : (d : Bool) {n : ℕ} {a : ListAnswer} {o o' v v' : List ℤ} {r r' q q' c c' : List ℕ} → ListMeets (stationed (pick d 16 s) x) a o o' r r' v v' q q' → Told (pick d (refusal 100) (told a)) n c c'
      → TypedList (served (given f) d l) n o o' r r' v v' q q' c c'
  unfolding number_of written number_in counts_in
  told_by true m t =
      let k = rw (station_over 16 x (omega arith)) at m in
      rw (too_short (given f) l true refl refl)
      (record { number = t.number; offsets = k.offsets; rows = k.rows; values = k.values; elements = k.elements; counts = t.counts })
  told_by false m t = list-told (own (given f) l false refl refl ∙ e) m t

  pub recipe-told : (b : Bool) {s' n : ℕ} {a : ListAnswer} {o o' v v' : List ℤ} {r r' q q' c c' : List ℕ} → s' ≡ pick b 16 s → ListMeets (stationed s' x) a o o' r r' v v' q q' → Told (pick b (refusal 100) (told a)) n c c'
      → TypedList (served (given f) b l) n o o' r r' v v' q q' c c'
  recipe-told b h m t = told_by b (rw h at m) t

-- and its tally; y is what the call comes to, w the tally that was read, u the one that was put
module _ (s : ℕ) (x : Outcome (List Row)) {y : Outcome (List Row)} (e : y ≡ stationed s x) where
  tally_by : (d : Bool) (t : List ℕ) {t' : List ℕ} {u : Tally} → t' ≡ pick d t (with_tally u t) → u ≡ tallied (pick d 16 s) (stationed (pick d 16 s) x) (tally_at t) → t' ≡ tally_after d s y t
  unfolding tally_after
  tally_by true t p q = p
  tally_by false t p q = p ∙ ap (λ w. with_tally w t) (q ∙ ap (λ z. tallied s z (tally_at t)) (sym e))

  pub tally-told : (b : Bool) (t : List ℕ) {t' : List ℕ} {s' : ℕ} {u w : Tally} → s' ≡ pick b 16 s → t' ≡ pick b t (with_tally u t) → u ≡ tallied s' (stationed s' x) w → w ≡ tally_at t → t' ≡ tally_after b s y t
  tally-told b t {w = w} h p q g = tally_by b t p (q ∙ ap (λ (k : ℕ). tallied k (stationed k x) w) h ∙ ap (tallied (pick b 16 s) (stationed (pick b 16 s) x)) g)
