-- A graded recipe told with its tally: where the counts or the tally are too short (b) it was graded by 0, and so only cleared the trays.
use mathlib.Core.Path.{◌≡◌, refl, sym, ap, ◌∙◌}
use mathlib.Core.Bool.{Bool, true, false}
use mathlib.Core.List.{List}
use Prim.Native.Nat.{ℕ}
use lib.IntN.{ℤ}
use Rattle.model.specs.Basics.{pick, given}
use Rattle.model.specs.Column.{Arguments, Column, Row}
use Rattle.model.specs.Form.{Room}
use Rattle.model.specs.Grade.{grade_refusal, graded, graded_move}
use Rattle.model.specs.Outcome.{Outcome, refused, gate}
use Rattle.model.specs.Tally.{Tally, Move, moved}
use Rattle.model.specs.Call.{refusal, written}
use Rattle.model.specs.Contract.{told, ListMeets, Grades, MutSlice}
use Rattle.model.specs.Answers.{ListAnswer}
use Rattle.model.specs.Recipe.{Recipe}
use Rattle.entry.specs.Entry.{number_of}
use Rattle.entry.specs.Inner.{number_in, counts_in}
use Rattle.typed.specs.Typed.{served, Told, TypedList}
use Rattle.typed.specs.Flat.{graded_lent, graded_tally}
use Rattle.typed.specs.Tallies.{TypedGraded, tally_at, with_tally}
use Rattle.typed.proofs.TypedLaws.{too_short, own, list-told}

by_none : (ws : List Row) (j : ℕ) (x : Outcome (List Row)) → graded 0 ws j x ≡ refused 12
unfolding graded grade_refusal gate
by_none ws j x = refl

-- x is what the recipe comes to, ws are the first list's rows, j is the length of the grade slice; k' is what it was graded by
module _ (k : ℕ) (ws : List Row) (j : ℕ) (x : Outcome (List Row)) (f : Room → Outcome (List Row)) (l : Room) (e : f l ≡ graded k ws j x) where
  told_by : (d : Bool) {n : ℕ} {a : ListAnswer} {o o' v v' : List ℤ} {r r' q q' c c' : List ℕ} → ListMeets (graded (pick d 0 k) ws j x) a o o' r r' v v' q q' → Told (pick d (refusal 100) (told a)) n c c'
      → TypedList (served (given f) d l) n o o' r r' v v' q q' c c'
  unfolding number_of written number_in counts_in
  told_by true m t =
      let w = rw (by_none ws j x) at m in
      rw (too_short (given f) l true refl refl)
      (record { number = t.number; offsets = w.offsets; rows = w.rows; values = w.values; elements = w.elements; counts = t.counts })
  told_by false m t = list-told (own (given f) l false refl refl ∙ e) m t

  pub graded-told : (b : Bool) {k' n : ℕ} {a : ListAnswer} {o o' v v' : List ℤ} {r r' q q' c c' : List ℕ} → k' ≡ pick b 0 k → ListMeets (graded k' ws j x) a o o' r r' v v' q q' → Told (pick b (refusal 100) (told a)) n c c'
      → TypedList (served (given f) b l) n o o' r r' v v' q q' c c'
  graded-told b h m t = told_by b (rw h at m) t

  grades_by : (d : Bool) {g g' : List ℕ} → Grades (pick d 0 k) (graded (pick d 0 k) ws j x) g g' → Grades k (served (given f) d l) g g'
  unfolding written
  grades_by true m = let w = rw (by_none ws j x) at m in rw (too_short (given f) l true refl refl) (record { grades = w.grades })
  grades_by false m = rw (own (given f) l false refl refl ∙ e) m

  pub grades-told : (b : Bool) {k' : ℕ} {g g' : List ℕ} → k' ≡ pick b 0 k → Grades k' (graded k' ws j x) g g' → Grades k (served (given f) b l) g g'
  grades-told b h m = grades_by b (rw h at m)

-- and its tally: m is what the recipe's run does to one, w the tally that was read, p the one that was put
pub tally-told : (ws : List Row) (j : ℕ) (m : Move) (k : ℕ) (b : Bool) (t : List ℕ) {t' : List ℕ} {k' : ℕ} {p w : Tally} → k' ≡ pick b 0 k → t' ≡ pick b t (with_tally p t) → p ≡ moved (graded_move k' ws j m) w → w ≡ tally_at t
    → t' ≡ pick b t (with_tally (moved (graded_move k ws j m) (tally_at t)) t)
tally-told ws j m k b t {w = w} h q r g = go b q (r ∙ ap (λ (i : ℕ). moved (graded_move i ws j m) w) h ∙ ap (moved (graded_move (pick b 0 k) ws j m)) g)
  where
    go : (d : Bool) {t' : List ℕ} {p : Tally} → t' ≡ pick d t (with_tally p t) → p ≡ moved (graded_move (pick d 0 k) ws j m) (tally_at t) → t' ≡ pick d t (with_tally (moved (graded_move k ws j m) (tally_at t)) t)
    go true q r = q
    go false q r = q ∙ ap (λ (s : Tally). with_tally s t) r

-- the same said of columns and outputs by their flat slices
pub graded_at : (k : ℕ) (j : MutSlice ℕ) (s : ℕ) (p : Recipe) (a b : Room) {y y' z z' : Column} {w w' : Arguments} {l : Room} {d : Bool} {n : ℕ} {o o' u v v' x : List ℤ} {r r' i e e' m g g' c c' t t' : List ℕ}
    → y ≡ y' → z ≡ z' → w ≡ w' → o' ≡ u → r' ≡ i → v' ≡ x → e' ≡ m
    → TypedGraded k (graded_lent k j s p y z w a b) (graded_tally k j s p y z w a b) d l n o o' r r' v v' e e' g g' c c' t t'
    → TypedGraded k (graded_lent k j s p y' z' w' a b) (graded_tally k j s p y' z' w' a b) d l n o u r i v x e m g g' c c' t t'
graded_at k j s p a b q1 q2 q3 q4 q5 q6 q7 h = rw (q1, q2, q3, q4, q5, q6, q7) at h
