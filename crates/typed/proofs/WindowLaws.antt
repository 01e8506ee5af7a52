-- Laws of a recipe looked at for a few rows and told: where the counts are too short it was run for rows 1 up to 0, and so only cleared the trays.
use mathlib.Core.Path.{◌≡◌, refl}
use mathlib.Core.Bool.{Bool, true, false}
use mathlib.Core.List.{List, [], ◌∷◌}
use Prim.Native.Nat.{ℕ}
use lib.Dec.{eqb}
use lib.ListN.{length}
use lib.IntN.{ℤ}
use Rattle.model.specs.Basics.{pick, given}
use Rattle.model.specs.Column.{Row, Column, Arguments, rows_of, shown_by}
use Rattle.model.specs.Form.{Room}
use Rattle.model.specs.Limits.{Limits}
use Rattle.model.specs.Outcome.{Outcome, refused, gate, columns_refusal}
use Rattle.model.specs.Recipe.{Recipe, malformed, recipe_unequal}
use Rattle.model.specs.Window.{no_window, formed_window, window_outcome}
use Rattle.model.specs.Call.{Answer, refusal, written}
use Rattle.model.specs.Contract.{told, ListMeets}
use Rattle.model.specs.Answers.{ListAnswer}
use Rattle.entry.specs.Entry.{number_of}
use Rattle.entry.specs.Inner.{number_in, counts_in}
use Rattle.typed.specs.Typed.{served, Told, TypedList}
use Rattle.typed.proofs.TypedLaws.{too_short, own, list-told}

-- ---- no rows at all

record Refuses {A : Type 0} (x : Outcome A) : Type 0 where
  number : ℕ
  is : x ≡ refused number

gate-refuses : {A : Type 0} (k : ℕ) (x : Outcome A) → Refuses x → Refuses (gate k x)
unfolding gate
gate-refuses k x r = go (eqb k 0)
  where
    go : (t : Bool) → Refuses (pick t x (refused k))
    go true = r
    go false = record { number = k; is = refl }

sixteen : {A : Type 0} (n : ℕ) (x : Outcome A) → Refuses (gate (pick (no_window 1 0 n) 16 0) x)
unfolding no_window gate
sixteen n x = record { number = 16; is = refl }

-- rows 1 up to 0 are there in no column: such a call is always refused
none-refused : (L : Limits) (p : Recipe) (c d : Column) (e : Arguments) (l m o : Room) → Refuses (window_outcome L p 1 0 c d e l m o)
unfolding window_outcome formed_window
none-refused L p c d e l m o =
    gate-refuses (pick (malformed p) 10 0) _
    (gate-refuses (columns_refusal (c ∷ d ∷ []) (e ∷ [])) _ (gate-refuses (pick (recipe_unequal p.columns (rows_of c) (rows_of d) (shown_by e)) 3 0) _ (sixteen (length (rows_of c)) _)))

module _ (L : Limits) (p : Recipe) (x y : ℕ) (c d : Column) (e : Arguments) (a b o : Room) where
  told_by : (t : Bool) {n : ℕ} {w : ListAnswer} {oo oo' vo vo' : List ℤ} {ro ro' eo eo' cs cs' : List ℕ} → ListMeets (window_outcome L p (pick t 1 x) (pick t 0 y) c d e a b o) w oo oo' ro ro' vo vo' eo eo' → Told (pick t (refusal 100) (told w)) n cs cs'
      → TypedList (served (given (λ r. window_outcome L p x y c d e a b r)) t o) n oo oo' ro ro' vo vo' eo eo' cs cs'
  unfolding number_of written number_in counts_in
  told_by true m t =
      let k = rw (none-refused L p c d e a b o).is at m in
      rw (too_short (given (λ r. window_outcome L p x y c d e a b r)) o true refl refl)
      (record { number = t.number; offsets = k.offsets; rows = k.rows; values = k.values; elements = k.elements; counts = t.counts })
  told_by false m t = list-told (own (given (λ r. window_outcome L p x y c d e a b r)) o false refl refl) m t

  -- x' and y' are the rows that it was run for
  pub window-told : (t : Bool) {x' y' n : ℕ} {w : ListAnswer} {oo oo' vo vo' : List ℤ} {ro ro' eo eo' cs cs' : List ℕ} → x' ≡ pick t 1 x → y' ≡ pick t 0 y
      → ListMeets (window_outcome L p x' y' c d e a b o) w oo oo' ro ro' vo vo' eo eo' → Told (pick t (refusal 100) (told w)) n cs cs'
      → TypedList (served (given (λ r. window_outcome L p x y c d e a b r)) t o) n oo oo' ro ro' vo vo' eo eo' cs cs'
  window-told t h g m k = told_by t (rw (h, g) at m) k
