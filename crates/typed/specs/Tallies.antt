-- The tally in a slice of numbers: the finished counts of stations 0 to 15, then their refused counts.
use Rattle.std.specs.Prelude.{ℕ, ◌+◌, Bool, ◌||◌, ◌≡◌, List, ◌++◌, length, get_or, ℤ}
use Rattle.model.specs.Basics.{pick, tab, given}
use Rattle.model.specs.Call.{Answer, refusal}
use Rattle.model.specs.Column.{Row}
use Rattle.model.specs.Contract.{MutSlice, room_of, Grades}
use Rattle.model.specs.Form.{Room, over}
use Rattle.model.specs.Outcome.{Outcome}
use Rattle.model.specs.Tally.{Tally, tallied}
use Rattle.column.specs.Outputs.{SameLists, room_in}
use Rattle.column.specs.declared.lists.ListOutput.{ListOutput}
use Rattle.typed.specs.Typed.{short, served, Told, TypedList}

-- sixteen counts from place `at` on; past the end of the slice there are zeros
unfoldable pub counts_at : ℕ → List ℕ → List ℕ
counts_at at s = tab (λ k. get_or s (at + k) 0) 0 16

unfoldable pub tally_at : List ℕ → Tally
tally_at s = record { finished = counts_at 0 s; refused = counts_at 16 s }

-- the slice with a tally over its first places
abbrev pub with_tally : Tally → List ℕ → List ℕ
with_tally t s = over (t.finished ++ t.refused) s

-- the counts or the tally have fewer places than they take
abbrev pub short_tally : MutSlice ℕ → MutSlice ℕ → Bool
short_tally c t = short 4 c || short 32 t

-- the tally's slice after a call for a station that came to x: one that the entry itself refuses, where b holds, is not counted
unfoldable pub tally_after : Bool → ℕ → Outcome (List Row) → List ℕ → List ℕ
tally_after b station x s = pick b s (with_tally (tallied station x (tally_at s)) s)

-- a recipe's answer a, told with the tally u that it leaves: 100, and nothing written, where the counts or the tally are too short
pub record Settled (a : Answer) (u : Tally) (n : ℕ) (c t : MutSlice ℕ) : Type 0 where
  pub told : Told (pick (short_tally c t) (refusal 100) a) n c.entry.now c.exit.now
  pub tally : t.exit.now ≡ pick (short_tally c t) t.entry.now (with_tally u t.entry.now)

-- a recipe whose outcome for the lengths l of the output is f l, b whether the counts or the tally are too short: number, output, counts and tally
pub record TypedRecipe (station : ℕ) (f : Room → Outcome (List Row)) (b : Bool) (l : Room) (n : ℕ) (o o' : List ℤ) (r r' : List ℕ) (v v' : List ℤ) (e e' c c' t t' : List ℕ) : Type 0 where
  pub list : TypedList (served (given f) b l) n o o' r r' v v' e e' c c'
  pub tally : t' ≡ tally_after b station (f l) t

-- graded by k, where u l is what it leaves of a tally: the grades too
pub record TypedGraded (k : ℕ) (f : Room → Outcome (List Row)) (u : Room → Tally → Tally) (b : Bool) (l : Room) (n : ℕ) (o o' : List ℤ) (r r' : List ℕ) (v v' : List ℤ) (e e' g g' c c' t t' : List ℕ) : Type 0 where
  pub list : TypedList (served (given f) b l) n o o' r r' v v' e e' c c'
  pub grades : Grades k (served (given f) b l) g g'
  pub tally : t' ≡ pick b t (with_tally (u l (tally_at t)) t)

-- f is what the recipe comes to for the lengths of the output: number, output, counts and tally
abbrev pub RecipeServed : ℕ → (Room → Outcome (List Row)) → ℕ → MutSlice ℤ → MutSlice ℕ → MutSlice ℤ → MutSlice ℕ → MutSlice ℕ → MutSlice ℕ → Type 0
RecipeServed station f n o r v e c t =
    TypedRecipe station f (short_tally c t) (room_of o r v e) n
    o.entry.now o.exit.now r.entry.now r.exit.now v.entry.now v.exit.now e.entry.now e.exit.now c.entry.now c.exit.now t.entry.now t.exit.now

-- a recipe graded by k: f is what it comes to for the lengths of the output, and u what it leaves of a tally; number, output, grades, counts and tally
abbrev pub GradedServed : ℕ → (Room → Outcome (List Row)) → (Room → Tally → Tally) → ℕ → MutSlice ℤ → MutSlice ℕ → MutSlice ℤ → MutSlice ℕ → MutSlice ℕ → MutSlice ℕ → MutSlice ℕ → Type 0
GradedServed k f u n o r v e g c t =
    TypedGraded k f u (short_tally c t) (room_of o r v e) n
    o.entry.now o.exit.now r.entry.now r.exit.now v.entry.now v.exit.now e.entry.now e.exit.now g.entry.now g.exit.now c.entry.now c.exit.now t.entry.now t.exit.now

-- the same over an output, which holds those slices as the call returns; numbers are those of the offsets
pub record RecipeServedIn {A : Type 0} (numbers : List A → List ℤ) (station : ℕ) (f : Room → Outcome (List Row)) (n : ℕ) (o o' : ListOutput A) (c t : MutSlice ℕ) : Type 0 where
  pub served :
      TypedRecipe station f (short_tally c t) (room_in o) n (numbers o.offsets.now) (numbers o'.offsets.now) o.rows.now o'.rows.now
      o.elements.now.values.now o'.elements.now.values.now o.elements.now.bits.now o'.elements.now.bits.now c.entry.now c.exit.now t.entry.now t.exit.now
  pub same : SameLists o o'

pub record GradedServedIn {A : Type 0} (k : ℕ) (numbers : List A → List ℤ) (f : Room → Outcome (List Row)) (u : Room → Tally → Tally) (n : ℕ) (o o' : ListOutput A) (g c t : MutSlice ℕ) : Type 0 where
  pub served :
      TypedGraded k f u (short_tally c t) (room_in o) n (numbers o.offsets.now) (numbers o'.offsets.now) o.rows.now o'.rows.now
      o.elements.now.values.now o'.elements.now.values.now o.elements.now.bits.now o'.elements.now.bits.now g.entry.now g.exit.now c.entry.now c.exit.now t.entry.now t.exit.now
  pub same : SameLists o o'
