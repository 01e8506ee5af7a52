-- What a typed C entry returned and wrote: the numbers of what a call ends in.
use Rattle.std.specs.Prelude.{ℕ, ◌≡◌, List, [], ℤ, get_or}
use Rattle.model.specs.Basics.{Lent, absent, given}
use Rattle.model.specs.Call.{End}
use Rattle.model.specs.Contract.{MutSlice, Clears}
use Rattle.model.specs.Form.{over}
use Rattle.model.specs.Tally.{Tally}
use Rattle.entry.specs.Inner.{number_in, counts_in}
use Rattle.typed.specs.Tallies.{with_tally}
use Rattle.claims.specs.Slots.{Slices, Pair, ViewSlices}

-- the slice s holds w over what it held as the call began
abbrev pub Holds : {A : Type 0} → List A → MutSlice A → Type 0
Holds w s = s.exit.now ≡ over w s.entry.now

-- written slice i of numbers, and of bitmaps
abbrev pub numbers_in : End → ℕ → List ℤ
numbers_in x i = get_or x.numbers i []

abbrev pub bitmap_in : End → ℕ → List ℕ
bitmap_in x i = get_or x.bitmaps i []

-- the number returned, and the counts
pub record AnswerTyped (x : End) (n : ℕ) (c : MutSlice ℕ) : Type 0 where
  pub number : n ≡ number_in x.answer
  pub counts : Holds (counts_in x.answer) c

-- of a list answer, and of a recipe's
pub record ListTyped (x : End) (n : ℕ) (o : Slices) (c : MutSlice ℕ) : Type 0 where
  pub answer : AnswerTyped x n c
  pub offsets : Holds (numbers_in x 0) o.offsets
  pub rows : Holds (bitmap_in x 0) o.rows
  pub values : Holds (numbers_in x 1) o.values
  pub elements : Holds (bitmap_in x 1) o.elements

-- of a list answer with a work area w
pub record HashTyped (x : End) (n : ℕ) (o : Slices) (w c : MutSlice ℕ) : Type 0 where
  pub list : ListTyped x n o c
  pub area : x.area ≡ given w.exit.now

-- of a view written
pub record ViewTyped (x : End) (n : ℕ) (o : ViewSlices) (c : MutSlice ℕ) : Type 0 where
  pub answer : AnswerTyped x n c
  pub offsets : Holds (numbers_in x 0) o.offsets
  pub sizes : Holds (numbers_in x 1) o.sizes
  pub rows : Holds (bitmap_in x 0) o.rows
  pub values : Holds (numbers_in x 2) o.values
  pub elements : Holds (bitmap_in x 1) o.elements

-- of a value answer
pub record ValueTyped (x : End) (n : ℕ) (o : Pair) (c : MutSlice ℕ) : Type 0 where
  pub answer : AnswerTyped x n c
  pub values : Holds (numbers_in x 0) o.values
  pub rows : Holds (bitmap_in x 0) o.bits

-- of list-repeat's, b being the outer lists
pub record RepeatTyped (x : End) (n : ℕ) (b : Pair) (o : Slices) (c : MutSlice ℕ) : Type 0 where
  pub answer : AnswerTyped x n c
  pub outer-offsets : Holds (numbers_in x 0) b.values
  pub outer_rows : Holds (bitmap_in x 0) b.bits
  pub offsets : Holds (numbers_in x 1) o.offsets
  pub rows : Holds (bitmap_in x 1) o.rows
  pub values : Holds (numbers_in x 2) o.values
  pub elements : Holds (bitmap_in x 2) o.elements

-- of a recipe looked at for a few rows, through the trays l and m
pub record WindowTyped (x : End) (n : ℕ) (l m o : Slices) (c : MutSlice ℕ) : Type 0 where
  pub answer : ListTyped x n o c
  pub one : Clears l.offsets l.rows l.values l.elements
  pub two : Clears m.offsets m.rows m.values m.elements

-- a tally over the first places of a slice
unfoldable pub tally_over : Lent Tally → List ℕ → List ℕ
tally_over absent s = s
tally_over (given t) s = with_tally t s

-- of a recipe through the trays l and m, with its tally in t
pub record RecipeTyped (x : End) (n : ℕ) (l m o : Slices) (c t : MutSlice ℕ) : Type 0 where
  pub answer : ListTyped x n o c
  pub one : Clears l.offsets l.rows l.values l.elements
  pub two : Clears m.offsets m.rows m.values m.elements
  pub tally : t.exit.now ≡ tally_over x.tally t.entry.now

-- of a graded column, g being the grades
pub record GradeTyped (x : End) (n : ℕ) (g c : MutSlice ℕ) : Type 0 where
  pub answer : AnswerTyped x n c
  pub grades : Holds x.grades g

-- of a graded recipe
pub record GradedTyped (x : End) (n : ℕ) (l m o : Slices) (g c t : MutSlice ℕ) : Type 0 where
  pub recipe : RecipeTyped x n l m o c t
  pub grades : Holds x.grades g
