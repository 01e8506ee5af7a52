-- What the C entry of recipes returns, and what its slices hold then, for every call.
use Rattle.std.specs.Prelude.{ℕ, ◌≡◌, List, [], ◌∷◌, ◌++◌, eqb, ltb}
use Rattle.model.specs.Basics.{pick, given}
use Rattle.model.specs.Column.{Row}
use Rattle.model.specs.Contract.{MutSlice}
use Rattle.model.specs.Form.{Room}
use Rattle.model.specs.Outcome.{Outcome}
use Rattle.entry.specs.Entry.{Numbers, numbers, list_sizes, mut_size, bytes_room, size_refusal, ListAnswered}
use Rattle.tally_bytes.specs.Bytes.{tallied_in}
use Rattle.recipe_bytes.specs.Inner.{most_arguments}
use Rattle.recipe_bytes.specs.Recipe.{Zero}

-- a recipe's numbers, of which any many are taken, and its argument values, by their bytes
abbrev pub recipe_sizes : ℕ → ℕ → List Numbers
recipe_sizes ns a = numbers 4 ns ns ∷ numbers 8 most_arguments a ∷ []

-- offsets and values of two lists or of two trays
abbrev pub pair_sizes : ℕ → ℕ → ℕ → ℕ → List Numbers
pair_sizes o v p w = list_sizes o v ++ list_sizes p w

-- the refusal of the sizes, 100 too where the tally has fewer bytes than its 32 counts take
unfoldable pub recipe_size_refusal : List Numbers → ℕ → ℕ → ℕ
recipe_size_refusal ss counts tally = pick (ltb tally 256) 100 (size_refusal ss counts 32)

-- "Trays are all zero after any call.": every byte of a tray's four slices
abbrev pub ZeroTray : MutSlice ℕ → MutSlice ℕ → MutSlice ℕ → MutSlice ℕ → Type 0
ZeroTray o r v e = Zero o × Zero r × Zero v × Zero e

-- the tally's slice after a call for a station: one that the sizes refuse is not counted
unfoldable pub tally_after : ℕ → ℕ → Outcome (List Row) → List ℕ → List ℕ
tally_after k station x s = pick (eqb k 0) (tallied_in station x s) s

-- s is the station, f what the recipe comes to for the lengths of tray one, tray two and the output, k the refusal of the sizes; then
-- the number returned, tray one, tray two, the output, the counts and the tally. Number, output and counts are those of any entry with a list
-- answer.
abbrev pub RecipeReturns : ℕ → (Room → Room → Room → Outcome (List Row)) → ℕ → ℕ → MutSlice ℕ → MutSlice ℕ → MutSlice ℕ → MutSlice ℕ → MutSlice ℕ → MutSlice ℕ → MutSlice ℕ → MutSlice ℕ → MutSlice ℕ → MutSlice ℕ → MutSlice ℕ → MutSlice ℕ → MutSlice ℕ → MutSlice ℕ → Type 0
RecipeReturns s f k n ao ar av ae bo br bv be o r v e c t =
    ListAnswered (given (f (bytes_room ao ar av ae) (bytes_room bo br bv be))) k n o r v e c
    × ZeroTray ao ar av ae
    × ZeroTray bo br bv be
    × (t.exit.now ≡ tally_after k s (f (bytes_room ao ar av ae) (bytes_room bo br bv be) (bytes_room o r v e)) t.entry.now)

-- the contract, ss being the slices of numbers that the entry reads
abbrev pub RecipeEntry : ℕ → (Room → Room → Room → Outcome (List Row)) → List Numbers → ℕ → MutSlice ℕ → MutSlice ℕ → MutSlice ℕ → MutSlice ℕ → MutSlice ℕ → MutSlice ℕ → MutSlice ℕ → MutSlice ℕ → MutSlice ℕ → MutSlice ℕ → MutSlice ℕ → MutSlice ℕ → MutSlice ℕ → MutSlice ℕ → Type 0
RecipeEntry s f ss n ao ar av ae bo br bv be o r v e c t =
    RecipeReturns s f (recipe_size_refusal ((ss ++ pair_sizes (mut_size ao) (mut_size av) (mut_size bo) (mut_size bv)) ++ list_sizes (mut_size o) (mut_size v)) (mut_size c) (mut_size t)) n ao ar av ae bo br bv be o r v e c t
