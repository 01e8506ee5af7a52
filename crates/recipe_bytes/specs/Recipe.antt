-- A recipe in slices of bytes; numbers stand in them little-endian (wire, specs/Bytes.antt).
use Rattle.std.specs.Prelude.{ℕ, ◌≡◌, List, replicate}
use Rattle.model.specs.Column.{Row}
use Rattle.model.specs.Contract.{Slice, MutSlice, room}
use Rattle.model.specs.Form.{Room}
use Rattle.model.specs.Limits.{narrow}
use Rattle.model.specs.Outcome.{Outcome}
use Rattle.model.specs.Recipe.{recipe_outcome, stationed}
use Rattle.recipe_refusal.specs.Refused.{recipe}
use Rattle.wire.specs.Bytes.{nats}
use Rattle.entry.specs.Decoded.{decoded_in, decoded_values_in}
use Rattle.recipe_bytes.specs.declared.InputBytes.{InputBytes}
use Rattle.recipe_bytes.specs.declared.RecipeBytes.{RecipeBytes}
use Rattle.entry.specs.Entry.{decoded_from, decoded_arguments_from, mut_size}

-- what a recipe comes to for the lengths of tray one, tray two and the output, of slices of bytes as the call begins (as `recipe_lent`)
abbrev pub recipe_in : ℕ → ℕ → Slice ℕ → Slice ℕ → Slice ℕ → ℕ → Slice ℕ → Slice ℕ → ℕ → Slice ℕ → Slice ℕ → ℕ → Slice ℕ → Slice ℕ → ℕ → Slice ℕ → Slice ℕ → ℕ → Room → Room → Room → Outcome (List Row)
recipe_in station columns ns o r i v e j so sr si sv se sj a b k l m n =
    stationed station (recipe_outcome narrow (recipe (nats 4 ns.entry.now) columns) (decoded_from o r i v e j) (decoded_from so sr si sv se sj) (decoded_arguments_from a b k) l m n)

-- the same of a recipe and its inputs that lie as bytes: a `requires` says `recipe` and `inputs`, an `ensures` says `recipe.entry` and `inputs.entry`
abbrev pub recipe_read : ℕ → RecipeBytes → InputBytes → Room → Room → Room → Outcome (List Row)
recipe_read station p i l m n =
    stationed station (recipe_outcome narrow (recipe (nats 4 p.numbers.now) p.columns) (decoded_in i.list) (decoded_in i.second) (decoded_values_in i.arguments) l m n)

-- the lengths of a tray of o offsets and v values, whose bitmaps are r and e
abbrev pub tray_room : ℕ → MutSlice ℕ → ℕ → MutSlice ℕ → Room
tray_room o r v e = room o (mut_size r) v (mut_size e)

-- every byte of a slice is 0 as the call returns
abbrev pub Zero : MutSlice ℕ → Type 0
Zero s = s.exit.now ≡ replicate (mut_size s) 0
