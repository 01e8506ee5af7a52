-- What the C entry of list-repeat returns, and what its slices hold then, for every call.
use Rattle.std.specs.Prelude.{ℕ, ◌/◌, ◌≡◌, List, [], ◌∷◌, ◌++◌, map}
use Rattle.model.specs.Basics.{Lent}
use Rattle.model.specs.Bitmap.{pack}
use Rattle.model.specs.Form.{RepeatRoom, Outer, is_outer, outer_length, inner, flat, offsets_from, form_offsets, form_rows, form_values, form_elements}
use Rattle.model.specs.Outcome.{Outcome}
use Rattle.model.specs.Call.{repeat_counts}
use Rattle.model.specs.Contract.{MutSlice, after, repeat_room}
use Rattle.wire.specs.Bytes.{bytes_of4, bytes_of8, bytes_of_counts}
use Rattle.entry.specs.Entry.{Numbers, numbers, list_sizes, mut_size, size_refusal, entered, number_of}

-- the most offsets of inner rows that the entry takes, in the code's array
abbrev pub most_inner : ℕ
most_inner = 16385

abbrev pub inner_sizes : ℕ → List Numbers
inner_sizes i = numbers 4 most_inner i ∷ []

-- outer offsets, inner offsets and values for an answer, by their bytes
abbrev pub repeat_sizes : ℕ → ℕ → ℕ → List Numbers
repeat_sizes o i v = list_sizes o v ++ inner_sizes i

-- the number n, and each slice at entry and at exit: outer offsets and rows, inner offsets and rows, values, elements and counts;
-- the result's bytes over what was there, none of a refusal
pub record RepeatReturns (x : Outcome (List Outer)) (n : ℕ) (o o' r r' io io' ir ir' v v' e e' c c' : List ℕ) : Type 0 where
  pub number : n ≡ number_of x
  pub offsets : o' ≡ after (λ os. bytes_of4 (offsets_from 0 (map outer_length os))) x o
  pub rows : r' ≡ after (λ os. pack (map is_outer os)) x r
  pub inner-offsets : io' ≡ after (λ os. bytes_of4 (form_offsets (inner os))) x io
  pub inner-rows : ir' ≡ after (λ os. form_rows (inner os)) x ir
  pub values : v' ≡ after (λ os. bytes_of8 (form_values (flat (inner os)))) x v
  pub elements : e' ≡ after (λ os. form_elements (flat (inner os))) x e
  pub counts : c' ≡ after (λ os. bytes_of_counts (repeat_counts os)) x c

-- the lengths lent, in numbers
abbrev pub bytes_repeat_room : MutSlice ℕ → MutSlice ℕ → MutSlice ℕ → MutSlice ℕ → MutSlice ℕ → MutSlice ℕ → RepeatRoom
bytes_repeat_room o r io ir v e = repeat_room (mut_size o / 4) (mut_size r) (mut_size io / 4) (mut_size ir) (mut_size v / 8) (mut_size e)

-- the same of slices, f being what the call comes to for those lengths
abbrev pub RepeatReturned : (RepeatRoom → Outcome (List Outer)) → ℕ → MutSlice ℕ → MutSlice ℕ → MutSlice ℕ → MutSlice ℕ → MutSlice ℕ → MutSlice ℕ → MutSlice ℕ → Type 0
RepeatReturned f n o r io ir v e c =
    RepeatReturns (f (bytes_repeat_room o r io ir v e)) n o.entry.now o.exit.now r.entry.now r.exit.now io.entry.now io.exit.now ir.entry.now ir.exit.now
    v.entry.now v.exit.now e.entry.now e.exit.now c.entry.now c.exit.now

-- the contract: f is what the operation comes to for the lengths lent in numbers, ss are the slices of numbers that the entry
-- reads; then the number returned, and the outputs and the counts
abbrev pub RepeatEntry : Lent (RepeatRoom → Outcome (List Outer)) → List Numbers → ℕ → MutSlice ℕ → MutSlice ℕ → MutSlice ℕ → MutSlice ℕ → MutSlice ℕ → MutSlice ℕ → MutSlice ℕ → Type 0
RepeatEntry f ss n o r io ir v e c =
    RepeatReturned (entered f (size_refusal (ss ++ repeat_sizes (mut_size o) (mut_size io) (mut_size v)) (mut_size c) 48)) n o r io ir v e c
