-- What the inner functions ask of their callers and promise them.
use Rattle.std.specs.Prelude.{Ok, Err, ℕ, ◌+◌, ◌*◌, ◌≤◌, ◌≡◌, List, map, take, ℤ}
use Rattle.model.specs.Bitmap.{pack}
use Rattle.model.specs.Form.{RepeatRoom, Outer, is_outer, outer_length, inner, flat, over, offsets_from, form_offsets, form_rows, form_values, form_elements}
use Rattle.model.specs.Outcome.{Outcome}
use Rattle.model.specs.Call.{answer_of, written, repeat_counts}
use Rattle.model.specs.Contract.{MutSlice, after, repeat_room, told_repeat}
use Rattle.model.specs.Answers.{RepeatAnswer}
use Rattle.wire.specs.Bytes.{bytes_of4, bytes_of8, bytes_of_counts}
use Rattle.entry.specs.Entry.{mut_size}
use Rattle.entry.specs.Inner.{number_in, counts_in}

-- the outer offsets, the inner offsets and the values that an answer counts
unfoldable pub outer_slots : RepeatAnswer → ℕ
outer_slots (Err k) = 0
outer_slots (Ok c) = c.rows + 1

unfoldable pub inner_slots : RepeatAnswer → ℕ
inner_slots (Err k) = 0
inner_slots (Ok c) = c.inner_rows + 1

unfoldable pub value_slots : RepeatAnswer → ℕ
value_slots (Err k) = 0
value_slots (Ok c) = c.elements

-- after list-repeat with room for m offsets, i inner offsets and n values, whose outcome is x: the numbers that the answer counts are at
-- the fronts of o, io and v, however long; the bitmaps at entry and at exit
pub record RepeatRan (x : Outcome (List Outer)) (a : RepeatAnswer) (m i n : ℕ) (o io v : List ℤ) (r r' ir ir' e e' : List ℕ) : Type 0 where
  pub answer : told_repeat a ≡ answer_of repeat_counts x
  pub offset-room : outer_slots a ≤ m
  pub inner_room : inner_slots a ≤ i
  pub value_room_lem : value_slots a ≤ n
  pub offsets : take (outer_slots a) o ≡ written (λ os. offsets_from 0 (map outer_length os)) x
  pub inner-offsets : take (inner_slots a) io ≡ written (λ os. form_offsets (inner os)) x
  pub values : take (value_slots a) v ≡ written (λ os. form_values (flat (inner os))) x
  pub rows : r' ≡ after (λ os. pack (map is_outer os)) x r
  pub inner-rows : ir' ≡ after (λ os. form_rows (inner os)) x ir
  pub elements : e' ≡ after (λ os. form_elements (flat (inner os))) x e

-- the same of slices, f being what the operation comes to for the lengths lent
abbrev pub RepeatRuns : (RepeatRoom → Outcome (List Outer)) → ℕ → ℕ → ℕ → RepeatAnswer → MutSlice ℤ → MutSlice ℕ → MutSlice ℤ → MutSlice ℕ → MutSlice ℤ → MutSlice ℕ → Type 0
RepeatRuns f m i n a o r io ir v e =
    RepeatRan (f (repeat_room m (mut_size r) i (mut_size ir) n (mut_size e))) a m i n o.exit.now io.exit.now v.exit.now
    r.entry.now r.exit.now ir.entry.now ir.exit.now e.entry.now e.exit.now

-- o and io offsets and v values have those that the answer counts, and lo, li, lv and lc bytes have room for these and for the counts
pub record RepeatReady (a : RepeatAnswer) (o io v lo li lv lc : ℕ) : Type 0 where
  pub offsets : outer_slots a ≤ o
  pub inner-offsets : inner_slots a ≤ io
  pub values : value_slots a ≤ v
  pub offset-bytes : outer_slots a * 4 ≤ lo
  pub inner-bytes : inner_slots a * 4 ≤ li
  pub value_bytes_lem : value_slots a * 8 ≤ lv
  pub count-bytes : 48 ≤ lc

-- the number n, and the bytes of outer offsets, inner offsets, values and counts, at entry and at exit
pub record RepeatSent (a : RepeatAnswer) (n : ℕ) (o io v : List ℤ) (bo bo' bi bi' bv bv' c c' : List ℕ) : Type 0 where
  pub number : n ≡ number_in (told_repeat a)
  pub offsets : bo' ≡ over (bytes_of4 (take (outer_slots a) o)) bo
  pub inner-offsets : bi' ≡ over (bytes_of4 (take (inner_slots a) io)) bi
  pub values : bv' ≡ over (bytes_of8 (take (value_slots a) v)) bv
  pub counts : c' ≡ over (bytes_of_counts (counts_in (told_repeat a))) c
