-- What the inner functions ask of their callers and promise them.
use Rattle.std.specs.Prelude.{Ok, Err, ℕ, ◌+◌, ◌*◌, ◌/◌, ◌≤◌, ◌≡◌, List, [], length, take, ℤ}
use Rattle.model.specs.Column.{Elem, Row}
use Rattle.model.specs.Form.{Room, ValueRoom, over, flat, form_offsets, form_rows, form_values, form_elements}
use Rattle.model.specs.Outcome.{Outcome}
use Rattle.model.specs.Call.{Answer, refusal, counts, answer_of, written, list_counts, value_counts}
use Rattle.model.specs.Contract.{MutSlice, after, room, value_room, told, told_value}
use Rattle.model.specs.Answers.{ListAnswer, ValueAnswer}
use Rattle.wire.specs.Bytes.{ints4, ints8, bytes_of4, bytes_of8, bytes_of_counts}
use Rattle.entry.specs.Entry.{mut_size}

-- ---- slices of numbers

-- ao offsets and av values are as many as o and v bytes hold, or more
pub record ListFits (o v ao av : ℕ) : Type 0 where
  pub offsets : o / 4 ≤ ao
  pub values : v / 8 ≤ av

-- the numbers in the bytes bo and bv stand at the fronts of o and v
pub record ListRead (bo bv : List ℕ) (o v : List ℤ) : Type 0 where
  pub offsets : take (length bo / 4) o ≡ ints4 bo
  pub values : take (length bv / 8) v ≡ ints8 bv

-- ---- an answer as bytes

-- the number and the counts of an answer
unfoldable pub number_in : Answer → ℕ
number_in (refusal k) = k
number_in (counts ns) = 0

unfoldable pub counts_in : Answer → List ℕ
counts_in (refusal k) = []
counts_in (counts ns) = ns

-- the offsets and the values that it counts
unfoldable pub offset_slots : ListAnswer → ℕ
offset_slots (Err k) = 0
offset_slots (Ok c) = c.rows + 1

unfoldable pub value_slots : ListAnswer → ℕ
value_slots (Err k) = 0
value_slots (Ok c) = c.elements

unfoldable pub slots : ValueAnswer → ℕ
slots (Err k) = 0
slots (Ok c) = c.rows

-- after an operation with room for m offsets and n values, whose outcome is x: the numbers that the answer counts are at the fronts
-- of o and v, however long; the bitmaps of rows and elements, at entry and at exit
pub record ListRan (x : Outcome (List Row)) (a : ListAnswer) (m n : ℕ) (o v : List ℤ) (r r' e e' : List ℕ) : Type 0 where
  pub answer : told a ≡ answer_of list_counts x
  pub offset-room : offset_slots a ≤ m
  pub value_room_lem : value_slots a ≤ n
  pub offsets : take (offset_slots a) o ≡ written form_offsets x
  pub values : take (value_slots a) v ≡ written (λ ws. form_values (flat ws)) x
  pub rows : r' ≡ after form_rows x r
  pub elements : e' ≡ after (λ ws. form_elements (flat ws)) x e

-- the same of slices, f being what the operation comes to for the lengths lent
abbrev pub ListRuns : (Room → Outcome (List Row)) → ℕ → ℕ → ListAnswer → MutSlice ℤ → MutSlice ℕ → MutSlice ℤ → MutSlice ℕ → Type 0
ListRuns f m n a o r v e = ListRan (f (room m (mut_size r) n (mut_size e))) a m n o.exit.now v.exit.now r.entry.now r.exit.now e.entry.now e.exit.now

-- o offsets and v values have those that the answer counts, and lo, lv and lc bytes have room for these and for the counts
pub record Ready (a : ListAnswer) (o v lo lv lc : ℕ) : Type 0 where
  pub offsets : offset_slots a ≤ o
  pub values : value_slots a ≤ v
  pub offset-bytes : offset_slots a * 4 ≤ lo
  pub value_bytes_lem : value_slots a * 8 ≤ lv
  pub count-bytes : 32 ≤ lc

-- the number n, and the bytes of offsets, values and counts, at entry and at exit
pub record Sent (a : ListAnswer) (n : ℕ) (o v : List ℤ) (bo bo' bv bv' c c' : List ℕ) : Type 0 where
  pub number : n ≡ number_in (told a)
  pub offsets : bo' ≡ over (bytes_of4 (take (offset_slots a) o)) bo
  pub values : bv' ≡ over (bytes_of8 (take (value_slots a) v)) bv
  pub counts : c' ≡ over (bytes_of_counts (counts_in (told a))) c

-- all of a value answer
pub record ValueRan (x : Outcome (List Elem)) (a : ValueAnswer) (n : ℕ) (v : List ℤ) (r r' : List ℕ) : Type 0 where
  pub answer : told_value a ≡ answer_of value_counts x
  pub value_room_lem : slots a ≤ n
  pub values : take (slots a) v ≡ written form_values x
  pub rows : r' ≡ after form_elements x r

abbrev pub ValueRuns : (ValueRoom → Outcome (List Elem)) → ℕ → ValueAnswer → MutSlice ℤ → MutSlice ℕ → Type 0
ValueRuns f n a v r = ValueRan (f (value_room n (mut_size r))) a n v.exit.now r.entry.now r.exit.now

pub record ValueReady (a : ValueAnswer) (v lv lc : ℕ) : Type 0 where
  pub values : slots a ≤ v
  pub value_bytes_lem : slots a * 8 ≤ lv
  pub count-bytes : 16 ≤ lc

pub record ValueSent (a : ValueAnswer) (n : ℕ) (v : List ℤ) (bv bv' c c' : List ℕ) : Type 0 where
  pub number : n ≡ number_in (told_value a)
  pub values : bv' ≡ over (bytes_of8 (take (slots a) v)) bv
  pub counts : c' ≡ over (bytes_of_counts (counts_in (told_value a))) c
