-- What a C entry returns, and what its slices hold then, for every call. All slices are bytes; numbers stand in them little-endian,
-- four bytes an offset and eight a value (wire, specs/Bytes.antt).
use Rattle.std.specs.Prelude.{ℕ, ◌/◌, ◌%◌, ◌≡◌, Bool, not, ◌||◌, List, [], ◌∷◌, ◌++◌, length, eqb, ltb}
use Rattle.model.specs.Basics.{pick, any, Lent, absent, given}
use Rattle.model.specs.Bitmap.{from}
use Rattle.model.specs.Column.{Elem, Row, Column, column, Arguments, arguments}
use Rattle.model.specs.Form.{Room, ValueRoom, flat, form_offsets, form_rows, form_values, form_elements}
use Rattle.model.specs.Outcome.{Outcome, refused, made, gate}
use Rattle.model.specs.Call.{list_counts, value_counts}
use Rattle.model.specs.Contract.{Slice, MutSlice, after, room, value_room}
use Rattle.wire.specs.Bytes.{ints4, ints8, bytes_of4, bytes_of8, bytes_of_counts}

-- ---- what is lent

-- the column in four slices of bytes as the call begins, each bitmap followed by its starting bit; and the argument column in two
abbrev pub decoded_from : Slice ℕ → Slice ℕ → ℕ → Slice ℕ → Slice ℕ → ℕ → Column
decoded_from o r i v e j = column (ints4 o.entry.now) (from i r.entry.now) (ints8 v.entry.now) (from j e.entry.now)

abbrev pub decoded_arguments_from : Slice ℕ → Slice ℕ → ℕ → Arguments
decoded_arguments_from v b i = arguments (ints8 v.entry.now) (from i b.entry.now)

-- the bytes that a slice has
abbrev pub size : Slice ℕ → ℕ
size s = length s.entry.now

abbrev pub mut_size : MutSlice ℕ → ℕ
mut_size s = length s.entry.now

-- the lengths of the slices of bytes for a list answer, and for a value answer, in numbers
abbrev pub bytes_room : MutSlice ℕ → MutSlice ℕ → MutSlice ℕ → MutSlice ℕ → Room
bytes_room o r v e = room (mut_size o / 4) (mut_size r) (mut_size v / 8) (mut_size e)

abbrev pub bytes_value_room : MutSlice ℕ → MutSlice ℕ → ValueRoom
bytes_value_room v r = value_room (mut_size v / 8) (mut_size r)

-- ---- the entry's own refusals

-- a slice of numbers: the bytes of one, the most that the entry takes, and the bytes lent
pub record Numbers : Type 0 where
  pub width : ℕ
  pub most : ℕ
  pub bytes : ℕ

abbrev pub numbers : ℕ → ℕ → ℕ → Numbers
numbers w m b = record { width = w; most = m; bytes = b }

-- the most that an entry takes of each kind, in the code's arrays
abbrev pub most_offsets : ℕ
most_offsets = 4097

abbrev pub most_values : ℕ
most_values = 16384

abbrev pub most_rows : ℕ
most_rows = 4096

-- offsets and values of a list, lent or for an answer, by their bytes
abbrev pub list_sizes : ℕ → ℕ → List Numbers
list_sizes o v = numbers 4 most_offsets o ∷ numbers 8 most_values v ∷ []

-- one value a row: an argument column's values, or those of a value answer
abbrev pub value_sizes : ℕ → List Numbers
value_sizes v = numbers 8 most_rows v ∷ []

-- the bytes are no whole number of numbers
abbrev pub ragged : Numbers → Bool
ragged s = not (eqb (s.bytes % s.width) 0)

-- they are more numbers than the entry takes
abbrev pub outsize : Numbers → Bool
outsize s = ltb s.most (s.bytes / s.width)

-- 100 where a slice is ragged, or the counts have fewer bytes than they take; then 101 where one is outsize; 0 is none
unfoldable pub size_refusal : List Numbers → ℕ → ℕ → ℕ
size_refusal ss counts need = pick (any ragged ss || ltb counts need) 100 (pick (any outsize ss) 101 0)

-- 102 before all else, where the entry has no such operation; then a refusal of the sizes; then the operation's outcome
unfoldable pub entered : {A L : Type 0} → Lent (L → Outcome A) → ℕ → L → Outcome A
entered absent k l = refused 102
entered (given f) k l = gate k (f l)

-- ---- what is returned and written

-- the number of an outcome: 0 where the call is accepted
unfoldable pub number_of : {A : Type 0} → Outcome A → ℕ
number_of (refused k) = k
number_of (made a) = 0

-- the number n, and each slice at entry and at exit, of a list answer: the result's bytes over what was there, none of a refusal
pub record ListReturns (x : Outcome (List Row)) (n : ℕ) (o o' r r' v v' e e' c c' : List ℕ) : Type 0 where
  pub number : n ≡ number_of x
  pub offsets : o' ≡ after (λ ws. bytes_of4 (form_offsets ws)) x o
  pub rows : r' ≡ after form_rows x r
  pub values : v' ≡ after (λ ws. bytes_of8 (form_values (flat ws))) x v
  pub elements : e' ≡ after (λ ws. form_elements (flat ws)) x e
  pub counts : c' ≡ after (λ ws. bytes_of_counts (list_counts ws)) x c

-- the same of a value answer
pub record ValueReturns (x : Outcome (List Elem)) (n : ℕ) (v v' r r' c c' : List ℕ) : Type 0 where
  pub number : n ≡ number_of x
  pub values : v' ≡ after (λ es. bytes_of8 (form_values es)) x v
  pub rows : r' ≡ after form_elements x r
  pub counts : c' ≡ after (λ es. bytes_of_counts (value_counts es)) x c

-- ---- the contracts

-- the same of slices, f being what the call comes to for the lengths lent in numbers: the number returned, the outputs and the counts
abbrev pub ListReturned : (Room → Outcome (List Row)) → ℕ → MutSlice ℕ → MutSlice ℕ → MutSlice ℕ → MutSlice ℕ → MutSlice ℕ → Type 0
ListReturned f n o r v e c =
    ListReturns (f (bytes_room o r v e)) n
    o.entry.now o.exit.now r.entry.now r.exit.now v.entry.now v.exit.now e.entry.now e.exit.now c.entry.now c.exit.now

abbrev pub ValueReturned : (ValueRoom → Outcome (List Elem)) → ℕ → MutSlice ℕ → MutSlice ℕ → MutSlice ℕ → Type 0
ValueReturned f n v r c = ValueReturns (f (bytes_value_room v r)) n v.entry.now v.exit.now r.entry.now r.exit.now c.entry.now c.exit.now

-- an entry with a list answer: f is what the operation comes to, k the refusal of the sizes
abbrev pub ListAnswered : Lent (Room → Outcome (List Row)) → ℕ → ℕ → MutSlice ℕ → MutSlice ℕ → MutSlice ℕ → MutSlice ℕ → MutSlice ℕ → Type 0
ListAnswered f k n o r v e c = ListReturned (entered f k) n o r v e c

-- the same, ss being the slices of numbers that the entry reads
abbrev pub ListEntry : Lent (Room → Outcome (List Row)) → List Numbers → ℕ → MutSlice ℕ → MutSlice ℕ → MutSlice ℕ → MutSlice ℕ → MutSlice ℕ → Type 0
ListEntry f ss n o r v e c = ListAnswered f (size_refusal (ss ++ list_sizes (mut_size o) (mut_size v)) (mut_size c) 32) n o r v e c

-- an entry with a value answer, the same
abbrev pub ValueEntry : Lent (ValueRoom → Outcome (List Elem)) → List Numbers → ℕ → MutSlice ℕ → MutSlice ℕ → MutSlice ℕ → Type 0
ValueEntry f ss n v r c =
    ValueReturned (entered f (size_refusal (ss ++ value_sizes (mut_size v)) (mut_size c) 16)) n v r c
