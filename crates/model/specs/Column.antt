-- A list column, an argument column, and what they show.
use Rattle.std.specs.Prelude.{ℕ, ◌+◌, ◌-◌, ◌<◌, ◌≡◌, Bool, true, false, ◌||◌, List, [], ◌∷◌, length, get_or, ℤ, pos, negsuc, ltb}
use Rattle.std.specs.Int.Signed.{lt_z}
use Rattle.model.specs.Basics.{pick, tab}
use Rattle.model.specs.Bitmap.{Bits, valid_at, short_bits}

-- what is shown of an element or an argument: a null or a value
pub data Elem : Type 0 where
  nul : Elem
  val : ℤ → Elem

-- what is shown of a row: a null or a list of elements
pub data Row : Type 0 where
  null_row : Row
  list_row : List Elem → Row

-- "A list column is four slices: signed 32-bit offsets, one more than its rows; a row bitmap; 64-bit signed values; an element bitmap."
-- `rows` is the row bitmap, `elements` the element bitmap.
pub record Column : Type 0 where
  pub offsets : List ℤ
  pub rows : Bits
  pub values : List ℤ
  pub elements : Bits

abbrev pub column : List ℤ → Bits → List ℤ → Bits → Column
column o r v e = record { offsets = o; rows = r; values = v; elements = e }

-- "Argument columns are values and a bitmap."
pub record Arguments : Type 0 where
  pub values : List ℤ
  pub bits : Bits

abbrev pub arguments : List ℤ → Bits → Arguments
arguments v b = record { values = v; bits = b }

-- one less than the offsets, and none of no offsets
abbrev pub row_count : List ℤ → ℕ
row_count o = length o - 1

-- a number as a count: a negative one counts nothing
unfoldable pub count : ℤ → ℕ
count (pos n) = n
count (negsuc n) = 0

-- offset r as a count; one that is not there counts as 0 (no row reads it)
abbrev pub offset_at : List ℤ → ℕ → ℕ
offset_at o r = count (get_or o r (pos 0))

-- element i of the values: "values of null elements" are not shown
unfoldable pub elem_at : List ℤ → Bits → ℕ → Elem
elem_at vs eb i = pick (valid_at eb i) (val (get_or vs i (pos 0))) nul

-- the length of row r
abbrev pub length_at : Column → ℕ → ℕ
length_at c r = offset_at c.offsets (r + 1) - offset_at c.offsets r

-- place i of row r
abbrev pub place_at : Column → ℕ → ℕ → Elem
place_at c r i = elem_at c.values c.elements (offset_at c.offsets r + i)

-- "Row r is the values from offset r up to, not including, offset r+1. .. A null row may cover values; they are not shown"
unfoldable pub row_at : Column → ℕ → Row
row_at c r = pick (valid_at c.rows r) (list_row (tab (elem_at c.values c.elements) (offset_at c.offsets r) (length_at c r))) null_row

-- the rows that a column shows, and nothing else of it
unfoldable pub rows_of : Column → List Row
rows_of c = tab (row_at c) 0 (row_count c.offsets)

-- what an argument column shows
unfoldable pub shown_by : Arguments → List Elem
shown_by a = tab (elem_at a.values a.bits) 0 (length a.values)

-- o is the offset just read and n how many values are lent: some later offset is below the one before it, or the last is above n
unfoldable pub falls : ℤ → List ℤ → ℕ → Bool
falls o [] n = lt_z (pos n) o
falls o (p ∷ ps) n = lt_z p o || falls p ps n

-- "1 (offsets empty, first negative, any falling, or last beyond the values)"; of offsets empty the rules say since: "From now on that is a
-- column of zero rows, and refusal 1 loses this condition."
unfoldable pub bad_offsets : List ℤ → ℕ → Bool
bad_offsets [] n = false
bad_offsets (o ∷ os) n = lt_z o (pos 0) || falls o os n

abbrev pub refusal1 : Column → Bool
refusal1 c = bad_offsets c.offsets (length c.values)

-- "Each list, ListView and argument column now carries a starting bit, 0 to 7, for each of its bitmaps. .. 13, a
-- starting bit over 7": the bit alone decides, also beside a bitmap of length 0
abbrev pub over_seven : Bits → Bool
over_seven b = ltb 7 b.start

unfoldable pub refusal13 : Column → Bool
refusal13 c = over_seven c.rows || over_seven c.elements

unfoldable pub refusal13ᵃ : Arguments → Bool
refusal13ᵃ a = over_seven a.bits

-- "2 (a non-empty bitmap too short for its rows, or for all the values lent)"; "Coverage in 2 counts from there", the starting bit
unfoldable pub refusal2 : Column → Bool
refusal2 c = short_bits c.rows (row_count c.offsets) || short_bits c.elements (length c.values)

unfoldable pub refusal2ᵃ : Arguments → Bool
refusal2ᵃ a = short_bits a.bits (length a.values)

-- "A list or argument column is well-formed when neither 1 nor 2 below applies to it.", and "a column with one", a starting bit over 7,
-- "is not well-formed"
pub record WellFormed (c : Column) : Type 0 where
  pub not13 : refusal13 c ≡ false
  pub not1 : refusal1 c ≡ false
  pub not2 : refusal2 c ≡ false

pub record WellFormedᵃ (a : Arguments) : Type 0 where
  pub not13 : refusal13ᵃ a ≡ false
  pub not2 : refusal2ᵃ a ≡ false

-- "Columns with equal rows but other starting bits answer alike in two runs.": neither of the two below speaks of starting bits
-- "Two columns show equal rows when they have equally many rows, the same rows are null, and every other row has one length in
-- both and at each place a null in both or the same value."
pub record EqualRows (c d : Column) : Type 0 where
  pub many : row_count c.offsets ≡ row_count d.offsets
  pub nulls : (r : ℕ) → r < row_count c.offsets → valid_at c.rows r ≡ valid_at d.rows r
  pub lengths : (r : ℕ) → r < row_count c.offsets → valid_at c.rows r ≡ true → length_at c r ≡ length_at d r
  pub places : (r i : ℕ) → r < row_count c.offsets → valid_at c.rows r ≡ true → i < length_at c r → place_at c r i ≡ place_at d r i

-- "Arguments are equal when .. their columns have equally many values, the same ones null, and the other values the same."
pub record EqualArguments (a b : Arguments) : Type 0 where
  pub many : length a.values ≡ length b.values
  pub nulls : (i : ℕ) → i < length a.values → valid_at a.bits i ≡ valid_at b.bits i
  pub values : (i : ℕ) → i < length a.values → valid_at a.bits i ≡ true → get_or a.values i (pos 0) ≡ get_or b.values i (pos 0)
