-- How a clause names what the argument columns of a slice hold, and the bits that are read ahead: a `requires` says `slice_in s`, an `ensures`
-- says `slice_in s.entry`.
use Rattle.std.specs.Prelude.{ℕ, ◌≡◌, Bool}
use Rattle.std.specs.Option.{option_map}
use Rattle.model.specs.Basics.{tab}
use Rattle.column.specs.Columns.{values_in}
use Rattle.bit_words.specs.Words.{low_bits}
use Rattle.slice_rows.specs.Sliced.{SliceArguments}
use Rattle.slice_rows.specs.declared.SliceColumns.{SliceColumns}
use Rattle.slice_rows.specs.declared.validity.NextBits.{NextBits}

abbrev pub slice_in : SliceColumns → SliceArguments
slice_in s = record { from = values_in s.from; to = values_in s.to; stride = option_map values_in s.stride }

-- the bits that are read ahead are those of the rows from row r on
pub record Held (valid : ℕ → Bool) (r : ℕ) (b : NextBits) : Type 0 where
  pub bits : low_bits b.word b.known ≡ tab valid r b.known
