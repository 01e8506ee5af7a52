-- The columns that lie as bytes: a `requires` says `decoded_in list`, an `ensures` says `decoded_in list.entry`.
use Rattle.std.specs.Prelude.{ℕ, List, length, ◌++◌}
use Rattle.model.specs.Column.{Column, column, Arguments, arguments}
use Rattle.bitmap.specs.Reads.{bits_in}
use Rattle.wire.specs.Bytes.{ints4, ints8}
use Rattle.entry.specs.declared.inputs.ListBytes.{ListBytes}
use Rattle.entry.specs.declared.inputs.ValueBytes.{ValueBytes}

abbrev pub decoded_in : ListBytes → Column
decoded_in l = column (ints4 l.offsets.now) (bits_in l.rows) (ints8 l.values.now) (bits_in l.elements)

abbrev pub decoded_values_in : ValueBytes → Arguments
decoded_values_in v = arguments (ints8 v.values.now) (bits_in v.bits)
