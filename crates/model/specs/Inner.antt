-- How a contract names the columns in its slices, with the bits that their bitmaps begin at. A `requires` names a
-- slice as it is then, `now`; an `ensures` as the call began, `lent`.
use Rattle.std.specs.Prelude.{ℕ, List, ℤ}
use Rattle.std.specs.Borrow.{Bor}
use Rattle.model.specs.Basics.{tab}
use Rattle.model.specs.Bitmap.{Bits, from}
use Rattle.model.specs.Column.{Elem, Column, column, Arguments, arguments, elem_at}
use Rattle.model.specs.Contract.{Slice}

abbrev pub now_bits : Bor (List ℕ) → ℕ → Bits
now_bits b i = from i b.now

abbrev pub lent_bits : Slice ℕ → ℕ → Bits
lent_bits b i = now_bits b.entry i

-- offsets, row bitmap and its first bit, values, element bitmap and its first bit
abbrev pub now_column : Bor (List ℤ) → Bor (List ℕ) → ℕ → Bor (List ℤ) → Bor (List ℕ) → ℕ → Column
now_column o r i v e j = column o.now (now_bits r i) v.now (now_bits e j)

abbrev pub lent_from : Slice ℤ → Slice ℕ → ℕ → Slice ℤ → Slice ℕ → ℕ → Column
lent_from o r i v e j = now_column o.entry r.entry i v.entry e.entry j

-- values, bitmap and its first bit
abbrev pub now_arguments : Bor (List ℤ) → Bor (List ℕ) → ℕ → Arguments
now_arguments v b i = arguments v.now (now_bits b i)

abbrev pub lent_arguments_from : Slice ℤ → Slice ℕ → ℕ → Arguments
lent_arguments_from v b i = now_arguments v.entry b.entry i

-- the element at a place
abbrev pub now_elem : Bor (List ℤ) → Bor (List ℕ) → ℕ → ℕ → Elem
now_elem v e j = elem_at v.now (now_bits e j)

abbrev pub lent_elem : Slice ℤ → Slice ℕ → ℕ → ℕ → Elem
lent_elem v e j = now_elem v.entry e.entry j

-- the n elements from place a on
abbrev pub now_elems : Bor (List ℤ) → Bor (List ℕ) → ℕ → ℕ → ℕ → List Elem
now_elems v e j a n = tab (now_elem v e j) a n

abbrev pub lent_elems : Slice ℤ → Slice ℕ → ℕ → ℕ → ℕ → List Elem
lent_elems v e j a n = now_elems v.entry e.entry j a n
