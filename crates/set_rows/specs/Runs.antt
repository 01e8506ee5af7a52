-- How a clause names the elements of a run, and those of a row.
use Rattle.std.specs.Prelude.{ℕ, List}
use Rattle.model.specs.Basics.{tab}
use Rattle.model.specs.Column.{Elem, Column, elem_at, offset_at, length_at}
use Rattle.column.specs.Columns.{elems_in}
use Rattle.column.specs.Outputs.{ReadableElems}
use Rattle.set_rows.specs.declared.runs.Run.{Run}

abbrev pub run_elems : Run → List Elem
run_elems s = elems_in s.column s.from s.count

-- the elements of the run are there to be read
abbrev pub ReadableRun : Run → Type 0
ReadableRun s = ReadableElems s.column s.from s.count

-- the elements of row r, whether it is valid or not
abbrev pub row_elems : Column → ℕ → List Elem
row_elems c r = tab (elem_at c.values c.elements) (offset_at c.offsets r) (length_at c r)
