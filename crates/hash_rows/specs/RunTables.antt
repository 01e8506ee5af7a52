-- How a clause names the table of a run's elements.
use Rattle.std.specs.Prelude.{ℕ, List}
use Rattle.column.specs.Columns.{elem_in}
use Rattle.hash_tables.specs.Table.{Table}
use Rattle.set_rows.specs.declared.runs.Run.{Run}

-- the table from slot o on has the first k elements
abbrev pub RunTable : Run → ℕ → ℕ → List ℕ → Type 0
RunTable s k o t = Table (elem_in s.column) s.from s.count k o t
