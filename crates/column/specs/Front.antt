-- The column at the front of slices that hold more.
use Rattle.std.specs.Prelude.{ℕ, ◌+◌, ◌≤◌, List, ℤ, length, take}
use Rattle.model.specs.Bitmap.{from, bytes_for}
use Rattle.model.specs.Column.{Column, column}
use Rattle.column.specs.Put.{Readable}

-- n rows of m elements
abbrev pub front : List ℤ → List ℕ → List ℤ → List ℕ → ℕ → ℕ → Column
front o r v e n m = column (take (n + 1) o) (from 0 (take (bytes_for n) r)) (take m v) (from 0 (take (bytes_for m) e))

pub record AtFront (n m : ℕ) (o : List ℤ) (r : List ℕ) (v : List ℤ) (e : List ℕ) : Type 0 where
  pub offsets : n + 1 ≤ length o
  pub rows : bytes_for n ≤ length r
  pub values : m ≤ length v
  pub elements : bytes_for m ≤ length e
  pub formed : Readable (front o r v e n m)
