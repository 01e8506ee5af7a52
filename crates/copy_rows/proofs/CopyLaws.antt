-- Laws of a column copied into result form: one row, and the rows by the code's count of them.
use mathlib.Core.Path.{◌≡◌, sym}
use Prim.Native.Nat.{ℕ, ◌+◌, ◌-◌, ◌≤◌, ◌<◌}
use native.Mathlib.Omega.{arith}
use lib.ListN.{length}
use Rattle.model.specs.Basics.{tab}
use Rattle.model.specs.Column.{Column, elem_at, offset_at, row_at, rows_of, row_count}
use Rattle.model.specs.Form.{elems_of, flat}
use Rattle.model.proofs.TabLaws.{length-tab}
use Rattle.column.specs.Put.{Readable, RoomInˡ}
use Rattle.column.specs.Rows.{len_from}
use Rattle.column.proofs.RowLaws.{elems_from, len_from_le}
use Rattle.column.proofs.WalkLaws.{Summing, between, row_from_lem, sum_more}

-- row r between two counts that are its offsets
pub length_at : (c : Column) (r a b k : ℕ) → a ≡ offset_at c.offsets r → b ≡ offset_at c.offsets (r + 1) → k ≡ len_from c.rows r a b → k ≡ length (elems_of (row_at c r))
length_at c r a b k ea eb e =
    let E = elem_at c.values c.elements in
    rw (← row_from_lem c r a b ea eb, elems_from c.rows r a b E, length-tab E a (len_from c.rows r a b)) e

-- the rows, counted by the code's n
module _ (c : Column) (n : ℕ) (e : n ≡ row_count c.offsets) where
  pub rows_at : tab (row_at c) 0 n ≡ rows_of c
  unfolding rows_of
  rows_at = rw e

  pub room_at : {lo lo' lr lv le : ℕ} → RoomInˡ (row_count c.offsets) (length (flat (rows_of c))) lo lr lv le → lo' ≡ lo → RoomInˡ n (length (flat (tab (row_at c) 0 n))) lo' lr lv le
  room_at h q = rw (q, rows_at, e) h

-- what was found, after one row more
pub sum_row : (c : Column) (n large : ℕ) → Readable c → n ≡ row_count c.offsets → {found r a b k : ℕ} → Summing (row_at c) n (offset_at c.offsets r) large found r (n - r) → r < n
    → a ≡ offset_at c.offsets r → b ≡ offset_at c.offsets (r + 1) → b ≤ large → k ≡ len_from c.rows r a b → Summing (row_at c) n (offset_at c.offsets (r + 1)) large (found + k) (r + 1) (n - (r + 1))
sum_row c n large w q {r = r} {a = a} {b = b} {k = k} s h ea eb t e =
    let p = between c n r a b w q h ea eb in
    let z : n - (r + 1) ≡ n - r - 1 = omega arith in
    rw (z, ← eb)
    (sum_more (row_at c) n large k a b s (omega arith) (length_at c r a b k ea eb e) (omega (arith, e, len_from_le c.rows r a b p.rises)) p.rises (sym ea) t)
