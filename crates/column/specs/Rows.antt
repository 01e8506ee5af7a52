-- One row between two counts, whatever the width of the offsets that the counts come from.
use Rattle.std.specs.Prelude.{ℕ, ◌+◌, ◌-◌, ◌≤◌, ◌<◌, ◌≡◌, List, length, ℤ}
use Rattle.model.specs.Basics.{pick, tab}
use Rattle.model.specs.Bitmap.{Bits, valid_at, bytes_for}
use Rattle.model.specs.Column.{Elem, Row, null_row, list_row}
use Rattle.model.specs.Form.{elems_of, is_row}
use Rattle.bitmap.specs.Push.{Covers, push_bit}
use Rattle.column.specs.Put.{put_values, put_elements}

-- row r, whose elements lie between a and b
unfoldable pub row_from : Bits → (ℕ → Elem) → ℕ → ℕ → ℕ → Row
row_from rb E r a b = pick (valid_at rb r) (list_row (tab E a (b - a))) null_row

-- the number of elements that it shows
unfoldable pub len_from : Bits → ℕ → ℕ → ℕ → ℕ
len_from rb r a b = pick (valid_at rb r) (b - a) 0

-- what reading row r of n asks
pub record ReadableRowˡ (rb : Bits) (n : ℕ) (vs : List ℤ) (eb : Bits) (r a b : ℕ) : Type 0 where
  pub there : r < n
  pub rises : a ≤ b
  pub inside : b ≤ length vs
  pub rows : Covers rb n
  pub elements : Covers eb (length vs)

-- room for row w after r rows and at elements
pub record RoomForRowˡ (w : Row) (r at lr lv le : ℕ) : Type 0 where
  pub rows : bytes_for (r + 1) ≤ lr
  pub values : at + length (elems_of w) ≤ lv
  pub elements : bytes_for (at + length (elems_of w)) ≤ le

-- row w was written after r rows and at elements, but for its offset
pub record WritesRowˡ (w : Row) (r at : ℕ) (ro ro' : List ℕ) (vo vo' : List ℤ) (eo eo' : List ℕ) (k : ℕ) : Type 0 where
  pub rows : ro' ≡ push_bit ro r (is_row w)
  pub values : vo' ≡ put_values vo at (elems_of w)
  pub elements : eo' ≡ put_elements eo at (elems_of w)
  pub place : k ≡ at + length (elems_of w)
