-- How often each row is repeated, and the sums that refusal 8 looks at.
use Rattle.std.specs.Prelude.{ℕ, ℤ, List, ◌+◌, ◌*◌, ◌<◌, ◌≤◌, ◌≡◌, ◌||◌, length, ltb, Result, Ok, Err}
use Rattle.model.specs.Basics.{pick, tab}
use Rattle.model.specs.Column.{Column, Arguments, elem_at, row_count, offset_at}
use Rattle.model.specs.Limits.{Limits}
use Rattle.model.specs.Refusals.{times_of, total}
use Rattle.bitmap.specs.Push.{Covers}
use Rattle.column.specs.Put.{Readable}
use Rattle.column.specs.Rows.{len_from}
use Rattle.repeat_sums.specs.declared.Sums.{Sums}
use Rattle.model.specs.declared.Refusal.{Refusal}
use Rattle.model.specs.declared.Refusal.TheVariants.{TooMany}

-- 13, 1, 2 and 3 have passed: the list can be read, and so can a count for each row
pub record Begun (c : Column) (a : Arguments) : Type 0 where
  pub list : Readable c
  pub bits : Covers a.bits (length a.values)
  pub equal : length a.values ≡ row_count c.offsets

-- no offset is below the one before it
pub record Rising (o : List ℤ) : Type 0 where
  pub step : (r : ℕ) → r < row_count o → offset_at o r ≤ offset_at o (r + 1)

-- what the sums look at can be read: offsets that don't fall, and a bit and a count for each row; no values and no bits of elements
pub record Countable (c : Column) (a : Arguments) : Type 0 where
  pub rising : Rising c.offsets
  pub rows : Covers c.rows (row_count c.offsets)
  pub bits : Covers a.bits (length a.values)
  pub equal : length a.values ≡ row_count c.offsets

-- how often row r is repeated
unfoldable pub times_at : Arguments → ℕ → ℕ
times_at a r = times_of (elem_at a.values a.bits r)

-- how many values that repeats: "null lists of no values"
unfoldable pub repeated_at : Column → Arguments → ℕ → ℕ
repeated_at c a r = times_at a r * len_from c.rows r (offset_at c.offsets r) (offset_at c.offsets (r + 1))

-- "8 if the outer lists, or the values they repeat, exceed" their limits
unfoldable pub sums : Limits → ℕ → ℕ → Result Sums Refusal
sums L t v = pick (ltb L.outer t || ltb L.repeated v) (Err TooMany) (Ok (record { lists = t; values = v }))

unfoldable pub sums_of : Limits → Column → Arguments → Result Sums Refusal
sums_of L c a = sums L (total (tab (times_at a) 0 (row_count c.offsets))) (total (tab (repeated_at c a) 0 (row_count c.offsets)))
