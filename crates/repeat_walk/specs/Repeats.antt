-- What list-repeat makes of a column and its counts, by the column's rows.
use Rattle.std.specs.Prelude.{ℕ, ◌+◌, ◌≤◌, ◌≡◌, List, [], ◌∷◌, length, Ok}
use Rattle.model.specs.Basics.{pick, tab}
use Rattle.model.specs.Bitmap.{bytes_for}
use Rattle.model.specs.Column.{Column, Arguments, elem_at, row_at, rows_of, shown_by, row_count}
use Rattle.model.specs.Form.{Outer, RepeatRoom, inner, flat}
use Rattle.model.specs.Lengths.{room_for}
use Rattle.model.specs.Limits.{Limits}
use Rattle.model.specs.Outcome.{columns_refusal}
use Rattle.model.specs.Refusals.{or_else, differs}
use Rattle.model.specs.Rows.{repeat_of}
use Rattle.column.specs.Answers.{unset}
use Rattle.model.specs.Answers.{RepeatAnswer}
use Rattle.repeat_sums.specs.declared.Sums.{Sums}

abbrev pub repeat_at : Column → Arguments → ℕ → Outer
repeat_at c a r = repeat_of (row_at c r) (elem_at a.values a.bits r)

unfoldable pub repeat_rows : Column → Arguments → List Outer
repeat_rows c a = tab (repeat_at c a) 0 (row_count c.offsets)

-- what the result form of so many outer rows, lists and elements needs
abbrev pub room_for_outer : ℕ → ℕ → ℕ → RepeatRoom
room_for_outer n lists m = record { outer-offsets = n + 1; outer_rows = bytes_for n; lists = room_for lists m }

-- 13, 1 and 2, then 3: all that comes before the sums
unfoldable pub early_repeat : Column → Arguments → ℕ
early_repeat c a = or_else (columns_refusal (c ∷ []) (a ∷ [])) (pick (differs (length (rows_of c)) (shown_by a)) 3 0)

-- the sums are those of the outer rows os, and stand within their limits
pub record Sized (L : Limits) (os : List Outer) (s : Sums) : Type 0 where
  pub lists : s.lists ≡ length (inner os)
  pub values : s.values ≡ length (flat (inner os))
  pub few : s.lists ≤ L.outer
  pub small : s.values ≤ L.repeated

-- the answer, its nulls counted in the bitmaps written
unfoldable pub repeat_answer_from : List ℕ → ℕ → List ℕ → ℕ → List ℕ → ℕ → RepeatAnswer
repeat_answer_from rb n ib lists eb m = Ok (record { rows = n; elements = m; null_rows = unset rb n; null_elements = unset eb m; inner_rows = lists; null_inner_rows = unset ib lists })
