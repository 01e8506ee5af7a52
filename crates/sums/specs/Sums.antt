-- The sum of resize's counts, and the elements that a call makes.
use Rattle.rows.specs.Cells.{Cell}
use Rattle.std.specs.Prelude.{Result, Ok, Err, None, Some, ℕ, Bool, true, false}
use Rattle.model.specs.Answers.{number_of}
use Rattle.model.specs.declared.Refusal.{Refusal}
use Rattle.model.specs.Basics.{tab}
use Rattle.model.specs.Bitmap.{Bits, valid_at}
use Rattle.model.specs.Column.{Arguments}
use Rattle.model.specs.Limits.{Limits}
use Rattle.model.specs.Outcome.{Outcome, refused, made, gate}
use Rattle.model.specs.Refusals.{RowCount, uncounted, counted, Sum, stopped, sum, sum_of, sum_refusal}
use Rattle.arguments.specs.Taken.{taken_at}

-- what a measure tells: how many elements are made, or the refusal before them
unfoldable pub measured : Result ℕ Refusal → Outcome ℕ
measured (Ok n) = made n
measured (Err k) = refused (number_of k)

-- the elements that a measure lets through
unfoldable pub let_through : Result ℕ Refusal → ℕ
let_through (Ok n) = n
let_through (Err k) = 0

-- a row's count, "over rows with list and count valid"
unfoldable pub count_if : Bool → Cell → RowCount
count_if false n = uncounted
count_if true None = uncounted
count_if true (Some n) = counted n

abbrev pub count_at : Bits → Arguments → ℕ → RowCount
count_at rb a r = count_if (valid_at rb r) (taken_at true false a r)

-- the running sum that a measure tells
unfoldable pub summed : Result ℕ Refusal → Sum
summed (Ok n) = sum n
summed (Err k) = stopped (number_of k)

-- resize: 7, or 8 where the running sum passes its bound, by the row; then 8 if the sum exceeds its limit
unfoldable pub last_test : Limits → Sum → Outcome ℕ
last_test L (stopped k) = refused k
last_test L (sum n) = gate (sum_refusal L (sum n)) (made n)

unfoldable pub resize_measure : Limits → Bits → Arguments → ℕ → Outcome ℕ
resize_measure L rb a n = last_test L (sum_of (sum 0) (tab (count_at rb a) 0 n))
