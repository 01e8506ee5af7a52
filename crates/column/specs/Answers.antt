-- The answers as they are counted in the bitmaps written.
use Rattle.std.specs.Prelude.{Ok, ℕ, ◌-◌, List}
use Rattle.model.specs.Basics.{tab}
use Rattle.model.specs.Bitmap.{bit_at}
use Rattle.bitmap.specs.Push.{trues}
use Rattle.model.specs.Answers.{ListAnswer, ValueAnswer}

-- how many of the first n bits are 0
abbrev pub unset : List ℕ → ℕ → ℕ
unset bm n = n - trues (tab (bit_at bm) 0 n)

unfoldable pub list_answer_from : List ℕ → ℕ → List ℕ → ℕ → ListAnswer
list_answer_from rb n eb m = Ok (record { rows = n; elements = m; null_rows = unset rb n; null_elements = unset eb m })

unfoldable pub value_answer_from : List ℕ → ℕ → ValueAnswer
value_answer_from rb n = Ok (record { rows = n; null_rows = unset rb n })
