-- A recipe's limits over numbers: from the largest offset, `most`, the first list's row bitmap, the number of rows, the arguments and the
-- second list's shown elements.
use Rattle.std.specs.Prelude.{ℕ, ◌+◌, ◌*◌, ◌≤◌, ◌<◌, max, min, ◌≡◌, List, [], ◌∷◌, eqb, length}
use Rattle.model.specs.Basics.{pick, tab}
use Rattle.model.specs.Bitmap.{Bits, valid_at}
use Rattle.model.specs.Column.{Arguments, elem_at}
use Rattle.model.specs.Lengths.{TrayLimits, tray_limits}
use Rattle.model.specs.Recipe.{Step, step_at}
use Rattle.model.specs.Refusals.{times_of, total}
use Rattle.model.specs.declared.TrayElements.{TrayElements}
use Rattle.bitmap.specs.Push.{Covers}
use Rattle.bitmap.specs.Reads.{bits_in}
use Rattle.recipe_limits.specs.declared.limits.Measured.{Measured}

-- "its valid counts above zero over rows valid in the first list": row r's, of the column that begins at value a
unfoldable pub count_at : Bits → Arguments → ℕ → ℕ → ℕ
count_at b e a r = pick (valid_at b r) (times_of (elem_at e.values e.bits (a + r))) 0

unfoldable pub counts_from : Bits → Arguments → ℕ → ℕ → ℕ
counts_from b e a n = total (tab (count_at b e a) 0 n)

-- "resize by the sum of its valid counts above zero over rows valid in the first list, union by adding the second list's shown elements, other
-- steps by what came in; a limit stops at the largest offset": a step's, from its code and its first column's number
unfoldable pub limit_at : ℕ → Bits → ℕ → Arguments → ℕ → ℕ → ℕ → ℕ → ℕ
limit_at most b n e second code first came = min most (pick (eqb code 6) (counts_from b e (first * n) n) (pick (eqb code 9) (came + second) came))

-- "Steps 1, 3, 5.. write tray one, 2, 4, 6.. tray two, the last the output": from s on
unfoldable pub limits_from : ℕ → Bits → ℕ → Arguments → ℕ → Step → List Step → ℕ → TrayLimits
limits_from most b n e second s [] came = tray_limits 0 0 (limit_at most b n e second s.code s.first came)
limits_from most b n e second s (t ∷ ts) came =
    let m = limit_at most b n e second s.code s.first came in
    let later = limits_from most b n e second t ts m in
    tray_limits (max m later.two) later.one later.output

-- the bitmaps that counts are read by reach all rows and all arguments
pub record Covered (m : Measured) : Type 0 where
  pub rows : Covers (bits_in m.rows) m.row_count
  pub bits : Covers (bits_in m.arguments.bits) (length m.arguments.values.now)

-- the column of a step that resizes is there
abbrev pub Counted : Step → ℕ → ℕ → Type 0
Counted s n len = s.code ≡ 6 → s.first * n + n ≤ len

-- left steps from step k on are there, with the columns of those that resize
pub record StepsThere (numbers : List ℕ) (n len k left : ℕ) : Type 0 where
  pub some : 0 < left
  pub there : 4 * (k + left) ≤ length numbers
  pub counted : (j : ℕ) → j < left → Counted (step_at numbers (k + j)) n len

-- the limits that the code answers
abbrev pub limits_in : TrayElements → TrayLimits
limits_in t = tray_limits t.one t.two t.output
