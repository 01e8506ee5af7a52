-- Which of two lists' refusals comes first.
use Rattle.std.specs.Prelude.{ℕ, ◌||◌, eqb}
use Rattle.model.specs.Basics.{pick}

-- 13 of either, else 1 of either, else 2 of either, else 0
abbrev pub earlier : ℕ → ℕ → ℕ
earlier j k = pick (eqb j 13 || eqb k 13) 13 (pick (eqb j 1 || eqb k 1) 1 (pick (eqb j 2 || eqb k 2) 2 0))
