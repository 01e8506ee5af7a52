-- 32-bit offsets, which are the only ones beside a work area.
use Rattle.std.specs.Prelude.{List, ℤ}

-- the numbers that they are
abbrev pub narrow_numbers : List ℤ → List ℤ
narrow_numbers o = o
