-- For the caller: a number that fits is read as it was written.
use mathlib.Core.Path.{◌≡◌}
use lib.IntN.{ℤ}
use mir.Syntax.{Width}
use mir.Val.{SFits, to_z, of_z}
use mir.Facts.{to_z-of_z}

pub read_back : (w : Width) (z : ℤ) → SFits w z → to_z w (of_z w z) ≡ z
read_back w z f = to_z-of_z {w = w} f
