use Rattle.std.proofs.Common.{ℕ, zero, suc, ◌≡◌, ◌<◌, ◌^◌, refl, ℤ, pos, negsuc, arith}
use borrow.Author.Tests.{lt-ltb}
use Rattle.std.specs.Int.{int_max}
use lib.IntN.{nat_abs}
use lib.Signed.{mag}
use mir.Syntax.{w64}
use mir.Val.{to_z, of_z}
use Rattle.model.specs.Column.{count}
use Rattle.model.proofs.SignedLaws.{back64}
use Rattle.column.proofs.offsets.count.Goals as goal

positive : (n : ℕ) → int_max (pos (suc n)) (pos 0) ≡ pos (suc n)
positive n = rw (lt-ltb 0 (suc n) (omega arith)) refl

counted : (x m : ℤ) → mag x < 2 ^ 63 → m ≡ int_max x (pos 0) → nat_abs (to_z w64 (of_z w64 m)) ≡ count x
unfolding count
counted (pos zero) m g e = rw e refl
counted (pos (suc n)) m g e = rw (e, positive n, back64 (pos (suc n)) g) refl
counted (negsuc n) m g e = rw e refl

pub returns : goal.returns
returns c = counted c.args.x c.max.result c.ranges.x.sfits (rw (back64 c.args.x c.ranges.x.sfits) at c.max.ensures.value)
