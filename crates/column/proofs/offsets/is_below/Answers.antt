use Rattle.std.proofs.Common.{ℕ, ◌≡◌, false, refl, ℤ, pos, negsuc}
use mathlib.Core.Path.{subst}
use lib.Signed.{lt_z}
use lib.Dec.{T, ltb}
use Rattle.model.specs.Column.{count}
use Rattle.model.proofs.SignedLaws.{back64}
use Rattle.column.proofs.offsets.is_below.Goals as goal

counted : (x : ℤ) (v : ℕ) → lt_z x (pos 0) ≡ false → ltb (count x) v ≡ lt_z x (pos v)
unfolding count
counted (pos n) v h = refl
counted (negsuc n) v h = absurd (subst T h tt)

pub returns-else-x-lt0 : goal.returns-else-x-lt0
returns-else-x-lt0 c =
    let e = back64 c.args.x c.ranges.x.sfits in
    let h = rw e at c.count.ensures in
    rw h (counted c.args.x c.args.v (rw e at c.if-x-lt0.false))
