use Rattle.std.proofs.Common.{◌≡◌, zero, suc, ◌^◌, ◌<◌, ℤ, pos, negsuc, arith}
use Rattle.std.specs.Int.{int_max}
use borrow.Author.Tests.{lt-ltb}
use lib.IntN.{nat_abs}
use lib.Signed.{mag}
use Rattle.model.proofs.SignedLaws.{back64}
use Rattle.model.specs.Column.{count}
use Rattle.rows.proofs.utils.limit_of.Goals as goal

fitting : (z r : ℤ) → mag z < 2 ^ 63 → r ≡ int_max z (pos 0) → mag r < 2 ^ 63
fitting (pos zero) r g e = rw e g
fitting (pos (suc n)) r g e = rw (e, lt-ltb 0 (suc n) (omega arith)) g
fitting (negsuc n) r g e = rw e (omega arith)

most : (z r : ℤ) → r ≡ int_max z (pos 0) → nat_abs r ≡ count z
unfolding count
most (pos zero) r e = rw e
most (pos (suc n)) r e = rw (e, lt-ltb 0 (suc n) (omega arith))
most (negsuc n) r e = rw e

pub returns : goal.returns
returns c =
    let e = rw (back64 _ c.ranges.n.sfits) at c.max.ensures.value in
    rw (back64 _ (fitting c.args.n c.max.result c.ranges.n.sfits e)) (most c.args.n c.max.result e)
