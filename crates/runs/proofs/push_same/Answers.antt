use Rattle.std.proofs.Common.{◌≡◌, ◌+◌, ◌-◌, ◌*◌, ◌/◌, ◌%◌, arith}
use Rattle.runs.proofs.SameLaws.{push_then}
use Rattle.runs.proofs.push_same.Goals as goal

pub returns : goal.returns
returns c =
    let at = c.args.at in
    let e : 8 * (at / 8 + 1) ≡ at + (8 - at % 8) = omega (arith, c.if-at-eq0.false) in
    rw (c.push_bytes-2.ensures, c.push_within-2.ensures) (push_then c.args.on _ at c.args.n (8 - at % 8) (at / 8 + 1) e (omega arith))
