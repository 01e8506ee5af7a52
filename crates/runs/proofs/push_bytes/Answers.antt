use Rattle.std.proofs.Common.{arith}
use Rattle.runs.proofs.SameLaws.{bytes_only, bytes_then}
use Rattle.runs.proofs.push_bytes.Goals as goal

pub returns-then-last-gt0 : goal.returns-then-last-gt0
returns-then-last-gt0 c =
    rw (c.put_bytes.ensures, c.byte_of.ensures, c.low_bits.ensures) (bytes_then c.args.on c.args.n _ c.args.k (omega (arith, c.requires)) (λ z. omega arith))

pub returns-else-last-gt0 : goal.returns-else-last-gt0
returns-else-last-gt0 c =
    rw (c.put_bytes.ensures, c.byte_of.ensures) (bytes_only c.args.on c.args.n _ c.args.k (omega (arith, c.requires)) (omega arith))
