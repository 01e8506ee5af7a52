-- The finished counts at the front, the refused ones behind them.
use Prim.Native.Nat.{ℕ, ◌*◌}
use mathlib.Core.Path.{◌≡◌, ap, ◌∙◌}
use native.Mathlib.Omega.{arith}
use lib.ListN.{length}
use Rattle.wire.specs.Bytes.{bytes_of_counts}
use Rattle.wire.proofs.Lengths.{length-bytes_of_counts}
use Rattle.tally_bytes.proofs.TallyLaws.{behind}
use borrow.Author.Rules.{rules}
use Rattle.tally_bytes.proofs.put_tally.Goals as goal

pub returns : goal.returns
returns c =
    let a = c.args in
    let f : length a.tally.finished ≡ 16 = search rules in
    let k = c.encode.auto.d in
    behind (bytes_of_counts a.tally.finished) (bytes_of_counts a.tally.refused) a.bytes.now c.encode.new.d c.encode-2.new.d 128
    (length-bytes_of_counts a.tally.finished ∙ ap (λ (n : ℕ). n * 8) f) (omega (arith, k, c.requires)) c.encode.ensures c.encode-2.ensures
