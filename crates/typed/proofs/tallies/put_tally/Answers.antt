-- The finished counts at the front, the refused ones behind them.
use Prim.Native.Nat.{ℕ}
use mathlib.Core.Path.{◌≡◌}
use native.Mathlib.Omega.{arith}
use lib.ListN.{length}
use borrow.Author.Rules.{rules}
use Rattle.tally_bytes.proofs.TallyLaws.{behind}
use Rattle.typed.proofs.RecipeLaws.{part_room}
use Rattle.typed.proofs.tallies.put_tally.Goals as goal

pub put_counts-requires : goal.put_counts-requires
put_counts-requires c =
    let f : length c.args.tally.finished ≡ 16 = search rules in
    omega (arith, f, c.requires)

pub put_counts-requires-2 : goal.put_counts-requires-2
put_counts-requires-2 c =
    let r : length c.args.tally.refused ≡ 16 = search rules in
    part_room c.put_counts.new.s (length c.args.tally.refused) r (rw c.put_counts.auto.s c.requires)

pub returns : goal.returns
returns c =
    let a = c.args in
    let f : length a.tally.finished ≡ 16 = search rules in
    let k = c.put_counts.auto.s in
    behind a.tally.finished a.tally.refused a.s.now c.put_counts.new.s c.put_counts-2.new.s 16
    f (omega (arith, k, c.requires)) c.put_counts.ensures c.put_counts-2.ensures
