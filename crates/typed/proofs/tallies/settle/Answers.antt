-- 100, or the answer told and the tally put.
use mathlib.Core.Path.{sym, ◌∙◌}
use lib.ListN.{length}
use Rattle.typed.proofs.RecipeLaws.{short-told, long-told, short-tally, long-tally, long_enough}
use Rattle.typed.proofs.tallies.settle.Goals as goal

pub returns-then-is_short : goal.returns-then-is_short
returns-then-is_short c =
    let b = sym c.is_short.ensures ∙ c.if-is_short.true in
    record { told = short-told _ _ b; tally = short-tally _ _ _ b }

pub put_tally-requires : goal.put_tally-requires
put_tally-requires c =
    let a = c.args in
    (long_enough (length a.counts.now) (length a.tally.now) (sym c.is_short.ensures ∙ c.if-is_short.false)).1

pub put_list-requires : goal.put_list-requires
put_list-requires c =
    let a = c.args in
    (long_enough (length a.counts.now) (length a.tally.now) (sym c.is_short.ensures ∙ c.if-is_short.false)).0

pub returns : goal.returns
returns c =
    let b = sym c.is_short.ensures ∙ c.if-is_short.false in
    record { told = long-told _ _ b c.put_list.ensures; tally = long-tally _ _ b c.put_tally.ensures }
