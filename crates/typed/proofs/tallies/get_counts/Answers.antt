-- The loop reads counts (wire, proofs/Reading.antt).
use Rattle.std.proofs.Common.{sym, ◌∙◌, arith}
use Rattle.model.specs.Basics.{tab}
use Rattle.model.proofs.TabLaws.{length-tab}
use Rattle.wire.proofs.Reading.{begun, turned, done}
use Rattle.wire.proofs.Writing.{whole}
use Rattle.typed.specs.Tallies.{counts_at}
use Rattle.typed.proofs.tallies.get_counts.Invariants.{count}
use Rattle.typed.proofs.tallies.get_counts.Goals as goal

pub loop-i-init : goal.loop-i-init
loop-i-init c = begun (count c.args.s.now c.args.at) _ _

pub loop-i-preserved : goal.loop-i-preserved
unfolding count
loop-i-preserved c = let a = c.args in turned (count a.s.now a.at) _ _ _ _ _ c.loop-i.invariant (omega arith) (omega arith) c.count_at.ensures

pub returns : goal.returns
unfolding counts_at count
returns c =
    let f = count c.args.s.now c.args.at in
    done f _ _ _ _ c.loop-i.invariant (omega arith) ∙ whole (tab f 0 16) _ (sym (length-tab f 0 16))
