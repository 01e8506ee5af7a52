use mathlib.Core.Path.{◌≡◌, ap, sym, ◌∙◌}
use Prim.Native.Nat.{◌/◌, ◌≤◌}
use native.Mathlib.Omega.{arith}
use lib.ListN.{length, get_or}
use Rattle.model.specs.Basics.{tab}
use Rattle.model.specs.Form.{over}
use Rattle.wire.proofs.Reading.{begun, turned, done, get_or-first_chunks}
use Rattle.wire.proofs.fill.Goals as goal

pub loop-i-init : goal.loop-i-init
loop-i-init g c = begun _ _ _

pub loop-i-preserved : goal.loop-i-preserved
loop-i-preserved g c =
    let n = g.row.N in
    let s = c.args.s.now in
    let many : length c.as_chunks.result.0.now ≡ length s / n = c.as_chunks.ensures.front_len in
    let room : length s / n ≤ length c.args.d.now = c.requires in
    let here = c.index-parts-i.is ∙ ap (λ ps. get_or ps c.loop-i.i c.index-parts-i.result) c.as_chunks.ensures.front ∙ get_or-first_chunks n (length s / n) s c.loop-i.i c.index-parts-i.result (omega arith) in
    turned _ _ _ _ c.loop-i.i _ c.loop-i.invariant c.loop-i-test.true (omega arith) (c.from_le_bytes.ensures ∙ ap g.T.Number.number_in here)

pub returns : goal.returns
returns g c =
    let s = c.args.s.now in
    let all = done _ _ _ _ c.loop-i.i c.loop-i.invariant c.loop-i-test.false in
    all ∙ ap (λ w. over w c.args.d.now) (ap (tab _ 0) c.as_chunks.ensures.front_len ∙ sym (g.met.T.Number.reads s))
