use mathlib.Core.Path.{◌≡◌, ap, sym, ◌∙◌}
use Prim.Native.Nat.{◌+◌, ◌-◌, ◌*◌, ◌≤◌}
use native.Mathlib.Omega.{arith}
use lib.ListN.{length}
use borrow.Rule.Slice.PartMut.{put_mid}
use Rattle.std.proofs.Math.Nat.{mul-le-mul_left}
use Rattle.model.specs.Form.{over}
use Rattle.wire.proofs.Spelling.{begun, turned, done, stored}
use Rattle.wire.proofs.encode.Goals as goal

pub loop-i-init : goal.loop-i-init
loop-i-init g c = begun _ _ _

pub loop-i-preserved : goal.loop-i-preserved
loop-i-preserved g c =
    let n = g.row.N in
    let i = c.loop-i.i in
    let v = c.args.v.now in
    let d = c.loop-i.d in
    let below : i + 1 ≤ length v = omega arith in
    let all : length v * n ≤ length c.args.d.now = c.requires in
    let room : i * n + n ≤ length d = omega (arith, mul-le-mul_left n below) in
    let part : (i + 1) * n - i * n ≡ n = omega arith in
    let b = c.copy_from_slice.ensures.after ∙ c.to_le_bytes.ensures ∙ ap g.T.Number.bytes_of_one c.index-v-i.is in
    turned g.T.Number.bytes_of_one _ _ n g.met.T.Number.length_of_one c.index-v-i.result _ _ c.copy_from_slice.new.self i c.loop-i.invariant c.loop-i-test.true room b (ap (λ m. put_mid (i * n) m d c.copy_from_slice.new.self) part ∙ stored d _ (i * n) n (ap length b ∙ g.met.T.Number.length_of_one _) room)

pub returns : goal.returns
returns g c = done _ _ _ _ c.loop-i.i c.loop-i.invariant c.loop-i-test.false ∙ ap (λ w. over w c.args.d.now) (sym (g.met.T.Number.writes c.args.v.now))
