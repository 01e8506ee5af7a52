use Rattle.std.proofs.Common.{arith, ℕ, ◌≡◌, ◌+◌, ◌-◌, ◌*◌, ◌/◌, ◌<◌, drop, ap, sym}
use Rattle.std.proofs.lemmas.List.{length-take, length-drop}
use Rattle.bitmap.proofs.OnesLaws.{trues-none, trues-tab}
use Rattle.bitmap.specs.Push.{trues}
use Rattle.model.specs.Basics.{tab}
use Rattle.model.specs.Bitmap.{bit_at}
use Rattle.bit_words.proofs.WordLaws.{byte_counted, bytes_counted}
use Rattle.bit_words.proofs.count_bytes.Goals as goal

pub loop-byte-init : goal.loop-byte-init
loop-byte-init c = sym (trues-none (bit_at c.args.bitmap.now) (8 * c.args.from))

pub overflow_add-found : goal.overflow_add-found
overflow_add-found c =
    let a = c.args in
    let i = c.loop-byte.byte-index in
    let m = a.from + a.n / 8 - a.from in
    let h : i < m = omega (arith, length-take m (drop a.from a.bitmap.now)) in
    omega (arith, byte_counted a.bitmap.now a.from m i (λ j. (c.type_inv.bitmap j).fits) h, trues-tab (bit_at a.bitmap.now) (8 * a.from) (8 * (i + 1)))

pub loop-byte-preserved : goal.loop-byte-preserved
loop-byte-preserved c =
    let a = c.args in
    let i = c.loop-byte.byte-index in
    let m = a.from + a.n / 8 - a.from in
    let h : i < m = omega (arith, length-take m (drop a.from a.bitmap.now)) in
    omega (arith, byte_counted a.bitmap.now a.from m i (λ j. (c.type_inv.bitmap j).fits) h)

pub overflow_add-result : goal.overflow_add-result
overflow_add-result c =
    let a = c.args in
    let m = a.from + a.n / 8 - a.from in
    let e : c.loop-byte.byte-index ≡ a.n / 8 = omega (arith, length-take m (drop a.from a.bitmap.now), length-drop a.from a.bitmap.now) in
    let i = ap (λ (r : ℕ). trues (tab (bit_at a.bitmap.now) (8 * a.from) (8 * r))) e in
    omega (arith, i, c.ones_below.ensures, bytes_counted a.bitmap.now a.from a.n, trues-tab (bit_at a.bitmap.now) (8 * a.from) a.n)

pub returns : goal.returns
returns c =
    let a = c.args in
    let m = a.from + a.n / 8 - a.from in
    let e : c.loop-byte.byte-index ≡ a.n / 8 = omega (arith, length-take m (drop a.from a.bitmap.now), length-drop a.from a.bitmap.now) in
    let i = ap (λ (r : ℕ). trues (tab (bit_at a.bitmap.now) (8 * a.from) (8 * r))) e in
    omega (arith, i, c.ones_below.ensures, bytes_counted a.bitmap.now a.from a.n)
