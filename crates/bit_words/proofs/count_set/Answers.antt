use Rattle.std.proofs.Common.{arith, ◌≡◌, ◌+◌, ◌*◌, ◌/◌, ap, sym}
use Rattle.bitmap.proofs.OnesLaws.{trues-none, trues-tab}
use Rattle.bitmap.specs.Push.{trues}
use Rattle.model.specs.Basics.{tab}
use Rattle.model.specs.Bitmap.{bit_at}
use Rattle.bit_words.proofs.WordLaws.{word_counted, words_counted}
use Rattle.bit_words.proofs.count_set.Goals as goal

pub loop-i-init : goal.loop-i-init
loop-i-init c = sym (trues-none (bit_at c.args.bitmap.now) 0)

pub overflow_add-found : goal.overflow_add-found
overflow_add-found c =
    let f = bit_at c.args.bitmap.now in
    let i = c.loop-i.i in
    omega (arith, word_counted f i c.word_at.result c.word_at.ensures c.word_at.type_inv, trues-tab f 0 (64 * (i + 1)))

pub loop-i-preserved : goal.loop-i-preserved
loop-i-preserved c =
    omega (arith, word_counted (bit_at c.args.bitmap.now) c.loop-i.i c.word_at.result c.word_at.ensures c.word_at.type_inv)

pub overflow_add-result : goal.overflow_add-result
overflow_add-result c =
    let f = bit_at c.args.bitmap.now in
    let e : c.loop-i.i ≡ c.args.n / 64 = omega arith in
    let i = ap (λ r. trues (tab f 0 (64 * r))) e in
    omega (arith, i, c.count_bytes.ensures, words_counted f c.args.n, trues-tab f 0 c.args.n)

pub returns : goal.returns
returns c =
    let f = bit_at c.args.bitmap.now in
    let e : c.loop-i.i ≡ c.args.n / 64 = omega arith in
    let i = ap (λ r. trues (tab f 0 (64 * r))) e in
    omega (arith, i, c.count_bytes.ensures, words_counted f c.args.n)
