use Rattle.std.proofs.Common.{◌≡◌, ◌+◌, ◌-◌, arith}
use Rattle.bit_words.proofs.WordLaws.{read_joined}
use Rattle.bit_words.proofs.word_from.Goals as goal

pub returns : goal.returns
returns c =
    let a = c.args in
    let w = c.word_at in
    let e : a.s + (64 - a.s) ≡ 64 = omega arith in
    rw c.from.ensures
    (rw e at (read_joined a.bitmap.now 8 a.k (64 - a.s) a.s w.result (rw e w.ensures) (rw e w.type_inv) (omega arith) e))
