use Rattle.std.proofs.Common.{◌-◌}
use Rattle.bitmap.specs.Reads.{bits_in}
use Rattle.model.specs.Bitmap.{valid_at}
use Rattle.slice_rows.specs.Sliced.{all_valid, valid_if, batch_of}
use Rattle.slice_rows.proofs.WordLaws.{and_bits, and_ones}
use Rattle.slice_rows.proofs.validity.valid_bits.Goals as goal

pub returns-in-Some : goal.returns-in-Some
unfolding all_valid valid_if
returns-in-Some c =
    let a = c.args in
    let m = batch_of (a.n - a.r) in
    let two = and_bits (valid_at (bits_in a.rows)) (valid_at (bits_in a.columns.from.bits)) m _ _ a.r c.word_at.ensures c.word_at-2.ensures in
    let three = and_bits _ (valid_at (bits_in a.columns.to.bits)) m _ _ a.r two c.word_at-3.ensures in
    rw c.in-Some.is (and_bits _ (valid_at (bits_in c.in-Some.column.bits)) m _ _ a.r three c.word_at-in-Some.ensures)

pub returns-in-None : goal.returns-in-None
unfolding all_valid valid_if
returns-in-None c =
    let a = c.args in
    let m = batch_of (a.n - a.r) in
    let two = and_bits (valid_at (bits_in a.rows)) (valid_at (bits_in a.columns.from.bits)) m _ _ a.r c.word_at.ensures c.word_at-2.ensures in
    rw c.in-None.is (and_ones _ m _ a.r (and_bits _ (valid_at (bits_in a.columns.to.bits)) m _ _ a.r two c.word_at-3.ensures))
