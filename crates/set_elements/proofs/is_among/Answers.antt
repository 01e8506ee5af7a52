use Rattle.std.proofs.Common.{sym, ◌∙◌, arith, get_or, pos}
use borrow.Author.Tests.{eqb-true}
use Rattle.bitmap.specs.Reads.{bits_in}
use Rattle.model.proofs.SignedLaws.{back64}
use Rattle.column.proofs.RowLaws.{elem_valid, elem_null}
use Rattle.set_elements.proofs.PairLaws.{is_in-plain}
use Rattle.set_elements.proofs.is_among.Goals as goal

pub returns-then-is_empty-2 : goal.returns-then-is_empty-2
returns-then-is_empty-2 c =
    let a = c.args in
    rw (back64 (get_or a.elements.values.now a.i (pos 0)) (omega arith)) at c.has_value.ensures
    ∙ is_in-plain a.elements.values.now a.others.values.now (bits_in a.elements.bits) (bits_in a.others.bits) (eqb-true _ _ (sym c.is_empty.ensures ∙ c.if-is_empty.true)) (eqb-true _ _ (sym c.is_empty-then-is_empty.ensures ∙ c.if-is_empty-2.true)) a.i a.a a.k

pub returns-then-is_valid : goal.returns-then-is_valid
returns-then-is_valid c =
    let a = c.args in
    rw (elem_valid a.elements.values.now (bits_in a.elements.bits) a.i (sym c.is_valid.ensures ∙ c.if-is_valid.true))
    (rw (back64 (get_or a.elements.values.now a.i (pos 0)) (omega arith)) at c.has_valid.ensures)

pub returns : goal.returns
returns c =
    let a = c.args in
    rw (elem_null a.elements.values.now (bits_in a.elements.bits) a.i (sym c.is_valid.ensures ∙ c.if-is_valid.false)) c.has_null.ensures
