use Rattle.std.proofs.Common.{◌≡◌, ◌+◌, ◌-◌, sym, ◌∙◌, arith}
use borrow.Author.Tests.{eqb-true}
use Rattle.bitmap.specs.Reads.{bits_in}
use Rattle.model.specs.Column.{nul, elem_at}
use Rattle.set_elements.proofs.ElementLaws.{is_in-none}
use Rattle.set_elements.proofs.SearchLaws.{plain_no_null, null_first, valid_first}
use Rattle.set_elements.proofs.has_null.Goals as goal

pub returns-then-is_empty : goal.returns-then-is_empty
returns-then-is_empty c =
    let a = c.args in
    sym (plain_no_null a.others.values.now (bits_in a.others.bits) a.a a.k (eqb-true _ _ (sym c.is_empty.ensures ∙ c.if-is_empty.true)))

pub returns-then-not-is_valid : goal.returns-then-not-is_valid
returns-then-not-is_valid c =
    let l = c.loop-p in
    let a = c.args in
    sym (null_first a.others.values.now (bits_in a.others.bits) l.p (a.a + a.k - l.p) (omega arith) (sym c.is_valid.ensures ∙ c.if-not-is_valid.true)) ∙ l.invariant

pub loop-p-preserved : goal.loop-p-preserved
loop-p-preserved c =
    let l = c.loop-p in
    let a = c.args in
    let e : a.a + a.k - l.p - 1 ≡ a.a + a.k - (l.p + 1) = omega arith in
    rw (← e) (sym (valid_first a.others.values.now (bits_in a.others.bits) l.p (a.a + a.k - l.p) (omega arith) (sym c.is_valid.ensures ∙ c.if-not-is_valid.false)) ∙ l.invariant)

pub returns : goal.returns
returns c =
    let l = c.loop-p in
    let a = c.args in
    sym (is_in-none nul (elem_at a.others.values.now (bits_in a.others.bits)) l.p (a.a + a.k - l.p) (omega arith)) ∙ l.invariant
