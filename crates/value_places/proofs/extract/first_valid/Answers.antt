-- The element at a place is valid where its bit is, and the elements from the place on lose the first one at each turn.
use Rattle.std.proofs.Common.{◌+◌, ◌-◌, sym, ◌∙◌, arith}
use Rattle.bitmap.specs.Reads.{bits_in}
use Rattle.column.specs.Columns.{elem_in}
use Rattle.column.proofs.RowLaws.{is_val_elem}
use Rattle.value_places.proofs.FoundLaws.{first_now, first_on, first-none, found_here, found-end}
use Rattle.value_places.proofs.extract.first_valid.Goals as goal

pub returns-then-is_valid : goal.returns-then-is_valid
returns-then-is_valid c =
    let l = c.loop-p in let es = c.args.elements in
    let v = is_val_elem es.values.now (bits_in es.bits) l.p ∙ sym c.is_valid.ensures ∙ c.if-is_valid.true in
    record {
      inside = omega arith;
      found = found_here (elem_in es) l.p _ (omega arith) ∙ sym (first_now (elem_in es) l.p _ (omega arith) v) ∙ l.invariant;
    }

pub loop-p-preserved : goal.loop-p-preserved
loop-p-preserved c =
    let l = c.loop-p in let es = c.args.elements in
    let v = is_val_elem es.values.now (bits_in es.bits) l.p ∙ sym c.is_valid.ensures ∙ c.if-is_valid.false in
    grind (arith, first_on (elem_in es) l.p (c.args.a + c.args.n - l.p) (omega arith) v)

pub returns : goal.returns
returns c =
    let l = c.loop-p in let E = elem_in c.args.elements in
    record {
      inside = omega arith;
      found = found-end E (c.args.a + c.args.n) ∙ sym (first-none E l.p _ (omega arith)) ∙ l.invariant;
    }
