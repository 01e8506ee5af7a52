use mathlib.Core.Path.{sym, ◌∙◌}
use borrow.Author.Tests.{not-true, not-false}
use Rattle.model.proofs.SignedLaws.{back64}
use Rattle.column.proofs.RowLaws.{elem_valid, elem_null, is_val_elem}
use Rattle.rows.specs.Cells.{elem_of}
use Rattle.rows.proofs.CellLaws.{same_null, null_same, value_same}
use Rattle.rows.proofs.utils.compare_element_to_list.Goals as goal

pub returns-then-not-valid : goal.returns-then-not-valid
unfolding elem_of
returns-then-not-valid c =
    rw (c.in-Some.is, elem_null _ _ _ (sym c.is_valid-valid.ensures ∙ not-true _ c.if-not-valid.true-raw)) (null_same _)

pub returns-in-None : goal.returns-in-None
unfolding elem_of
returns-in-None c = rw (c.in-None.is, ← same_null, is_val_elem, ← c.is_valid-valid.ensures)

pub returns-else-not-valid : goal.returns-else-not-valid
unfolding elem_of
returns-else-not-valid c =
    rw (c.in-Some.is, elem_valid _ _ _ (sym c.is_valid-valid.ensures ∙ not-false _ c.if-not-valid.false-raw))
    (rw (back64 _ c.same_value-arg-1.given, back64 _ c.in-Some.known_told-1-own.given.0.1) at c.same_value.ensures ∙ value_same _ _)
