use Rattle.model.proofs.SignedLaws.{back64}
use Rattle.rows.specs.Cells.{elem_of}
use Rattle.rows.proofs.utils.write_cell.Goals as goal

pub returns-in-None : goal.returns-in-None
unfolding elem_of
returns-in-None c = rw c.in-None.is c.put_null.ensures

pub returns-in-Some : goal.returns-in-Some
unfolding elem_of
returns-in-Some c =
    rw c.in-Some.is (rw (back64 _ c.in-Some.known_told-1-own.given.0.1) at c.write_value.ensures)
