use Rattle.model.proofs.SignedLaws.{back64}
use Rattle.rows.specs.Cells.{elem_of}
use Rattle.fills.proofs.resize.write_fill.Goals as goal

pub write_null-requires : goal.write_null-requires
unfolding elem_of
write_null-requires c = rw c.in-None.is at c.requires

pub write_value-requires : goal.write_value-requires
unfolding elem_of
write_value-requires c = rw (back64 _ c.in-Some.known_told-1-own.given.0.1) (rw c.in-Some.is at c.requires)

pub returns-in-None : goal.returns-in-None
unfolding elem_of
returns-in-None c = rw c.in-None.is c.write_null.ensures

pub returns-in-Some : goal.returns-in-Some
unfolding elem_of
returns-in-Some c = rw c.in-Some.is (rw (back64 _ c.in-Some.known_told-1-own.given.0.1) at c.write_value.ensures)
