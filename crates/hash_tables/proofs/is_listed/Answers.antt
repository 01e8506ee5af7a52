use Rattle.std.proofs.Common.{arith, sym}
use Rattle.set_elements.proofs.ElementLaws.{is_in-none}
use Rattle.hash_tables.proofs.TableLaws.{listed_lt, listed_le}
use Rattle.hash_tables.proofs.is_listed.Goals as goal

pub returns-then-m-eq0 : goal.returns-then-m-eq0
returns-then-m-eq0 c = sym (is_in-none _ _ _ _ (omega arith))

pub overflow_add-o : goal.overflow_add-o
overflow_add-o c = omega (arith, listed_lt _ _ _ _ _ _ c.requires.table (omega arith) (omega arith) _ c.head_of-h.ensures, c.requires.table.room)

pub offset_bounds-area-o : goal.offset_bounds-area-o
offset_bounds-area-o c = omega (arith, listed_lt _ _ _ _ _ _ c.requires.table (omega arith) (omega arith) _ c.head_of-h.ensures, c.requires.table.room)

pub bounds-area-o : goal.bounds-area-o
bounds-area-o c = omega (arith, listed_lt _ _ _ _ _ _ c.requires.table (omega arith) (omega arith) _ c.head_of-h.ensures, c.requires.table.room)

pub is_chained-requires-clause-within : goal.is_chained-requires-clause-within
is_chained-requires-clause-within c = listed_le _ _ _ _ _ _ c.requires.table (omega arith) (omega arith) _ c.head_of-h.ensures c.wide-s.ensures
