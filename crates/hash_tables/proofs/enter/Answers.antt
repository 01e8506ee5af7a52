use Rattle.std.proofs.Common.{arith}
use Rattle.hash_tables.proofs.TableLaws.{head_lt, head_le, enter_old, enter_new}
use Rattle.hash_tables.proofs.enter.Goals as goal

pub overflow_add-o : goal.overflow_add-o
overflow_add-o c = omega (arith, head_lt _ _ _ _ _ _ c.requires.table c.requires.there c.head_of-b.ensures, c.requires.table.room)

pub offset_bounds-area-o : goal.offset_bounds-area-o
offset_bounds-area-o c = omega (arith, head_lt _ _ _ _ _ _ c.requires.table c.requires.there c.head_of-b.ensures, c.requires.table.room)

pub bounds-area-o : goal.bounds-area-o
bounds-area-o c = omega (arith, head_lt _ _ _ _ _ _ c.requires.table c.requires.there c.head_of-b.ensures, c.requires.table.room)

pub is_chained-requires-clause-within : goal.is_chained-requires-clause-within
is_chained-requires-clause-within c = head_le _ _ _ _ _ _ c.requires.table c.requires.there c.head_of-b.ensures c.wide-s.ensures

pub returns-then-is_chained : goal.returns-then-is_chained
returns-then-is_chained c =
    let e = enter_old _ _ _ _ _ _ c.requires.table c.requires.there c.head_of-b.ensures c.wide-s.ensures c.is_chained.ensures c.if-is_chained.true in
    record { value = e.0; table_2 = e.1.0; within = e.1.1 }

pub link-requires-clause-head : goal.link-requires-clause-head
link-requires-clause-head c = head_lt _ _ _ _ _ _ c.requires.table c.requires.there c.head_of-b.ensures

pub returns : goal.returns
returns c =
    let e = enter_new _ _ _ _ _ _ c.requires.table c.requires.there c.head_of-b.ensures c.wide-s.ensures c.is_chained.ensures c.if-is_chained.false c.link.ensures in
    record { value = e.0; table_2 = e.1.0; within = e.1.1 }
