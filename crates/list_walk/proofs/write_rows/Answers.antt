use Rattle.column.specs.Columns.{column_in, values_in}
use Rattle.list_walk.proofs.KindLaws.{is_slice_lem, is_resize_lem, remove_takes, plain_kind, remove_kind}
use Rattle.list_walk.proofs.write_rows.Goals as goal

pub write_rows-requires-clause-small : goal.write_rows-requires-clause-small
write_rows-requires-clause-small g c =
    let a = c.args in
    let col = column_in g.O.Offset.numbers a.list in
    let x = values_in a.xs in
    let y = values_in a.ys in
    let z = values_in a.zs in
    let lim = g.O.Offset.LIMITS in
    rw (plain_kind lim a.op col x y z c.in-Plain.u c.in-Plain.is) at c.requires.small

pub write_rows-requires-clause-room : goal.write_rows-requires-clause-room
write_rows-requires-clause-room g c =
    let a = c.args in
    let col = column_in g.O.Offset.numbers a.list in
    let x = values_in a.xs in
    let y = values_in a.ys in
    let z = values_in a.zs in
    let lim = g.O.Offset.LIMITS in
    rw (plain_kind lim a.op col x y z c.in-Plain.u c.in-Plain.is) at c.requires.room

pub write_rows-requires-in-Slice-clause-kind : goal.write_rows-requires-in-Slice-clause-kind
write_rows-requires-in-Slice-clause-kind g c =
    is_slice_lem _ c.in-Slice.is

pub write_rows-requires-in-Resize-clause-kind : goal.write_rows-requires-in-Resize-clause-kind
write_rows-requires-in-Resize-clause-kind g c =
    is_resize_lem _ c.in-Resize.is

pub write_rows-requires-in-Remove-clause-arguments : goal.write_rows-requires-in-Remove-clause-arguments
write_rows-requires-in-Remove-clause-arguments g c =
    remove_takes c.in-Remove.is c.requires.arguments

pub write_rows-requires-in-Remove-clause-small : goal.write_rows-requires-in-Remove-clause-small
write_rows-requires-in-Remove-clause-small g c =
    let a = c.args in
    let col = column_in g.O.Offset.numbers a.list in
    let x = values_in a.xs in
    let y = values_in a.ys in
    let z = values_in a.zs in
    let lim = g.O.Offset.LIMITS in
    rw (remove_kind lim a.op col x y z c.in-Remove.is) at c.requires.small

pub write_rows-requires-in-Remove-clause-room : goal.write_rows-requires-in-Remove-clause-room
write_rows-requires-in-Remove-clause-room g c =
    let a = c.args in
    let col = column_in g.O.Offset.numbers a.list in
    let x = values_in a.xs in
    let y = values_in a.ys in
    let z = values_in a.zs in
    let lim = g.O.Offset.LIMITS in
    rw (remove_kind lim a.op col x y z c.in-Remove.is) at c.requires.room

pub returns-in-Plain : goal.returns-in-Plain
returns-in-Plain g c =
    let a = c.args in
    let col = column_in g.O.Offset.numbers a.list in
    let x = values_in a.xs in
    let y = values_in a.ys in
    let z = values_in a.zs in
    let lim = g.O.Offset.LIMITS in
    rw (plain_kind lim a.op col x y z c.in-Plain.u c.in-Plain.is) c.write_rows.ensures

pub returns-in-Remove : goal.returns-in-Remove
returns-in-Remove g c =
    let a = c.args in
    let col = column_in g.O.Offset.numbers a.list in
    let x = values_in a.xs in
    let y = values_in a.ys in
    let z = values_in a.zs in
    let lim = g.O.Offset.LIMITS in
    rw (remove_kind lim a.op col x y z c.in-Remove.is) c.write_rows-in-Remove.ensures
