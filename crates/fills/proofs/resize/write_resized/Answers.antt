use Rattle.std.proofs.Common.{refl, arith}
use Rattle.column.proofs.SameLaws.{values_on}
use Rattle.column.proofs.WriteLaws.{begun}
use Rattle.column.specs.Columns.{elem_in, elems_in}
use Rattle.rows.specs.Cells.{fill_elem}
use Rattle.rows.proofs.RunLaws.{run_room, run_written, last-room, last_written}
use Rattle.fills.proofs.ResizeLaws.{resized-cut, resized_filled}
use Rattle.fills.proofs.resize.write_resized.Goals as goal

pub write_forward-requires-clause-room : goal.write_forward-requires-clause-room
write_forward-requires-clause-room c =
    let a = c.args in
    last-room (begun _ refl) _ (resized-cut (fill_elem a.fill) (elem_in a.elements) a.a a.n a.count (omega (arith, c))) c.requires.room

pub returns-then-count-n : goal.returns-then-count-n
returns-then-count-n c =
    let a = c.args in
    let w = c.write_forward.ensures in
    record {
      written = last_written (begun _ refl) _ (resized-cut (fill_elem a.fill) (elem_in a.elements) a.a a.n a.count (omega (arith, c))) w.written;
      same = w.same;
    }

pub write_forward-k-requires-clause-room : goal.write_forward-k-requires-clause-room
write_forward-k-requires-clause-room c =
    let a = c.args in
    run_room (begun _ refl) (elems_in a.elements a.a a.n) _ (resized_filled (fill_elem a.fill) (elem_in a.elements) a.a a.n a.count (omega (arith, c))) c.requires.room

pub write_fill-requires : goal.write_fill-requires
write_fill-requires c =
    let a = c.args in
    let copied = run_written (begun _ refl) (elems_in a.elements a.a a.n) _ (resized_filled (fill_elem a.fill) (elem_in a.elements) a.a a.n a.count (omega (arith, c))) c.write_forward-k.ensures.written in
    record { room = last-room copied _ (rw c.fill_cell.ensures refl) c.requires.room }

pub returns : goal.returns
returns c =
    let a = c.args in
    let copied = run_written (begun _ refl) (elems_in a.elements a.a a.n) _ (resized_filled (fill_elem a.fill) (elem_in a.elements) a.a a.n a.count (omega (arith, c))) c.write_forward-k.ensures.written in
    let w = c.write_fill.ensures in
    record {
      written = last_written copied _ (rw c.fill_cell.ensures refl) w.written;
      same = values_on c.write_forward-k.ensures.same w.same;
    }
