use Rattle.bare_walk.proofs.BareLaws.{bare_filled}
use Rattle.bare_walk.proofs.write_rows.Goals as goal

pub returns : goal.returns
returns g c =
    let a = c.args in
    let w = c.write_bare-m.ensures in
    record {
      filled = bare_filled a.op (g.O.Offset.numbers a.list.offsets.now) a.list.elements.values.now c.requires.copied c.row_count-n.ensures c.requires.room w.written (rw w.rows at c.push_same.ensures) (rw w.bits at c.push_same-2.ensures);
      same = record { offsets = w.same.offsets; rows = w.same.rows; elements = w.same.elements; values = w.same.values; bits = w.same.bits };
    }
