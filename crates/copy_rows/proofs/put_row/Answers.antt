use Rattle.std.proofs.Common.{arith, refl}
use Rattle.column.proofs.RowLaws.{len_from_le, elems_from, is_row-from}
use Rattle.bitmap.specs.Reads.{bits_in}
use Rattle.model.specs.Column.{elem_at}
use Rattle.copy_rows.proofs.put_row.Goals as goal

pub write_forward-next-requires-clause-column : goal.write_forward-next-requires-clause-column
write_forward-next-requires-clause-column g c =
    let a = c.args in
    let l = len_from_le (bits_in a.rows) a.r a.a a.b c.requires.column.rises in
    record { inside = omega (arith, c.requires.column.inside, c.row_len-len.ensures); bits = c.requires.column.elements }

pub write_forward-next-requires-clause-room : goal.write_forward-next-requires-clause-room
write_forward-next-requires-clause-room g c =
    let a = c.args in
    let e = elems_from (bits_in a.rows) a.r a.a a.b (elem_at a.elements.values.now (bits_in a.elements.bits)) in
    record { values = rw (e, ← c.row_len-len.ensures) at c.requires.room.values; elements = rw (e, ← c.row_len-len.ensures) at c.requires.room.elements }

pub returns : goal.returns
returns g c =
    let a = c.args in
    let E = elem_at a.elements.values.now (bits_in a.elements.bits) in
    let e = elems_from (bits_in a.rows) a.r a.a a.b E in
    let w = c.write_forward-next.ensures.written in
    record {
      written = record {
        rows = rw (is_row-from (bits_in a.rows) a.r a.a a.b E, ← c.is_valid-valid.ensures) c.push_bit.ensures;
        values = rw (e, ← c.row_len-len.ensures) w.values;
        elements = rw (e, ← c.row_len-len.ensures) w.elements;
        place = rw (e, ← c.row_len-len.ensures) w.next;
      };
      offsets = refl;
      same = record { offsets = refl; rows = refl; elements = refl; values = c.write_forward-next.ensures.same.values; bits = c.write_forward-next.ensures.same.bits };
    }
