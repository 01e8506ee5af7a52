use Rattle.std.proofs.Common.{sym, ◌∙◌}
use Rattle.column.specs.Columns.{column_in}
use Rattle.bare_walk.proofs.BareLaws.{bare_is}
use Rattle.plain_walk.proofs.PlainLaws.{bare_small, bare_room, bare_fills}
use Rattle.plain_walk.proofs.write_rows.Goals as goal

pub write_rows-requires : goal.write_rows-requires
write_rows-requires g c =
    let a = c.args in
    let N = g.O.Offset.LIMITS in
    let C = column_in g.O.Offset.numbers a.list in
    let b = bare_is a.op a.list.rows.bytes.now a.list.elements.bits.bytes.now (sym c.is_bare.ensures ∙ c.if-is_bare.true) in
    record {
      copied = b.2;
      column = c.requires.column.offsets;
      small = bare_small N a.op C b.0 b.1 c.requires.small;
      room = bare_room N a.op C b.0 b.1 c.requires.room;
    }

pub returns-then-is_bare : goal.returns-then-is_bare
returns-then-is_bare g c =
    let a = c.args in
    let N = g.O.Offset.LIMITS in
    let C = column_in g.O.Offset.numbers a.list in
    let b = bare_is a.op a.list.rows.bytes.now a.list.elements.bits.bytes.now (sym c.is_bare.ensures ∙ c.if-is_bare.true) in
    let w = c.write_rows.ensures in
    record { filled = bare_fills N a.op C b.0 b.1 w.filled; same = w.same }
