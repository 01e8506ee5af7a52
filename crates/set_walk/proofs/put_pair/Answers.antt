-- A null row where one of the pair is null; otherwise what the row functions write.
use Rattle.std.proofs.Common.{refl}
use Rattle.model.specs.Elements.{set_elems}
use Rattle.column.specs.Columns.{column_in}
use Rattle.set_rows.specs.Runs.{run_elems}
use Rattle.set_walk.proofs.SetLaws.{null_written, pair_room, pair_written}
use Rattle.set_walk.proofs.put_pair.Goals as goal

pub returns-then-not-are_valid : goal.returns-then-not-are_valid
returns-then-not-are_valid g c = record {
  written = null_written (set_elems c.args.op) (column_in g.O.Offset.numbers c.args.left) (column_in g.O.Offset.numbers c.args.right) c.args.r c.are_valid.ensures c.if-not-are_valid.true c.push_bit.ensures;
  offsets = refl;
  same = record { offsets = refl; rows = refl; elements = refl; values = refl; bits = refl };
}

pub write_set-requires-clause-room : goal.write_set-requires-clause-room
write_set-requires-clause-room g c =
    let f = set_elems c.args.op in
    pair_room f (column_in g.O.Offset.numbers c.args.left) (column_in g.O.Offset.numbers c.args.right) c.args.r c.are_valid.ensures c.if-not-are_valid.false {es = f (run_elems c.of_row.result) (run_elems c.of_row-2.result)} (rw (c.of_row.ensures.elems, c.of_row-2.ensures.elems)) c.requires.room

pub returns : goal.returns
returns g c =
    let f = set_elems c.args.op in
    let s = c.write_set.ensures.same in
    record {
      written = pair_written f (column_in g.O.Offset.numbers c.args.left) (column_in g.O.Offset.numbers c.args.right) c.args.r c.are_valid.ensures c.if-not-are_valid.false {es = f (run_elems c.of_row.result) (run_elems c.of_row-2.result)} (rw (c.of_row.ensures.elems, c.of_row-2.ensures.elems)) c.push_bit-2.ensures c.write_set.ensures.written;
      offsets = refl;
      same = record { offsets = refl; rows = refl; elements = refl; values = s.values; bits = s.bits };
    }
