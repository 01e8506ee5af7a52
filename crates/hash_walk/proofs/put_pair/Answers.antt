-- A null row where one of the pair is null; otherwise what the row functions write.
use Rattle.std.proofs.Common.{refl}
use Rattle.column.specs.Columns.{column_in}
use Rattle.hash_checks.specs.Area.{hash_elems}
use Rattle.hash_checks.specs.Narrow.{narrow_numbers}
use Rattle.hash_walk.proofs.WalkingLaws.{need_valid}
use Rattle.set_rows.specs.Runs.{run_elems}
use Rattle.set_walk.proofs.SetLaws.{null_written, pair_room, pair_written}
use Rattle.hash_walk.proofs.put_pair.Goals as goal

pub returns-then-not-are_valid-clause-writes_row : goal.returns-then-not-are_valid-clause-writes_row
returns-then-not-are_valid-clause-writes_row c = record {
  written = null_written (hash_elems c.args.op) (column_in narrow_numbers c.args.left) (column_in narrow_numbers c.args.right) c.args.r c.are_valid.ensures c.if-not-are_valid.true c.push_bit.ensures;
  offsets = refl;
  same = record { offsets = refl; rows = refl; elements = refl; values = refl; bits = refl };
}

pub write_row-requires-clause-place : goal.write_row-requires-clause-place
write_row-requires-clause-place c =
    let f = hash_elems c.args.op in
    pair_room f (column_in narrow_numbers c.args.left) (column_in narrow_numbers c.args.right) c.args.r c.are_valid.ensures c.if-not-are_valid.false {es = f (run_elems c.of_row.result) (run_elems c.of_row-2.result)} (rw (c.of_row.ensures.elems, c.of_row-2.ensures.elems)) c.requires.place

pub write_row-requires-clause-room : goal.write_row-requires-clause-room
write_row-requires-clause-room c =
    need_valid c.args.op (column_in narrow_numbers c.args.left) (column_in narrow_numbers c.args.right) c.args.r _ _ _ c.are_valid.ensures c.if-not-are_valid.false c.of_row.ensures.count c.of_row-2.ensures.count c.requires.room

pub returns-clause-writes_row : goal.returns-clause-writes_row
returns-clause-writes_row c =
    let f = hash_elems c.args.op in
    let w = c.write_row.ensures.writes in
    record {
      written = pair_written f (column_in narrow_numbers c.args.left) (column_in narrow_numbers c.args.right) c.args.r c.are_valid.ensures c.if-not-are_valid.false {es = f (run_elems c.of_row.result) (run_elems c.of_row-2.result)} (rw (c.of_row.ensures.elems, c.of_row-2.ensures.elems)) c.push_bit-2.ensures w.written;
      offsets = refl;
      same = record { offsets = refl; rows = refl; elements = refl; values = w.same.values; bits = w.same.bits };
    }
