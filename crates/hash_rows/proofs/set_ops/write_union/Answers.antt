-- The first occurrences of the left row, then those of the right one that it doesn't have.
use Rattle.std.proofs.Common.{false, []}
use Rattle.column.proofs.SameLaws.{values_on}
use Rattle.model.specs.Elements.{distinct}
use Rattle.set_elements.specs.Pairs.{kept}
use Rattle.set_rows.specs.Runs.{run_elems}
use Rattle.set_rows.proofs.SetLaws.{union_distinct, place-first, place_then, written_then}
use Rattle.hash_rows.proofs.set_ops.write_union.Goals as goal

pub write_new-next-requires-clause-place : goal.write_new-next-requires-clause-place
write_new-next-requires-clause-place c =
    let l = run_elems c.args.left in
    let r = run_elems c.args.right in
    place-first (distinct l) (kept false l [] r) (rw (union_distinct l r) at c.requires.place)

pub write_kept-end-requires-clause-place : goal.write_kept-end-requires-clause-place
write_kept-end-requires-clause-place c =
    let l = run_elems c.args.left in
    let r = run_elems c.args.right in
    place_then (distinct l) (kept false l [] r) c.write_new-next.ensures.writes.written (rw (union_distinct l r) at c.requires.place)

pub returns-clause-writes : goal.returns-clause-writes
returns-clause-writes c =
    let l = run_elems c.args.left in
    let r = run_elems c.args.right in
    let s = c.write_new-next.ensures.writes in
    let t = c.write_kept-end.ensures.writes in
    record {
      written = rw (union_distinct l r) (written_then (distinct l) (kept false l [] r) s.written t.written);
      same = values_on s.same t.same;
    }
