-- Two walks, the first of them with no others; the second writes where the first ended.
use Rattle.std.proofs.Common.{false, []}
use Rattle.column.proofs.SameLaws.{values_on}
use Rattle.set_elements.specs.Pairs.{kept}
use Rattle.set_rows.specs.Runs.{run_elems}
use Rattle.set_rows.proofs.SetLaws.{union_kept, place-first, place_then, written_then}
use Rattle.set_rows.proofs.set_ops.write_union.Goals as goal

pub write_kept-next-requires-clause-room : goal.write_kept-next-requires-clause-room
write_kept-next-requires-clause-room c =
    let l = run_elems c.args.left in
    let r = run_elems c.args.right in
    rw c.none_of.ensures.elems (place-first (kept false [] [] l) (kept false l [] r) (rw (union_kept l r) at c.requires.room))

pub write_kept-requires-clause-room : goal.write_kept-requires-clause-room
write_kept-requires-clause-room c =
    let l = run_elems c.args.left in
    let r = run_elems c.args.right in
    place_then (kept false [] [] l) (kept false l [] r) (rw c.none_of.ensures.elems at c.write_kept-next.ensures.written) (rw (union_kept l r) at c.requires.room)

pub returns : goal.returns
returns c =
    let l = run_elems c.args.left in
    let r = run_elems c.args.right in
    record {
      written = rw (union_kept l r) (written_then (kept false [] [] l) (kept false l [] r) (rw c.none_of.ensures.elems at c.write_kept-next.ensures.written) c.write_kept.ensures.written);
      same = values_on c.write_kept-next.ensures.same c.write_kept.ensures.same;
    }
