use lib.ListN
use Rattle.std.proofs.lemmas.List.{map-set}
use Rattle.column.proofs.offsets.put_offset.Goals as goal

pub returns : goal.returns
returns g c = let l = g.met.O.Offset.numbers_are in rw (l (lib.ListN.set c.args.out.now c.args.i c.from_count.result), l c.args.out.now, map-set, c.from_count.ensures)
