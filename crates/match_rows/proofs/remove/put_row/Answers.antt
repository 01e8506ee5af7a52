use Rattle.std.proofs.Common.{refl}
use Rattle.match_rows.proofs.MatchLaws.{removed_null, removed-made, null_put, list_put, list-room}
use Rattle.match_rows.proofs.remove.put_row.Goals as goal

pub write_removed-requires-clause-room : goal.write_removed-requires-clause-room
write_removed-requires-clause-room g c = list-room _ _ _ _ (removed-made _ _ _ c.in-Some.is) c.requires.room

pub returns-in-None : goal.returns-in-None
returns-in-None g c = record {
  written = null_put _ _ _ _ _ _ (removed_null _ _ c.in-None.is) (rw c.in-None.is at c.is_some.ensures) c.push_bit.ensures;
  offsets = refl;
  same = record { offsets = refl; rows = refl; elements = refl; values = refl; bits = refl };
}

pub returns-in-Some : goal.returns-in-Some
returns-in-Some g c =
    let w = c.write_removed.ensures in
    record {
      written = list_put _ _ _ _ (removed-made _ _ _ c.in-Some.is) _ (rw c.in-Some.is at c.is_some.ensures) c.push_bit.ensures w.written;
      offsets = refl;
      same = record { offsets = refl; rows = refl; elements = refl; values = w.same.values; bits = w.same.bits };
    }
