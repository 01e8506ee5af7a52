-- Distinct run, its answer told; or 100, and the area cleared.
use mathlib.Core.Path.{refl}
use borrow.Author.Tests.{lt-ltb, le-ltb}
use Rattle.typed.proofs.TypedLaws.{too_short, own, hash_unserved, hash_told}
use Rattle.typed.proofs.hashed.distinct.Goals as goal

pub returns-then-counts-lt4 : goal.returns-then-counts-lt4
returns-then-counts-lt4 c =
    record {
      served = hash_unserved (too_short _ _ _ refl (lt-ltb _ 4 c.if-counts-lt4.true)) c.clear_area.ensures;
      same = record { offsets = refl; rows = refl; elements = refl; values = refl; bits = refl };
    }

pub returns : goal.returns
returns c =
    let m = c.general_array_distinct_hashed-answer.ensures in
    record { served = hash_told (own _ _ _ refl (le-ltb _ 4 c.if-counts-lt4.false)) m.meets c.put_list.ensures; same = m.same }
