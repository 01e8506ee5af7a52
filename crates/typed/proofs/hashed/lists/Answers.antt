-- Union or intersect run, its answer told; or 100, and the area cleared.
use mathlib.Core.Path.{refl}
use borrow.Author.Tests.{lt-ltb, le-ltb}
use Rattle.entry_codes.proofs.CallLaws.{no_hashed, hashed-code}
use Rattle.typed.proofs.TypedLaws.{no_such, too_short, own, hash_unserved, hash_told}
use Rattle.typed.proofs.hashed.lists.Goals as goal

pub returns-in_default : goal.returns-in_default
returns-in_default c =
    record {
      served = hash_unserved (no_such _ _ _ (no_hashed _ _ _ _ c.set_of-named.ensures c.in_default.is)) c.clear_area.ensures;
      same = record { offsets = refl; rows = refl; elements = refl; values = refl; bits = refl };
    }

pub returns-then-counts-lt4 : goal.returns-then-counts-lt4
returns-then-counts-lt4 c =
    record {
      served = hash_unserved (too_short _ _ _ (hashed-code _ _ _ _ c.set_of-named.ensures c.in-Some.is) (lt-ltb _ 4 c.if-counts-lt4.true)) c.clear_area-then-counts-lt4.ensures;
      same = record { offsets = refl; rows = refl; elements = refl; values = refl; bits = refl };
    }

pub returns : goal.returns
returns c =
    let m = c.generic_set_lists_hashed-answer.ensures in
    record {
      served = hash_told (own _ _ _ (hashed-code _ _ _ _ c.set_of-named.ensures c.in-Some.is) (le-ltb _ 4 c.if-counts-lt4.false)) m.meets c.put_list.ensures;
      same = m.same;
    }
