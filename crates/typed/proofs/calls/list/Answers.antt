-- The operation that the code names, its answer told; or 100.
use mathlib.Core.Path.{refl}
use borrow.Author.Tests.{lt-ltb, le-ltb}
use Rattle.entry_codes.proofs.CallLaws.{no_list-code, list_code}
use Rattle.typed.proofs.TypedLaws.{no_such, too_short, own, list_unserved, list-told}
use Rattle.typed.proofs.calls.list.Goals as goal

pub returns-in_default : goal.returns-in_default
returns-in_default g c =
    record {
      served = list_unserved (no_such _ _ _ (no_list-code _ _ _ _ _ _ c.one_of-named.ensures c.in_default.is));
      same = record { offsets = refl; rows = refl; elements = refl; values = refl; bits = refl };
    }

pub returns-then-counts-lt4 : goal.returns-then-counts-lt4
returns-then-counts-lt4 g c =
    record {
      served = list_unserved (too_short _ _ _ (list_code _ _ _ _ _ _ c.one_of-named.ensures c.in-Some.is) (lt-ltb _ 4 c.if-counts-lt4.true));
      same = record { offsets = refl; rows = refl; elements = refl; values = refl; bits = refl };
    }

pub returns : goal.returns
returns g c =
    record {
      served =
          list-told
          (own _ _ _ (list_code _ _ _ _ _ _ c.one_of-named.ensures c.in-Some.is) (le-ltb _ 4 c.if-counts-lt4.false))
          c.run-answer.ensures.meets
          c.put_list.ensures;
      same = c.run-answer.ensures.same;
    }
