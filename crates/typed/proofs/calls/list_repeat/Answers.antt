-- List-repeat, its answer told; or 100.
use mathlib.Core.Path.{refl}
use borrow.Author.Tests.{lt-ltb, le-ltb}
use Rattle.typed.proofs.TypedLaws.{too_short, own, repeat_unserved, repeat_told}
use Rattle.typed.proofs.calls.list_repeat.Goals as goal

pub returns-then-counts-lt6 : goal.returns-then-counts-lt6
returns-then-counts-lt6 g c =
    record {
      served = repeat_unserved (too_short _ _ _ refl (lt-ltb _ 6 c.if-counts-lt6.true));
      outer = record { offsets = refl; rows = refl };
      lists = record { offsets = refl; rows = refl; elements = refl; values = refl; bits = refl };
    }

pub returns : goal.returns
returns g c =
    record {
      served = repeat_told (own _ _ _ refl (le-ltb _ 6 c.if-counts-lt6.false)) c.general_list_repeat-answer.ensures.meets c.put_repeat.ensures;
      outer = c.general_list_repeat-answer.ensures.outer;
      lists = c.general_list_repeat-answer.ensures.lists;
    }
