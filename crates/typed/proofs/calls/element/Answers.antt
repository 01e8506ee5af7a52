-- The element of each row that its index names, its answer told; or 100.
use mathlib.Core.Path.{refl}
use borrow.Author.Tests.{lt-ltb, le-ltb}
use Rattle.typed.proofs.TypedLaws.{too_short, own, value_unserved, value_told}
use Rattle.typed.proofs.calls.element.Goals as goal

pub returns-then-counts-lt2 : goal.returns-then-counts-lt2
returns-then-counts-lt2 g c =
    record {
      served = value_unserved (too_short _ _ _ refl (lt-ltb _ 2 c.if-counts-lt2.true));
      same = record { values = refl; bits = refl };
    }

pub returns : goal.returns
returns g c =
    record {
      served = value_told (own _ _ _ refl (le-ltb _ 2 c.if-counts-lt2.false)) c.general_array_element-answer.ensures.meets c.put_values.ensures;
      same = c.general_array_element-answer.ensures.same;
    }
