-- The view written, the answer told; or 100.
use mathlib.Core.Path.{refl}
use borrow.Author.Tests.{lt-ltb, le-ltb}
use Rattle.typed.proofs.TypedLaws.{too_short, own, view_unserved, view-told}
use Rattle.typed.proofs.viewed.export_view.Goals as goal

pub returns-then-counts-lt4 : goal.returns-then-counts-lt4
returns-then-counts-lt4 c =
    record {
      served = view_unserved (too_short _ _ _ refl (lt-ltb _ 4 c.if-counts-lt4.true));
      same = record { offsets = refl; sizes = refl; rows = refl; elements = refl; values = refl; bits = refl };
    }

pub returns : goal.returns
returns c =
    let m = c.export_view-answer.ensures in
    record { served = view-told (own _ _ _ refl (le-ltb _ 4 c.if-counts-lt4.false)) m.meets c.put_list.ensures; same = m.same }
