use borrow.Author.Tests.{ltb-false}
use Rattle.std.proofs.Common.{◌≡◌, refl, sym, ap, List, [], ◌∷◌, ℤ, length, arith}
use Rattle.std.proofs.lemmas.List.{length-map}
use Rattle.model.specs.Column.{count, offset_at}
use Rattle.column.proofs.offsets.first_offset.Goals as goal

none_first : (o : List ℤ) → length o ≡ 0 → 0 ≡ offset_at o 0
unfolding count
none_first [] h = refl
none_first (x ∷ o) h = absurd (omega arith)

pub returns-in-None : goal.returns-in-None
returns-in-None g c =
    none_first (g.O.Offset.numbers c.args.offsets.now) (omega (arith, ltb-false _ _ (sym c.in-None.ensures.item.0), ap length (g.met.O.Offset.numbers_are c.args.offsets.now), length-map c.args.offsets.now g.O.Offset.number))
