-- Where the index is valid, its place or the length is at most the length.
use Rattle.std.proofs.Common.{pos, get_or, sym, ◌∙◌, arith, rules}
use Rattle.column.specs.Columns.{values_in}
use Rattle.index.specs.Place.{index_bound}
use Rattle.index.proofs.SignedLaws.{read_back}
use mir.Syntax.{w64}
use Rattle.index.proofs.PlaceLaws.{place-most}
use Rattle.value_places.proofs.FoundLaws.{bound_place_lem, place_null, place_valid}
use Rattle.value_places.proofs.extract.element_place.Goals as goal

pub returns-then-not-is_valid : goal.returns-then-not-is_valid
returns-then-not-is_valid g c =
    let a = c.args in
    sym (place_null g.O.Offset.LIMITS (values_in a.indexes) a.r a.a a.k (sym c.is_valid.ensures ∙ c.if-not-is_valid.true))

pub overflow_add-result-2 : goal.overflow_add-result-2
overflow_add-result-2 g c =
    let a = c.args in
    let z = get_or a.indexes.values.now a.r (pos 0) in
    let e = rw (read_back w64 z (search rules)) at c.index_bound.ensures in
    omega (arith, place-most g.O.Offset.LIMITS a.k z, g.met.O.Offset.limits_fit.offset)

pub returns : goal.returns
returns g c =
    let a = c.args in let L = g.O.Offset.LIMITS in
    let z = get_or a.indexes.values.now a.r (pos 0) in
    let e = rw (read_back w64 z (search rules)) at c.index_bound.ensures in
    rw e
    (sym (place_valid L (values_in a.indexes) a.r a.a a.k (sym c.is_valid.ensures ∙ c.if-not-is_valid.false) ∙ bound_place_lem (index_bound L a.k z) a.a a.k))
