-- What `==` of two slices says, where `==` of their items is exact.
use Rattle.std.proofs.lemmas.Slice.Eq.{slice_eq-Decides}
use Rattle.compare.proofs.same.Goals as goal

pub returns : goal.returns
returns g c = slice_eq-Decides g.met.T.Exact.exact _ _ _ c.eq.ensures
