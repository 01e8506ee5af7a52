-- The place that an index has, or the length.
use Rattle.std.proofs.Common.{◌∙◌}
use mir.Syntax.{w64}
use Rattle.index.proofs.SignedLaws.{read_back}
use Rattle.index.proofs.PlaceLaws.{place_or_told}
use Rattle.value_places.proofs.extract.index_bound.Goals as goal

pub returns : goal.returns
returns g c = c.unwrap_or.ensures ∙ rw (rw (read_back w64 c.args.index c.ranges.index) at c.adjusted_array_index.ensures) (place_or_told _ _)
