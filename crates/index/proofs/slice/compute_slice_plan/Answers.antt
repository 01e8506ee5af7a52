use Rattle.std.proofs.Common.{arith, w64}
use Rattle.std.proofs.lemmas.Int.{to_z-of_z}
use Rattle.model.specs.Column.{count}
use Rattle.model.specs.Slice.{in_row, from_bound, to_bound, between, slice_plan}
use Rattle.index.specs.Plan.{place_told}
use Rattle.index.proofs.slice.compute_slice_plan.Goals as goal

pub returns : goal.returns
unfolding count in_row from_bound to_bound between slice_plan place_told
returns g c =
    let l = g.met.O.Offset in
    let r = to_z-of_z w64 _ c.ranges.from in let q = to_z-of_z w64 _ c.ranges.to in
    let s = to_z-of_z w64 c.stride_of.result (record { sfits = c.stride_of.type_inv }) in
    grind (arith, l.zero, l.less, l.most)
