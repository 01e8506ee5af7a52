use Rattle.std.proofs.Common.{rules, w32, SFits, get_or, pos}
use Rattle.std.proofs.lemmas.Int.{to_z-of_z}
use Rattle.model.specs.View.{view_outside}
use Rattle.view_checks.proofs.RefusalLaws.{outside-sum, offset_below, size_below}
use Rattle.view_checks.proofs.ViewColumn.is_outside.Goals.{then-self-r-lt0-via-then-self-r-lt0, then-self-r-lt0-via-else-self-r-lt0+then-self-r-lt0-2}
use Rattle.view_checks.proofs.ViewColumn.is_outside.Goals as goal

pub returns-then-self-r-lt0 : goal.returns-then-self-r-lt0
returns-then-self-r-lt0 c = elim c.then-self-r-lt0.branch [
  | then-self-r-lt0-via-then-self-r-lt0 w ↦ let f : SFits w32 (get_or c.args.self.offsets.now c.args.r (pos 0)) = search rules in offset_below _ _ (rw (to_z-of_z w32 _ f) at w.if-self-r-lt0.true)
  | then-self-r-lt0-via-else-self-r-lt0+then-self-r-lt0-2 w ↦ let f : SFits w32 (get_or c.args.self.sizes.now c.args.r (pos 0)) = search rules in size_below _ _ (rw (to_z-of_z w32 _ f) at w.if-self-r-lt0-2.true)
]

pub returns : goal.returns
unfolding view_outside
returns c =
    let f : SFits w32 (get_or c.args.self.offsets.now c.args.r (pos 0)) = search rules in
    let g : SFits w32 (get_or c.args.self.sizes.now c.args.r (pos 0)) = search rules in
    rw (c.offset_at-a.ensures.value, c.offset_at-size.ensures.value)
    (outside-sum _ _ _ (rw (to_z-of_z w32 _ f) at c.if-self-r-lt0.false) (rw (to_z-of_z w32 _ g) at c.if-self-r-lt0-2.false))
