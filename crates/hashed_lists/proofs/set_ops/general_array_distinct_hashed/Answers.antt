-- The area cleared, then 13, 1 and 2, then the walk.
use Rattle.std.proofs.Common.{ℕ, refl, sym, ap, ◌∙◌}
use Rattle.column.specs.Columns.{column_in}
use Rattle.column.specs.Outputs.{room_in}
use Rattle.column.proofs.WalkLaws.{readable}
use Rattle.checks.proofs.RefusedLaws.{handed_on, number_positive}
use Rattle.hash_checks.specs.Narrow.{narrow_numbers}
use Rattle.hash_checks.specs.declared.HashOp.TheVariants.{Distinct}
use Rattle.hash_walk.specs.Hashes.{hash_after}
use Rattle.hash_walk.proofs.WalkingLaws.{distinct_early, distinct_goes}
use Rattle.hashed_lists.proofs.HashedLaws.{refused_cleared, walked, cleared}
use Rattle.hashed_lists.proofs.set_ops.general_array_distinct_hashed.Goals as goal

pub returns-in_err-list_refusal : goal.returns-in_err-list_refusal
returns-in_err-list_refusal c =
    rw (handed_on _ _ c.from_residual.ensures)
    (record {
      meets = refused_cleared _ (distinct_early _ _ _ _ c.in_err-list_refusal.ensures (number_positive _)) c.clear_area.ensures;
      same = record { offsets = refl; rows = refl; elements = refl; values = refl; bits = refl };
    })

pub after_three-requires : goal.after_three-requires
after_three-requires c =
    let w = readable _ (sym c.in_ok-list_refusal.ensures) in
    record { begun = record { left = w; right = w; equal = refl }; clean = cleared _ c.clear_area.ensures }

pub returns : goal.returns
returns c =
    let C = column_in narrow_numbers c.args.list in
    let R = room_in c.args.out.now in
    let l = c.clear_area.auto.area in
    let w = c.after_three in
    record {
      meets = walked (distinct_goes C _ R 0 c.in_ok-list_refusal.ensures refl ∙ ap (λ (j : ℕ). hash_after Distinct C C j R) (sym l)) w.ensures.list_answers.meets w.ensures.clean_from (w.auto.area ∙ l);
      same = w.ensures.list_answers.same;
    }
