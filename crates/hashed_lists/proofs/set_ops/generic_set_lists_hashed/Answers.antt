-- The area cleared, then 13, 1, 2 and 3, then the walk.
use Rattle.std.proofs.Common.{ℕ, refl, sym, ap, ◌∙◌}
use Rattle.column.specs.Columns.{column_in}
use Rattle.column.specs.Outputs.{room_in}
use Rattle.checks.proofs.RefusedLaws.{handed_on, number_positive}
use Rattle.hash_checks.specs.Narrow.{narrow_numbers}
use Rattle.hash_checks.specs.declared.HashOp.TheVariants.{Pair}
use Rattle.hash_walk.specs.Hashes.{hash_after}
use Rattle.hash_walk.proofs.WalkingLaws.{set_early, set_goes}
use Rattle.hashed_lists.proofs.HashedLaws.{refused_cleared, walked, cleared}
use Rattle.hashed_lists.proofs.set_ops.generic_set_lists_hashed.Goals as goal

pub returns-in_err-early : goal.returns-in_err-early
returns-in_err-early c =
    rw (handed_on _ _ c.from_residual.ensures)
    (record {
      meets = refused_cleared _ (set_early c.args.set_op _ _ _ _ _ (c.in_err-early.ensures.value c.args.set_op) (number_positive _)) c.clear_area.ensures;
      same = record { offsets = refl; rows = refl; elements = refl; values = refl; bits = refl };
    })

pub after_three-requires : goal.after_three-requires
after_three-requires c = record { begun = c.in_ok-early.ensures.begun refl; clean = cleared _ c.clear_area.ensures }

pub returns : goal.returns
returns c =
    let a = c.args in
    let C = column_in narrow_numbers a.left in
    let D = column_in narrow_numbers a.right in
    let R = room_in a.out.now in
    let l = c.clear_area.auto.area in
    let w = c.after_three in
    record {
      meets = walked (set_goes a.set_op C D _ R 0 (c.in_ok-early.ensures.value a.set_op) refl (c.in_ok-early.ensures.begun refl).equal ∙ ap (λ (j : ℕ). hash_after (Pair a.set_op) C D j R) (sym l)) w.ensures.list_answers.meets w.ensures.clean_from (w.auto.area ∙ l);
      same = w.ensures.list_answers.same;
    }
