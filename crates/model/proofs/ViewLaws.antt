-- Laws of ListView columns: two that show equal rows, and one that nothing refuses.
use Prim.Native.Nat.{ℕ, suc, ◌+◌, ◌<◌}
use mathlib.Core.Path.{◌≡◌, refl, ap}
use mathlib.Core.Bool.{true}
use native.Mathlib.Nat.{zero-add}
use lib.ListN.{length}
use Rattle.model.specs.Basics.{All, none, more, tab}
use Rattle.model.specs.Bitmap.{valid_at}
use Rattle.model.specs.Column.{Row, null_row, list_row, elem_at, offset_at}
use Rattle.model.specs.Form.{length_of}
use Rattle.model.specs.View.{View, view_offsets_from, view_at, view_rows, size_at, view_refusal, WellFormedᵛ, EqualViews}
use mathlib.Core.List.{List, [], ◌∷◌}
use Rattle.model.proofs.TabLaws.{tab_ext}
use Rattle.model.proofs.ColumnLaws.{pick_same}

module _ {c d : View} (e : EqualViews c d) where
  same_view : (r : ℕ) → r < length c.offsets → view_at c r ≡ view_at d r
  unfolding view_at
  same_view r l = pick_same (valid_at c.rows r) (valid_at d.rows r) _ _ null_row (e.nulls r l) (λ v. ap list_row (same_elems v))
    where
      same_elems : valid_at c.rows r ≡ true → tab (elem_at c.values c.elements) (offset_at c.offsets r) (size_at c r) ≡ tab (elem_at d.values d.elements) (offset_at d.offsets r) (size_at d r)
      same_elems v = rw (← e.lengths r l v) (tab_ext (elem_at c.values c.elements) (elem_at d.values d.elements) (offset_at c.offsets r) (offset_at d.offsets r) (size_at c r) (λ i h. e.places r i l v h))

  pub same_views : view_rows c ≡ view_rows d
  unfolding view_rows
  same_views = rw (← e.many) (tab_ext (view_at c) (view_at d) 0 0 _ (λ r l. simp zero-add (same_view r l)))

pub formed-view : {v : View} → All WellFormedᵛ (v ∷ []) → view_refusal v ≡ 0
unfolding view_refusal
formed-view (more f none) = rw (f.not13, f.not2, f.not3, f.not11)

pub length-view : (at : ℕ) (ws : List Row) → length (view_offsets_from at ws) ≡ length ws
unfolding view_offsets_from
length-view at [] = refl
length-view at (w ∷ ws) = ap suc (length-view (at + length_of w) ws)
