-- Laws of the walk that writes a view. Values and bitmaps are written as in result form, beside offsets that are thought of and not kept;
-- offsets and sizes are stored place after place.
use mathlib.Core.Path.{◌≡◌, refl, ap, ◌∙◌}
use mathlib.Core.Bool.{Bool, true, false}
use mathlib.Core.List.{List, [], ◌∷◌}
use Prim.Native.Nat.{ℕ, ◌+◌, ◌-◌, ◌≤◌, ◌<◌}
use native.Mathlib.Omega.{arith}
use lib.IntN.{ℤ, pos}
use lib.ListN.{length, set, replicate, length-set, length-replicate}
use Rattle.model.specs.Basics.{tab, pick}
use Rattle.model.specs.Bitmap.{valid_at}
use Rattle.model.specs.Column.{Elem, Row, null_row, list_row, Column, elem_at, offset_at, row_at, rows_of, row_count}
use Rattle.model.specs.Form.{is_row, elems_of, length_of, flat}
use Rattle.model.specs.View.{View, size_at, view_at, view_offsets_from, view_offsets, view_sizes}
use Rattle.model.proofs.TabLaws.{tab-step, tab-none, length-tab, length-map}
use Rattle.model.proofs.ViewLaws.{length-view}
use Rattle.bitmap.specs.Push.{push_bit}
use Rattle.column.specs.Put.{RoomInˡ, RoomForElemsˡ, Writesˡ}
use Rattle.column.specs.Rows.{RoomForRowˡ, WritesRowˡ}
use Rattle.column.proofs.PutLaws.{sets_over}
use Rattle.column.proofs.WalkLaws.{Walking, walk_begun, walk_room, walk_small, walk_more, walk_done}
use Rattle.copy_rows.proofs.CopyLaws.{rows_at}
use Rattle.stores.proofs.StoreLaws as store
use Rattle.views.specs.ViewOutputs.{ViewRoomInˡ, FillsViewˡ}

-- ---- one row: its bit and its elements, none of a null row

abbrev pub shown : Bool → List Elem → Row
shown valid es = pick valid (list_row es) null_row

pub view_row : (c : View) (r a k : ℕ) {v : Bool} → v ≡ valid_at c.rows r → a ≡ offset_at c.offsets r → k ≡ size_at c r → shown v (tab (elem_at c.values c.elements) a k) ≡ view_at c r
unfolding view_at
view_row c r a k ev ea ek = rw (ev, ea, ek)

pub column_row : (c : Column) (r a b : ℕ) {v : Bool} → v ≡ valid_at c.rows r → a ≡ offset_at c.offsets r → b ≡ offset_at c.offsets (r + 1) → shown v (tab (elem_at c.values c.elements) a (b - a)) ≡ row_at c r
unfolding row_at
column_row c r a b ev ea eb = rw (ev, ea, eb)

pub shown-bit : (v : Bool) (es : List Elem) → is_row (shown v es) ≡ v
unfolding is_row
shown-bit true es = refl
shown-bit false es = refl

shown_elems : (v : Bool) (es : List Elem) → elems_of (shown v es) ≡ pick v es []
unfolding elems_of
shown_elems true es = refl
shown_elems false es = refl

-- where there is room for the row, there is for its elements
pub shown_room : (v : Bool) (es : List Elem) {r at lr lv le : ℕ} → RoomForRowˡ (shown v es) r at lr lv le → RoomForElemsˡ (pick v es []) at lv le
shown_room v es m = rw (← shown_elems v es) (record { values = m.values; elements = m.elements })

-- its bit and its elements make it
pub shown_put : (v : Bool) (es : List Elem) {r at k : ℕ} {ro ro' : List ℕ} {vo vo' : List ℤ} {eo eo' : List ℕ} → ro' ≡ push_bit ro r v → Writesˡ (pick v es []) at vo vo' eo eo' k → WritesRowˡ (shown v es) r at ro ro' vo vo' eo eo' k
shown_put v es p w = record { rows = rw (shown-bit v es) p; values = rw (shown_elems v es) w.values; elements = rw (shown_elems v es) w.elements; place = rw (shown_elems v es) w.next }

-- ---- the rows

abbrev zeros : ℕ → List ℤ
zeros n = replicate (n + 1) (pos 0)

abbrev zeroed : ℕ → List ℤ
zeroed n = set (zeros n) 0 (pos 0)

length_zeroed : (n : ℕ) → length (zeroed n) ≡ n + 1
length_zeroed n = length-set (zeros n) 0 (pos 0) ∙ length-replicate (n + 1) (pos 0)

pub record Showing (W : ℕ → Row) (n : ℕ) (oo₀ so₀ : List ℤ) (d₂ : List ℕ) (d₃ : List ℤ) (d₄ : List ℕ) (oo so : List ℤ) (ro : List ℕ) (v : List ℤ) (e : List ℕ) (r at left : ℕ) : Type 0 where
  pub thought : List ℤ
  pub walk : Walking W n (zeroed n) d₂ d₃ d₄ thought ro v e r at left
  pub offsets : store.Storing (view_offsets (tab W 0 n)) 0 oo₀ (view_offsets_from at (tab W r left)) r oo
  pub sizes : store.Storing (view_sizes (tab W 0 n)) 0 so₀ (view_sizes (tab W r left)) r so

-- the room, by the code's count of the rows
pub view-room-at : (c : Column) (n : ℕ) → n ≡ row_count c.offsets → {lo ls lr lv le : ℕ} → ViewRoomInˡ (row_count c.offsets) (length (flat (rows_of c))) lo ls lr lv le → ViewRoomInˡ n (length (flat (tab (row_at c) 0 n))) lo ls lr lv le
view-room-at c n e m = rw (rows_at c n e, e) m

module _ (W : ℕ → Row) (n : ℕ) where
  next-offset : (r at left : ℕ) → 0 < left → view_offsets_from at (tab W r left) ≡ pos (pick (is_row (W r)) at 0) ∷ view_offsets_from (at + length_of (W r)) (tab W (r + 1) (left - 1))
  unfolding view_offsets_from
  next-offset r at left h = rw (tab-step W r left h)

  next-size : (r left : ℕ) → 0 < left → view_sizes (tab W r left) ≡ pos (length_of (W r)) ∷ view_sizes (tab W (r + 1) (left - 1))
  next-size r left h = rw (tab-step W r left h)

  all_offsets : length (view_offsets (tab W 0 n)) ≡ n
  all_offsets = length-view 0 (tab W 0 n) ∙ length-tab W 0 n

  all_sizes : length (view_sizes (tab W 0 n)) ≡ n
  all_sizes = length-map (λ w. pos (length_of w)) (tab W 0 n) ∙ length-tab W 0 n

  pub show_begun : (oo so : List ℤ) (ro : List ℕ) (v : List ℤ) (e : List ℕ) → Showing W n oo so ro v e oo so ro v e 0 0 n
  show_begun oo so ro v e = record { thought = zeroed n; walk = walk_begun W n (zeroed n) ro v e; offsets = store.begun; sizes = store.begun }

  thought_room : {k lo ls lr lv le : ℕ} (l : ℕ) → l ≡ n + 1 → ViewRoomInˡ n k lo ls lr lv le → RoomInˡ n k l lr lv le
  thought_room l q m = record { offsets = omega arith; rows = m.rows; values = m.values; elements = m.elements }

  -- a turn that writes row r as w
  module _ {r left : ℕ} {oo₀ so₀ : List ℤ} {d₂ : List ℕ} {d₃ : List ℤ} {d₄ : List ℕ} {oo so : List ℤ} {ro : List ℕ} {v : List ℤ} {e : List ℕ} {at : ℕ} (w : Row) (h : 0 < left) (same_row : w ≡ W r) (s : Showing W n oo₀ so₀ d₂ d₃ d₄ oo so ro v e r at left) where
    module _ (m : ViewRoomInˡ n (length (flat (tab W 0 n))) (length oo₀) (length so₀) (length d₂) (length d₃) (length d₄)) where
      pub show_room : RoomForRowˡ w r at (length ro) (length v) (length e)
      show_room = walk_room W n w h same_row s.walk (thought_room (length (zeroed n)) (length_zeroed n) m)

    module _ {ro' : List ℕ} {v' : List ℤ} {e' : List ℕ} {k : ℕ} (p : WritesRowˡ w r at ro ro' v v' e e' k) where
      pub show_small : k ≤ length (flat (tab W 0 n))
      show_small = walk_small W n w h same_row s.walk p

      pub show_rises : at ≤ k
      show_rises = omega (arith, p.place)

      module _ (begin size : ℕ) {oo' so' : List ℤ} (b : begin ≡ pick (is_row w) at 0) (z : size ≡ k - at) (x : oo' ≡ set oo r (pos begin)) (y : so' ≡ set so r (pos size)) where
        size_is : size ≡ length_of (W r)
        size_is = let d : size ≡ length_of w = omega (arith, p.place) in d ∙ ap length_of same_row

        place_is : k ≡ at + length_of (W r)
        place_is = p.place ∙ ap (λ (u : Row). at + length_of u) same_row

        pub show_more : Showing W n oo₀ so₀ d₂ d₃ d₄ oo' so' ro' v' e' (r + 1) k (left - 1)
        show_more = record {
          thought = set s.thought (r + 1) (pos k);
          walk = walk_more W n w h same_row s.walk p refl;
          offsets = rw place_is (store.more s.offsets (pos (pick (is_row (W r)) at 0)) _ (next-offset r at left h) (x ∙ rw (b, same_row)));
          sizes = store.more s.sizes (pos (length_of (W r))) _ (next-size r left h) (y ∙ rw size_is);
        }

  -- the end
  pub show_done : {oo₀ so₀ : List ℤ} {d₂ : List ℕ} {d₃ : List ℤ} {d₄ : List ℕ} {oo so : List ℤ} {ro : List ℕ} {v : List ℤ} {e : List ℕ} {r at left : ℕ} → Showing W n oo₀ so₀ d₂ d₃ d₄ oo so ro v e r at left → left ≤ 0
      → ViewRoomInˡ n (length (flat (tab W 0 n))) (length oo₀) (length so₀) (length d₂) (length d₃) (length d₄) → FillsViewˡ (tab W 0 n) oo₀ oo so₀ so d₂ ro d₃ v d₄ e
  unfolding view_offsets_from
  show_done {oo₀} {so₀} {r = r} {at = at} {left = left} s h m =
      let f = walk_done W n (zeros n) s.walk h refl (thought_room (length (zeros n)) (length-replicate (n + 1) (pos 0)) m) in
      let t = tab-none W r left h in
      record {
        offsets = store.done s.offsets (rw t) ∙ sets_over [] (view_offsets (tab W 0 n)) oo₀ (omega (arith, m.offsets, all_offsets));
        sizes = store.done s.sizes (rw t) ∙ sets_over [] (view_sizes (tab W 0 n)) so₀ (omega (arith, m.sizes, all_sizes));
        rows = f.rows;
        values = f.values;
        elements = f.elements;
      }
