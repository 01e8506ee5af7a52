-- Laws of argument columns cut out of one slice.
use Prim.Native.Nat.{ℕ, ◌+◌, ◌*◌, ◌<◌, ◌≤◌}
use mathlib.Core.Path.{◌≡◌, refl, sym, ap, ◌∙◌}
use mathlib.Core.Bool.{Bool, true, false, ◌&&◌}
use native.Mathlib.Omega.{arith}
use native.Mathlib.Nat.{zero-add}
use lib.Dec.{ltb, eqb}
use lib.ListN.{length, take, drop}
use Rattle.model.specs.Basics.{pick, tab}
use Rattle.model.specs.Column.{Arguments, elem_at, shown_by}
use Rattle.model.specs.Rows.{argument_of}
use Rattle.model.proofs.ColumnLaws.{argument_at}
use Rattle.model.proofs.TabLaws.{tab_ext}
use Rattle.bitmap.specs.Push.{Covers, bits_from}
use Rattle.bitmap.proofs.PartLaws.{covers_from}
use Rattle.column.specs.Put.{ReadableElemsˡ}
use Rattle.set_elements.proofs.PartLaws.{row_from_lem, length_part}
use Rattle.ops.specs.Ops.{call_of, takes_of, table}
use Rattle.ops.specs.declared.ListOp.{ListOp}
use Rattle.ops.specs.declared.ListOp.TheVariants as L
use Rattle.arguments.specs.Taken.{place_in, Serves}
use Rattle.one_list.specs.Uses.{LiesIn, column_at, column_cut}

place_cases : (t : Bool) (n r : ℕ) → r < n → pick t 0 r < n
place_cases true n r h = omega arith
place_cases false n r h = h

place_lt : (limit : Bool) (n r : ℕ) → r < n → place_in limit n r < n
unfolding place_in
place_lt limit n r h = place_cases (limit && eqb n 1) n r h

module _ (e : Arguments) (g : Covers e.bits (length e.values)) (k p n : ℕ) (used : Bool) (w : LiesIn used k p n (length e.values))
    {lent : Bool} {x : Arguments} (l : lent ≡ used) (v : x ≡ column_cut e p (pick lent n 0) k) (u : used ≡ true) where
  inside : k * p + n ≤ length e.values
  unfolding LiesIn
  inside = rw u at w

  source : ReadableElemsˡ e.values e.bits (k * p) n
  source = record { inside = inside; bits = g }

  column_is : x ≡ column_cut e p n k
  column_is = rw (v, l, u)

  pub column_serves : (limit : Bool) → Serves limit n x
  column_serves limit =
      let len = length_part e.values e.bits (k * p) n source in
      rw column_is (record {
        bits = rw len (covers_from e.bits (k * p) n (length e.values) g inside);
        there = λ r h. rw len (place_lt limit n r h);
      })

  shown-there : (i : ℕ) → i < n → elem_at e.values e.bits (k * p + i) ≡ argument_of (shown_by e) (k * p + (0 + i))
  shown-there i h = let y = zero-add i in rw y (sym (argument_at e (k * p + i) (omega (arith, inside))))

  cut-shown : shown_by (column_cut e p n k) ≡ column_at (shown_by e) p n k
  unfolding shown_by
  cut-shown =
      ap (tab (elem_at (take n (drop (k * p) e.values)) (bits_from e.bits (k * p))) 0) (length_part e.values e.bits (k * p) n source)
      ∙ sym (row_from_lem e.values e.bits (k * p) n source)
      ∙ tab_ext (elem_at e.values e.bits) (λ r. argument_of (shown_by e) (k * p + r)) (k * p) 0 n shown-there

  pub column-shown : shown_by x ≡ column_at (shown_by e) p n k
  column-shown = ap shown_by column_is ∙ cut-shown

-- a call sees the columns that it takes alone
pub call_same : {C A : Type 0} (op : ListOp) (c : C) {x x' y y' z z' : A} → (ltb 0 (takes_of op) ≡ true → x ≡ x') → (ltb 1 (takes_of op) ≡ true → y ≡ y') → (ltb 2 (takes_of op) ≡ true → z ≡ z') → call_of op c x y z ≡ call_of op c x' y' z'
unfolding call_of table
call_same (L.Plain u) c f g h = refl
call_same L.Slice c f g h = rw (f refl, g refl)
call_same L.SliceBy c f g h = rw (f refl, g refl, h refl)
call_same L.Resize c f g h = rw (f refl)
call_same L.ResizeWith c f g h = rw (f refl, g refl)
call_same L.Replace c f g h = rw (f refl, g refl, h refl)
call_same L.Remove c f g h = rw (f refl, g refl)
