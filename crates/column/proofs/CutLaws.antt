-- Laws of rows a up to b of a column: its offsets from a on, one more than these rows, and its row bitmap from bit a on. The values and the
-- element bitmap stay, since offsets go on pointing into them.
use mathlib.Core.Path.{◌≡◌, refl, sym, ap, subst, ◌∙◌}
use mathlib.Core.Bool.{false, ◌||◌}
use mathlib.Core.List.{List, [], ◌∷◌}
use Prim.Native.Nat.{ℕ, zero, suc, ◌+◌, ◌-◌, ◌≤◌, ◌<◌}
use native.Mathlib.Omega.{arith}
use native.Mathlib.Nat.{zero-add}
use borrow.Author.Tests.{le-ltb}
use lib.Dec.{T}
use lib.IntN.{ℤ, pos, negsuc}
use lib.ListN.{length, get_or, take, drop, length-drop}
use lib.Seq.{get_or-take, get_or-drop, length-take-le, take-nil, drop-nil}
use lib.Signed.{lt_z}
use Rattle.model.specs.Basics.{tab}
use Rattle.model.specs.Column.{null_row, Column, column, count, offset_at, row_at, rows_of, row_count, falls, bad_offsets}
use Rattle.model.specs.Window.{cut}
use Rattle.model.proofs.BoolLaws.{or_none}
use Rattle.model.proofs.TabLaws.{tab-get_or}
use Rattle.model.proofs.ColumnLaws.{length-rows, row_at_lem}
use Rattle.model.proofs.WindowLaws.{length_cut, cut_at}
use Rattle.bitmap.specs.Push.{bits_from}
use Rattle.bitmap.proofs.PartLaws.{covers_from, valid_from}
use Rattle.column.specs.Put.{Readable}
use Rattle.column.proofs.OffsetLaws.{count_beyond, top}

-- ---- refusal 1 of a part of the offsets

not_negative : (x y : ℤ) → lt_z x (pos 0) ≡ false → lt_z y x ≡ false → lt_z y (pos 0) ≡ false
not_negative x (pos n) h k = le-ltb n 0 (omega arith)
not_negative (pos m) (negsuc n) h k = k
not_negative (negsuc m) (negsuc n) h k = absurd (subst T h tt)

bad_tail : (x : ℤ) (o : List ℤ) (n : ℕ) → bad_offsets (x ∷ o) n ≡ false → bad_offsets o n ≡ false
unfolding bad_offsets falls
bad_tail x [] n h = refl
bad_tail x (y ∷ o) n h =
    let p = or_none (lt_z x (pos 0)) (lt_z y x || falls y o n) h in
    let q = or_none (lt_z y x) (falls y o n) p.1 in
    rw (not_negative x y p.0 q.0) q.1

bad_drop : (o : List ℤ) (n a : ℕ) → bad_offsets o n ≡ false → bad_offsets (drop a o) n ≡ false
bad_drop o n zero h = h
bad_drop [] n (suc a) h = h
bad_drop (x ∷ o) n (suc a) h = bad_drop o n a (bad_tail x o n h)

below_top : (x : ℤ) (o : List ℤ) (n : ℕ) → bad_offsets (x ∷ o) n ≡ false → lt_z (pos n) x ≡ false
below_top x o n h = sym (count_beyond n x) ∙ le-ltb n (count x) (top (x ∷ o) n 0 h (omega arith))

falls-take : (x : ℤ) (o : List ℤ) (n k : ℕ) → bad_offsets (x ∷ o) n ≡ false → falls x (take k o) n ≡ false
unfolding bad_offsets falls
falls-take x o n zero h = below_top x o n h
falls-take x [] n (suc k) h = below_top x [] n h
falls-take x (y ∷ o) n (suc k) h = rw (or_none (lt_z y x) (falls y o n) (or_none (lt_z x (pos 0)) (lt_z y x || falls y o n) h).1).0 (falls-take y o n k (bad_tail x (y ∷ o) n h))

bad_take : (o : List ℤ) (n k : ℕ) → bad_offsets o n ≡ false → bad_offsets (take k o) n ≡ false
unfolding bad_offsets
bad_take o n zero h = refl
bad_take [] n (suc k) h = refl
bad_take (x ∷ o) n (suc k) h = rw (or_none (lt_z x (pos 0)) (falls x o n) h).0 (falls-take x o n k h)

-- ---- rows a up to b

abbrev pub part : Column → ℕ → ℕ → Column
part c a b = column (take (b + 1 - a) (drop a c.offsets)) (bits_from c.rows a) c.values c.elements

module _ (c : Column) (a b : ℕ) (h : a ≤ b) (k : b ≤ row_count c.offsets) where
  none : (o : List ℤ) → length o ≡ 0 → row_count (take (b + 1 - a) (drop a o)) ≡ 0
  none [] e = rw (drop-nil a, take-nil (b + 1 - a))
  none (x ∷ o) e = let z : ⊥ = omega arith in absurd z

  pub part_count : row_count (part c a b).offsets ≡ b - a
  part_count = go (length c.offsets) refl
    where
      go : (l : ℕ) → length c.offsets ≡ l → row_count (take (b + 1 - a) (drop a c.offsets)) ≡ b - a
      go zero e = none c.offsets e ∙ omega arith
      go (suc l) e =
          let d = length-drop a c.offsets in
          let t = length-take-le (b + 1 - a) (drop a c.offsets) (omega arith) in
          omega arith

  pub part_readable : Readable c → Readable (part c a b)
  part_readable r = record {
    offsets = bad_take (drop a c.offsets) (length c.values) (b + 1 - a) (bad_drop c.offsets (length c.values) a r.offsets);
    rows = rw part_count (covers_from c.rows a (b - a) (row_count c.offsets) r.rows (omega arith));
    elements = r.elements;
  }

  offset_part : (i : ℕ) → i < b + 1 - a → offset_at (part c a b).offsets i ≡ offset_at c.offsets (a + i)
  offset_part i l = ap count (get_or-take (b + 1 - a) (drop a c.offsets) i (pos 0) l ∙ get_or-drop a c.offsets i (pos 0))

  row_part : Readable c → (r : ℕ) → r < b - a → row_at (part c a b) r ≡ row_at c (a + r)
  unfolding row_at
  row_part g r l =
      let n : a + (r + 1) ≡ a + r + 1 = omega arith in
      rw (valid_from c.rows a (b - a) (row_count c.offsets) g.rows (omega arith) r l, offset_part r (omega arith), offset_part (r + 1) (omega arith), n)

  pub part_rows : Readable c → rows_of (part c a b) ≡ cut a b (rows_of c)
  unfolding rows_of
  part_rows g =
      let e = length_cut a b (row_count c.offsets) (rows_of c) h k (length-rows c) in
      ap (tab (row_at (part c a b)) 0) (part_count ∙ sym e) ∙ tab-get_or (row_at (part c a b)) 0 (cut a b (rows_of c)) null_row (λ r l. at r (rw e at l))
    where
      at : (r : ℕ) → r < b - a → row_at (part c a b) (0 + r) ≡ get_or (cut a b (rows_of c)) r null_row
      at r l =
          rw (zero-add r) (row_part g r l ∙ sym (cut_at a b (row_count c.offsets) (rows_of c) h k (length-rows c) r null_row l ∙ row_at_lem c (a + r) (omega arith)))
