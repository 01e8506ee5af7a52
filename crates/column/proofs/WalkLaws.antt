-- Laws of the two walks over rows, for every operation and every width of offsets: W r is the row that is made for row r, of n.
use mathlib.Core.Path.{◌≡◌, refl, ap, ◌∙◌}
use mathlib.Core.Bool.{Bool, true, false, ◌||◌}
use mathlib.Core.List.{List, [], ◌∷◌, map}
use Prim.Native.Nat.{ℕ, ◌+◌, ◌-◌, ◌≤◌, ◌<◌}
use native.Mathlib.Omega.{arith}
use borrow.Author.Tests.{ltb-false}
use lib.IntN.{ℤ, pos}
use lib.ListN.{length, set, length-set}
use lib.Seq.{length-sets}
use Rattle.model.specs.Basics.{tab, pick, any}
use Rattle.model.specs.Bitmap.{short_bits}
use Rattle.model.specs.Column.{Row, Column, elem_at, row_at, row_count, offset_at, over_seven, refusal13, refusal1, refusal2}
use Rattle.model.specs.Form.{value_of, elems_of, flat}
use Rattle.model.specs.Outcome.{columns_refusal}
use Rattle.model.proofs.TabLaws.{tab-step, tab-none, length-tab}
use Rattle.bitmap.proofs.BitLaws.{length-push_bit, length-push_bits}
use Rattle.column.specs.Put.{Outs, outs, put_row, put_rows, Readable, RoomInˡ, Fillsˡ}
use Rattle.column.specs.Rows.{row_from, ReadableRowˡ, RoomForRowˡ, WritesRowˡ}
use Rattle.column.proofs.OffsetLaws.{mono, top}
use Rattle.column.proofs.RowLaws.{length-step, length_none}
use Rattle.column.proofs.PutLaws.{rows_more, walked}
use Rattle.model.proofs.BoolLaws.{or_none}

-- an offset put keeps the number of them
pub put_keeps : (o : List ℤ) (i v : ℕ) {o' : List ℤ} → o' ≡ set o i (pos v) → length o' ≡ length o
put_keeps o i v e = ap length e ∙ length-set o i (pos v)

-- ---- one row of a column

pub row_from_lem : (c : Column) (r a b : ℕ) → a ≡ offset_at c.offsets r → b ≡ offset_at c.offsets (r + 1) → row_from c.rows (elem_at c.values c.elements) r a b ≡ row_at c r
unfolding row_at row_from
row_from_lem c r a b ea eb = rw (ea, eb)

pub between : (c : Column) (n r a b : ℕ) → Readable c → n ≡ row_count c.offsets → r < n → a ≡ offset_at c.offsets r → b ≡ offset_at c.offsets (r + 1) → ReadableRowˡ c.rows n c.values c.elements r a b
between c n r a b w e h ea eb = rw (e, ea, eb) (record {
  there = omega arith;
  rises = mono c.offsets (length c.values) r w.offsets (omega arith);
  inside = top c.offsets (length c.values) (r + 1) w.offsets (omega arith);
  rows = w.rows;
  elements = w.elements;
})

-- ---- the measuring walk: what was found is at most below and at most large

pub record Summing (W : ℕ → Row) (n below large found r left : ℕ) : Type 0 where
  pub sum : found + length (flat (tab W r left)) ≡ length (flat (tab W 0 n))
  pub rows : r + left ≡ n
  pub low : found ≤ below
  pub small : found ≤ large

module _ (W : ℕ → Row) (n large : ℕ) where
  pub sum_begun : (low : ℕ) → Summing W n low large 0 0 n
  sum_begun low = record { sum = omega arith; rows = omega arith; low = omega arith; small = omega arith }

  pub sum_done : {low found r left : ℕ} → Summing W n low large found r left → left ≤ 0 → found ≡ length (flat (tab W 0 n))
  sum_done {low} {found} {r} {left} s h = omega (arith, s.sum, length_none W r left h)

  pub sum_more : {low found r left : ℕ} (k a b : ℕ) → Summing W n low large found r left → 0 < left → k ≡ length (elems_of (W r)) → k ≤ b - a → a ≤ b → low ≡ a → b ≤ large → Summing W n b large (found + k) (r + 1) (left - 1)
  sum_more {low} {found} {r} {left} k a b s h e l u z t = record {
    sum = omega (arith, s.sum, length-step W r left h);
    rows = omega (arith, s.rows);
    low = omega (arith, s.low);
    small = omega (arith, s.low);
  }

-- ---- the writing walk

pub record Walking (W : ℕ → Row) (n : ℕ) (o₀ : List ℤ) (d₂ : List ℕ) (d₃ : List ℤ) (d₄ : List ℕ) (o : List ℤ) (ro : List ℕ) (v : List ℤ) (e : List ℕ) (r at left : ℕ) : Type 0 where
  pub same : put_rows (outs o ro v e r at) (tab W r left) ≡ put_rows (outs o₀ d₂ d₃ d₄ 0 0) (tab W 0 n)
  pub sum : at + length (flat (tab W r left)) ≡ length (flat (tab W 0 n))
  pub rows : r + left ≡ n
  pub lo : length o ≡ length o₀
  pub lr : length ro ≡ length d₂
  pub lv : length v ≡ length d₃
  pub le : length e ≡ length d₄

pub kept-room : {n m lo lo' lr lv le : ℕ} → RoomInˡ n m lo lr lv le → lo' ≡ lo → RoomInˡ n m lo' lr lv le
kept-room m e = rw e m

module _ (W : ℕ → Row) (n : ℕ) where
  pub walk_begun : (o : List ℤ) (ro : List ℕ) (v : List ℤ) (e : List ℕ) → Walking W n o ro v e o ro v e 0 0 n
  walk_begun o ro v e = record { same = refl; sum = omega arith; rows = omega arith; lo = refl; lr = refl; lv = refl; le = refl }

  -- a turn that writes row r as w
  module _ {r left : ℕ} {o₀ : List ℤ} {d₂ : List ℕ} {d₃ : List ℤ} {d₄ : List ℕ} {o : List ℤ} {ro : List ℕ} {v : List ℤ} {e : List ℕ} {at : ℕ} (w : Row) (h : 0 < left) (same_row : w ≡ W r) (s : Walking W n o₀ d₂ d₃ d₄ o ro v e r at left) where
    turn : length (flat (tab W r left)) ≡ length (elems_of w) + length (flat (tab W (r + 1) (left - 1)))
    turn = length-step W r left h ∙ rw same_row

    module _ (m : RoomInˡ n (length (flat (tab W 0 n))) (length o₀) (length d₂) (length d₃) (length d₄)) where
      pub walk_room : RoomForRowˡ w r at (length ro) (length v) (length e)
      walk_room = record {
        rows = omega (arith, s.rows, s.lr, m.rows);
        values = omega (arith, s.sum, s.lv, m.values, turn);
        elements = omega (arith, s.sum, s.le, m.elements, turn);
      }

      pub walk_slot : r + 1 < length o
      walk_slot = omega (arith, s.rows, s.lo, m.offsets)

    module _ {ro' : List ℕ} {v' : List ℤ} {e' : List ℕ} {k : ℕ} (p : WritesRowˡ w r at ro ro' v v' e e' k) where
      pub walk_small : k ≤ length (flat (tab W 0 n))
      walk_small = omega (arith, s.sum, p.place, turn)

      put_same : (o' : List ℤ) → o' ≡ set o (r + 1) (pos k) → outs o' ro' v' e' (r + 1) k ≡ put_row (outs o ro v e r at) (W r)
      put_same o' q = rw (q, ← same_row, p.rows, p.values, p.elements, p.place)

      pub walk_more : {o' : List ℤ} → o' ≡ set o (r + 1) (pos k) → Walking W n o₀ d₂ d₃ d₄ o' ro' v' e' (r + 1) k (left - 1)
      walk_more {o'} q = record {
        same = rows_more _ _ (W r) (outs o ro v e r at) _ _ (tab-step W r left h) (put_same o' q) s.same;
        sum = omega (arith, s.sum, p.place, turn);
        rows = omega (arith, s.rows);
        lo = ap length q ∙ length-set o (r + 1) (pos k) ∙ s.lo;
        lr = ap length p.rows ∙ length-push_bit ro r _ ∙ s.lr;
        lv = ap length p.values ∙ length-sets v at (map value_of (elems_of w)) ∙ s.lv;
        le = ap length p.elements ∙ length-push_bits e at _ ∙ s.le;
      }

  -- the end
  pub walk_done : (d₁ : List ℤ) {o₀ : List ℤ} {d₂ : List ℕ} {d₃ : List ℤ} {d₄ : List ℕ} {o : List ℤ} {ro : List ℕ} {v : List ℤ} {e : List ℕ} {r at left : ℕ} → Walking W n o₀ d₂ d₃ d₄ o ro v e r at left → left ≤ 0 → o₀ ≡ set d₁ 0 (pos 0)
      → RoomInˡ n (length (flat (tab W 0 n))) (length d₁) (length d₂) (length d₃) (length d₄) → Fillsˡ (tab W 0 n) d₁ o d₂ ro d₃ v d₄ e
  unfolding put_rows
  walk_done d₁ {o₀} {d₂} {d₃} {d₄} {o} {ro} {v} {e} {r} {at} {left} s h q m =
      let w = walked d₁ d₂ d₃ d₄ (tab W 0 n) (rw (length-tab W 0 n) m) in
      let z = (rw (tab-none W r left h, q) at s.same) ∙ w in
      record {
        offsets = ap (λ (x : Outs). x.offsets) z;
        rows = ap (λ (x : Outs). x.rows) z;
        values = ap (λ (x : Outs). x.values) z;
        elements = ap (λ (x : Outs). x.elements) z;
      }

-- ---- the checks

none_cases : (w x y : Bool) → ◌≡◌ {A = ℕ} (pick ((w || false) || false) 13 (pick (x || false) 1 (pick ((y || false) || false) 2 0))) 0 → (w ≡ false) × (x ≡ false) × (y ≡ false)
none_cases true x y e = let z : ⊥ = omega arith in absurd z
none_cases false true y e = let z : ⊥ = omega arith in absurd z
none_cases false false true e = let z : ⊥ = omega arith in absurd z
none_cases false false false e = (refl, refl, refl)

-- a list column that gives neither 13 nor 1 nor 2 can be read
pub readable : (c : Column) → columns_refusal (c ∷ []) [] ≡ 0 → Readable c
unfolding columns_refusal any refusal13 refusal2
readable c z =
    let n = none_cases (over_seven c.rows || over_seven c.elements) (refusal1 c) (short_bits c.rows (row_count c.offsets) || short_bits c.elements (length c.values)) z in
    let s = or_none (over_seven c.rows) (over_seven c.elements) n.0 in
    let b = or_none (short_bits c.rows (row_count c.offsets)) (short_bits c.elements (length c.values)) n.2 in
    record {
      offsets = n.1;
      rows = record { small = omega (arith, ltb-false 7 c.rows.start s.0); long = b.0 };
      elements = record { small = omega (arith, ltb-false 7 c.elements.start s.1); long = b.1 };
    }
