-- Laws of what a work area must hold: the greatest of a list, row by row, and that it is the definition's.
use Prim.Native.Nat.{ℕ, zero, suc, ◌+◌, ◌-◌, ◌≤◌, ◌<◌, max}
use mathlib.Core.Path.{◌≡◌, refl, sym, ap, ◌∙◌}
use mathlib.Core.Bool.{Bool, true, false, ◌&&◌}
use mathlib.Core.List.{List}
use native.Mathlib.Nat.{zero-add}
use native.Mathlib.Omega.{arith}
use lib.ListN.{length}
use Rattle.model.specs.Basics.{pick, tab}
use Rattle.model.specs.Bitmap.{valid_at}
use Rattle.model.specs.Column.{Elem, null_row, list_row, Column, elem_at, offset_at, length_at, row_at, rows_of, row_count}
use Rattle.model.specs.Form.{elems_of, length_of}
use Rattle.model.specs.Hash.{distinct_of, set_of, longest, pair_length, longest_in}
use Rattle.model.specs.Limits.{narrow}
use Rattle.model.specs.Rows.{row_of}
use Rattle.model.specs.declared.SetOp.{SetOp}
use Rattle.model.proofs.ColumnLaws.{length-rows, row_at_lem}
use Rattle.model.proofs.TabLaws.{length-tab, tab-step, tab-none, tab_ext, map-tab}
use Rattle.hash_checks.specs.Area.{row_need, need_at, most_needed}
use Rattle.hash_checks.specs.declared.HashOp.{HashOp}
use Rattle.hash_checks.specs.declared.HashOp.TheVariants.{Distinct, Pair}

-- ---- the greatest, in the code's terms

pub record Greatest (f : ℕ → ℕ) (n most r : ℕ) : Type 0 where
  pub same : max most (longest (tab f r (n - r))) ≡ longest (tab f 0 n)
  pub low : most ≤ 4294967294

module _ (f : ℕ → ℕ) (n : ℕ) where
  more : (r : ℕ) → r < n → longest (tab f r (n - r)) ≡ max (f r) (longest (tab f (r + 1) (n - (r + 1))))
  unfolding longest
  more r h = let e : n - r - 1 ≡ n - (r + 1) = omega arith in ap longest (tab-step f r (n - r) (omega arith)) ∙ rw e

  none : (r : ℕ) → n ≤ r → longest (tab f r (n - r)) ≡ 0
  unfolding longest
  none r h = ap longest (tab-none f r (n - r) (omega arith))

  pub greatest_more : {most r : ℕ} (k m : ℕ) → Greatest f n most r → r < n → k ≡ f r → k ≤ 4294967294 → m ≡ max most k → Greatest f n m (r + 1)
  greatest_more {most} {r} k m g h e l q = record { same = omega (arith, more r h, q, e, g.same); low = omega (arith, g.low) }

  pub greatest_done : {most r : ℕ} → Greatest f n most r → n ≤ r → most ≡ longest (tab f 0 n)
  greatest_done {most} {r} g h = omega (arith, g.same, none r h)

-- each of a list is at most the greatest
pub longest_ge : (f : ℕ → ℕ) (a n i : ℕ) → i < n → f (a + i) ≤ longest (tab f a n)
unfolding longest tab
longest_ge f a zero i h = let z : ⊥ = omega arith in absurd z
longest_ge f a (suc n) zero h = let e : a + 0 ≡ a = omega arith in rw e (omega arith)
longest_ge f a (suc n) (suc i) h = let e : suc a + i ≡ a + suc i = omega arith in let g = longest_ge f (suc a) n i (omega arith) in let k = rw e at g in omega (arith, k)

-- ---- one row

pub need_le : (op : HashOp) (n m : ℕ) → n ≤ narrow.offset → m ≤ narrow.offset → row_need op n m ≤ 4294967294
unfolding row_need
need_le Distinct n m h k = omega arith
need_le (Pair s) n m h k = omega arith

pub valid_le : (op : HashOp) (v : Bool) (n m : ℕ) → n ≤ narrow.offset → m ≤ narrow.offset → pick v (row_need op n m) 0 ≤ 4294967294
valid_le op true n m h k = need_le op n m h k
valid_le op false n m h k = omega arith

-- what the code finds for the rows r
pub need_here : (op : HashOp) (c d : Column) (r n m : ℕ) {v : Bool} {k : ℕ} → n ≡ length_at c r → m ≡ length_at d r → v ≡ valid_at c.rows r && valid_at d.rows r → k ≡ pick v (row_need op n m) 0 → k ≡ need_at op c d r
unfolding need_at
need_here op c d r n m hn hm hv hk = hk ∙ rw (hn, hm, hv)

-- ---- the definition's

row_length : (v : Bool) (es : List Elem) → length (elems_of (pick v (list_row es) null_row)) ≡ pick (v && v) (length es) 0
unfolding elems_of
row_length true es = refl
row_length false es = refl

pair_length_lem : (v w : Bool) (es fs : List Elem) → pair_length (pick v (list_row es) null_row) (pick w (list_row fs) null_row) ≡ pick (v && w) (length es + length fs) 0
unfolding pair_length
pair_length_lem true true es fs = refl
pair_length_lem true false es fs = refl
pair_length_lem false w es fs = refl

module _ (c : Column) where
  distinct-at : (r : ℕ) → length_of (row_at c r) ≡ need_at Distinct c c r
  unfolding row_at need_at row_need
  distinct-at r = row_length (valid_at c.rows r) (tab (elem_at c.values c.elements) (offset_at c.offsets r) (length_at c r)) ∙ rw (length-tab (elem_at c.values c.elements) (offset_at c.offsets r) (length_at c r))

  pub needed_distinct : most_needed Distinct c c ≡ longest_in (distinct_of (rows_of c))
  unfolding most_needed longest_in rows_of
  needed_distinct =
      sym (ap longest (map-tab length_of (row_at c) 0 (row_count c.offsets) ∙ tab_ext (λ r. length_of (row_at c r)) (need_at Distinct c c) 0 0 (row_count c.offsets) (λ r h. distinct-at (0 + r))))

module _ (k : SetOp) (c d : Column) where
  pair_at_lem : (r : ℕ) → pair_length (row_at c r) (row_at d r) ≡ need_at (Pair k) c d r
  unfolding row_at need_at row_need
  pair_at_lem r =
      pair_length_lem (valid_at c.rows r) (valid_at d.rows r) (tab (elem_at c.values c.elements) (offset_at c.offsets r) (length_at c r)) (tab (elem_at d.values d.elements) (offset_at d.offsets r) (length_at d r))
      ∙ rw (length-tab (elem_at c.values c.elements) (offset_at c.offsets r) (length_at c r), length-tab (elem_at d.values d.elements) (offset_at d.offsets r) (length_at d r))

  pub needed_pair : row_count d.offsets ≡ row_count c.offsets → most_needed (Pair k) c d ≡ longest_in (set_of k (rows_of c) (rows_of d))
  unfolding most_needed longest_in
  needed_pair e =
      sym (ap longest (rw (length-rows c) (tab_ext (λ r. pair_length (row_of (rows_of c) r) (row_of (rows_of d) r)) (need_at (Pair k) c d) 0 0 (row_count c.offsets) (λ r h. rw (zero-add r, row_at_lem c r h, row_at_lem d r (rw e h)) (pair_at_lem r)))))
