-- Laws of the refusals of a view: 11 of one row and of the rows in order, and what holds where none applies.
use mathlib.Core.Path.{◌≡◌, refl, sym}
use mathlib.Core.Bool.{Bool, true, false, not, ◌||◌}
use Prim.Native.Nat.{ℕ, zero, suc, ◌+◌, ◌-◌, ◌≤◌, ◌<◌}
use native.Mathlib.Nat.{zero-add}
use native.Mathlib.Omega.{arith}
use borrow.Author.Tests.{ltb-false, le-ltb}
use lib.Dec.{ltb, eqb}
use lib.IntN.{ℤ, pos}
use lib.ListN.{length, get_or}
use lib.Signed.{lt_z}
use Rattle.model.specs.Basics.{tab, pick, any}
use Rattle.model.specs.Bitmap.{short_bits}
use Rattle.model.specs.Column.{count, offset_at, over_seven}
use Rattle.model.specs.View.{View, outside_of, size_at, view_outside, refusal13ᵛ, refusal2ᵛ, refusal3ᵛ, refusal11, view_refusal}
use Rattle.model.proofs.BoolLaws.{or_none, same_number}
use Rattle.model.proofs.TabLaws.{tab-step, tab-none}
use Rattle.column.proofs.OffsetLaws.{count_beyond}
use Rattle.view_checks.specs.Views.{ReadableView}

-- ---- one row

or_true : (b : Bool) → b || true ≡ true
or_true true = refl
or_true false = refl

outside-size : (x y z : Bool) → y ≡ true → true ≡ x || y || z
outside-size true y z h = refl
outside-size false y z h = rw h

module _ (c : View) (r : ℕ) where
  pub offset_below : lt_z (get_or c.offsets r (pos 0)) (pos 0) ≡ true → true ≡ view_outside c r
  unfolding view_outside
  offset_below h = rw h

  pub size_below : lt_z (get_or c.sizes r (pos 0)) (pos 0) ≡ true → true ≡ view_outside c r
  unfolding view_outside
  size_below h = outside-size (outside_of (length c.values) (get_or c.offsets r (pos 0))) _ _ (rw h)

sum_beyond : (n a b : ℕ) (t : Bool) → ltb n (a + b) ≡ t → t ≡ ltb n a || ltb n b || t
sum_beyond n a b true e = sym (or_true (ltb n a || ltb n b))
sum_beyond n a b false e =
    let s : a + b ≤ n = ltb-false n (a + b) e in
    rw (le-ltb n a (omega arith), le-ltb n b (omega arith))

-- where offset and size are not negative the sum decides
pub outside-sum : (n : ℕ) (x y : ℤ) → lt_z x (pos 0) ≡ false → lt_z y (pos 0) ≡ false → ltb n (count x + count y) ≡ outside_of n x || outside_of n y || ltb n (count x + count y)
outside-sum n x y h k = rw (h, k, ← count_beyond n x, ← count_beyond n y) (sum_beyond n (count x) (count y) _ refl)

-- ---- row after row

module _ (p : ℕ → Bool) (r left : ℕ) (G : Bool) (g : any p (tab (λ i. i) r left) ≡ G) where
  any_turn : 0 < left → p r || any p (tab (λ i. i) (r + 1) (left - 1)) ≡ G
  unfolding any
  any_turn h = rw (tab-step (λ i. i) r left h) at g

  pub any_now : 0 < left → p r ≡ true → true ≡ G
  any_now h t = rw t at (any_turn h)

  pub any_on : 0 < left → p r ≡ false → any p (tab (λ i. i) (r + 1) (left - 1)) ≡ G
  any_on h t = rw t at (any_turn h)

  pub any-end : left ≤ 0 → false ≡ G
  unfolding any
  any-end h = rw (tab-none (λ i. i) r left h) at g

-- none of the rows, none of them at a place
any_none : (p : ℕ → Bool) (a n : ℕ) → any p (tab (λ i. i) a n) ≡ false → (i : ℕ) → i < n → p (a + i) ≡ false
unfolding any tab
any_none p a zero h i l = let z : ⊥ = omega arith in absurd z
any_none p a (suc n) h zero l = let e : a + 0 ≡ a = omega arith in rw e (or_none (p a) (any p (tab (λ i. i) (suc a) n)) h).0
any_none p a (suc n) h (suc i) l =
    let e : suc a + i ≡ a + suc i = omega arith in
    rw (← e) (any_none p (suc a) n (or_none (p a) (any p (tab (λ i. i) (suc a) n)) h).1 i (omega arith))

-- ---- none applies

none_cases : (w x y z : Bool) → ◌≡◌ {A = ℕ} (pick w 13 (pick x 2 (pick y 3 (pick z 11 0)))) 0 → (w ≡ false) × (x ≡ false) × (y ≡ false) × (z ≡ false)
none_cases true x y z e = let q : ⊥ = omega arith in absurd q
none_cases false true y z e = let q : ⊥ = omega arith in absurd q
none_cases false false true z e = let q : ⊥ = omega arith in absurd q
none_cases false false false true e = let q : ⊥ = omega arith in absurd q
none_cases false false false false e = (refl, refl, refl, refl)

sum_inside : (x y z : Bool) → x || y || z ≡ false → z ≡ false
sum_inside x y z h = (or_none (x || y) z h).1

inside-at : (c : View) (r : ℕ) → view_outside c r ≡ false → offset_at c.offsets r + size_at c r ≤ length c.values
unfolding view_outside
inside-at c r h =
    let n = length c.values in
    ltb-false n (offset_at c.offsets r + size_at c r) (sum_inside (outside_of n (get_or c.offsets r (pos 0))) (outside_of n (get_or c.sizes r (pos 0))) _ h)

-- a view that none of 13, 2, 3 and 11 refuses can be read
pub readable_view : (c : View) → view_refusal c ≡ 0 → ReadableView c
unfolding view_refusal refusal13ᵛ refusal2ᵛ refusal3ᵛ refusal11
readable_view c z =
    let n = none_cases (over_seven c.rows || over_seven c.elements) (short_bits c.rows (length c.offsets) || short_bits c.elements (length c.values)) (not (eqb (length c.sizes) (length c.offsets))) (any (view_outside c) (tab (λ r. r) 0 (length c.offsets))) z in
    let s = or_none (over_seven c.rows) (over_seven c.elements) n.0 in
    let b = or_none (short_bits c.rows (length c.offsets)) (short_bits c.elements (length c.values)) n.1 in
    record {
      many = same_number (length c.sizes) (length c.offsets) n.2;
      inside = λ r h. inside-at c r (simp zero-add at (any_none (view_outside c) 0 (length c.offsets) n.3 r h));
      rows = record { small = omega (arith, ltb-false 7 c.rows.start s.0); long = b.0 };
      elements = record { small = omega (arith, ltb-false 7 c.elements.start s.1); long = b.1 };
    }
