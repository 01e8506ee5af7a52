-- The places of a strided walk, and the elements that it takes.
use mathlib.Core.Bool.{Bool, true}
use mathlib.Core.List.{List, [], map}
use mathlib.Core.Path.{◌≡◌, refl, sym, ap, subst, ◌∙◌}
use Prim.Native.Nat.{ℕ, ◌+◌, ◌-◌, ◌*◌, ◌/◌, ◌<◌, ◌≤◌, zero, suc}
use native.Mathlib.Nat.{mul-le-mul_right, add-mul, one-mul}
use native.Mathlib.Omega.{arith}
use lib.IntN.{ℤ, pos, negsuc, ◌+ℤ◌, nat_abs}
use lib.ListN.{length, get_or, set, replicate}
use Rattle.model.proofs.TabLaws.{length-tab, tab-step, tab-none, tab_ext, get_or-tab}
use Rattle.model.specs.Basics.{tab}
use Rattle.model.specs.Bitmap.{Bits, bytes_for}
use Rattle.model.specs.Column.{Elem, nul, val, elem_at}
use Rattle.model.specs.Form.{is_val, value_of}
use Rattle.model.specs.Slice.{step_from, sliced}
use Rattle.bitmap.specs.Push.{push_bit, push_bits}
use Rattle.column.proofs.WriteLaws.{Writing, begun, written, room, done}
use Rattle.column.specs.Put.{RoomForElemsˡ, Writesˡ, put_values}
use Rattle.strides.specs.Strides.{Reaches, Follows}
use Rattle.column.proofs.RowLaws.{elem_plain}
use Rattle.std.proofs.lemmas.Int.{ints}
use Rattle.runs.proofs.PlainLaws.{tab_same, both_written}

-- ---- the places

-- once more a stride
more : (j s : ℕ) → (j + 1) * s ≡ j * s + s
more j s = add-mul j 1 s ∙ ap (λ (x : ℕ). j * s + x) (one-mul s)

module _ (a k n j : ℕ) where
  -- each place is inside the row
  pub in_row_lem : (s : ℤ) → Reaches a s k n → j < k → step_from a s j < n
  unfolding Reaches step_from
  in_row_lem (pos s) r h = let m = mul-le-mul_right {m = j} {n = k - 1} s (omega arith) in omega arith
  in_row_lem (negsuc s) r h = omega arith

  -- the sum that steps to the next place
  next_place : (s : ℤ) → Reaches a s k n → j + 1 < k → pos (step_from a s j) +ℤ s ≡ pos (step_from a s (j + 1))
  unfolding Reaches step_from
  next_place (pos s) r h = let e = more j s in let f : a + j * s + s ≡ a + (j + 1) * s = omega arith in ap pos f
  next_place (negsuc s) r h =
      let e = more j (s + 1) in
      let m = mul-le-mul_right {m = j + 1} {n = k - 1} (s + 1) (omega arith) in
      let f : a - j * (s + 1) - suc s ≡ a - (j + 1) * (s + 1) = omega arith in
      let h : suc s ≤ a - j * (s + 1) = omega (arith, r.0) in
      omega (arith, ints)

first-place : (a : ℕ) (s : ℤ) → step_from a s 0 ≡ a
unfolding step_from
first-place a (pos s) = omega arith
first-place a (negsuc s) = omega arith

-- ---- the elements

-- what stands at place j of the walk
unfoldable pub taken : ℕ → ℤ → List Elem → ℕ → Elem
taken a s es j = get_or es (step_from a s j) nul

pub length-sliced : (a : ℕ) (s : ℤ) (k : ℕ) (es : List Elem) → length (sliced a s k es) ≡ k
unfolding sliced
length-sliced a s k es = length-tab _ 0 k

-- the element at a place of the row
pub taken_is : (E : ℕ → Elem) (b n a : ℕ) (s : ℤ) (j p : ℕ) → p ≡ step_from a s j → p < n → taken a s (tab E b n) j ≡ E (b + p)
unfolding taken
taken_is E b n a s j p e h = rw (← e) (get_or-tab E b n p nul h)

-- a slice of a row, by the row's elements
pub sliced-tab : (E : ℕ → Elem) (b n a : ℕ) (s : ℤ) (k : ℕ) → Reaches a s k n → sliced a s k (tab E b n) ≡ tab (λ j. E (b + step_from a s j)) 0 k
unfolding sliced
sliced-tab E b n a s k r = tab_ext _ _ 0 0 k (λ j h. let z : 0 + j ≡ j = omega arith in rw z (get_or-tab E b n (step_from a s j) nul (in_row_lem a k n j s r h)))

pub sliced-none : (a : ℕ) (s : ℤ) (k : ℕ) (es : List Elem) → k ≡ 0 → sliced a s k es ≡ []
unfolding sliced tab
sliced-none a s k es e = rw e

-- ---- stride 1: the elements from one place on

module _ (b n a : ℕ) (s : ℤ) (k : ℕ) (e : s ≡ pos 1) (r : Reaches a s k n) where
  reach-one : Reaches a (pos 1) k n
  reach-one = rw e at r

  pub run_inside : 0 < k → a + k ≤ n
  unfolding Reaches
  run_inside h = omega (arith, reach-one)

  pub sliced_run : (E : ℕ → Elem) → sliced a s k (tab E b n) ≡ tab E (b + a) k
  unfolding step_from
  sliced_run E =
      rw e
      (sliced-tab E b n a (pos 1) k reach-one
      ∙ tab_ext (λ j. E (b + step_from a (pos 1) j)) E 0 (b + a) k (λ j h. let q : b + (a + (0 + j) * 1) ≡ b + a + j = omega arith in rw q))

-- ---- the walk: of the k elements that it takes of es, j are written, and the next is at place p

pub record Going (a : ℕ) (s : ℤ) (k : ℕ) (es : List Elem) (at : ℕ) (vo₀ : List ℤ) (eo₀ : List ℕ) (j : ℕ) (vo : List ℤ) (eo : List ℕ) (p : ℕ) : Type 0 where
  pub writing : Writing (sliced a s k es) at vo₀ eo₀ (tab (taken a s es) j (k - j)) (at + j) vo eo
  pub place : j < k → p ≡ step_from a s j

pub begin : (a : ℕ) (s : ℤ) (k : ℕ) (es : List Elem) (at : ℕ) (vo₀ : List ℤ) (eo₀ : List ℕ) → Going a s k es at vo₀ eo₀ 0 vo₀ eo₀ a
unfolding sliced taken
begin a s k es at vo₀ eo₀ =
    let e : k - 0 ≡ k = omega arith in
    let d : at + 0 ≡ at = omega arith in
    record { writing = rw (e, d) (begun _ refl); place = λ h. sym (first-place a s) }

module _ {a : ℕ} {s : ℤ} {k : ℕ} {es : List Elem} {at : ℕ} {vo₀ : List ℤ} {eo₀ : List ℕ} {j : ℕ} {vo : List ℤ} {eo : List ℕ} {p : ℕ} (g : Going a s k es at vo₀ eo₀ j vo eo p) where
  pub room_for : j < k → RoomForElemsˡ (sliced a s k es) at (length vo₀) (length eo₀) → (at + j < length vo) × ((at + j) / 8 < length eo)
  room_for h r = room g.writing _ _ (tab-step (taken a s es) j (k - j) (omega arith)) r

  pub stop : j ≡ k → Writesˡ (sliced a s k es) at vo₀ vo eo₀ eo (at + k)
  stop h = subst (λ q. Writesˡ (sliced a s k es) at vo₀ vo eo₀ eo (at + q)) h (done g.writing (tab-none (taken a s es) j (k - j) (omega arith)))

  pub turned : j < k → {vo' : List ℤ} {eo' : List ℕ} {p' : ℕ} → vo' ≡ set vo (at + j) (value_of (taken a s es j)) → eo' ≡ push_bit eo (at + j) (is_val (taken a s es j)) → (j + 1 < k → p' ≡ step_from a s (j + 1)) → Going a s k es at vo₀ eo₀ (j + 1) vo' eo' p'
  turned h {vo'} {eo'} {p'} v e f =
      let d : k - (j + 1) ≡ k - j - 1 = omega arith in
      let q : at + (j + 1) ≡ at + j + 1 = omega arith in
      record { writing = rw (d, q) (written g.writing _ _ (tab-step (taken a s es) j (k - j) (omega arith)) v e); place = f }

  module _ (n : ℕ) (r : 0 < k → Reaches a s k n) where
    pub here : j < k → p < n
    here h = rw (g.place h) (in_row_lem a k n j s (r (omega arith)) h)

    -- the sum that steps to the next place, where one is left
    stepping : j + 1 < k → pos p +ℤ s ≡ pos (step_from a s (j + 1))
    stepping h = rw (g.place (omega arith)) (next_place a k n j s (r (omega arith)) h)

    pub follows : j + 1 < k → n ≤ 9223372036854775807 → Follows p s
    follows h l =
        let b = in_row_lem a k n (j + 1) s (r (omega arith)) h in
        record { here = omega (arith, here (omega arith)); natural = rw (stepping h) tt; small = rw (stepping h) (omega (arith, b)) }

    pub next_is : j + 1 < k → nat_abs (pos p +ℤ s) ≡ step_from a s (j + 1)
    next_is h = ap nat_abs (stepping h)

-- ---- where no element is null

-- nothing is written into no bitmap
pub no_bits : (q : ℕ) (b : Bool) → [] ≡ push_bit [] q b
unfolding push_bit
no_bits q b = refl

-- the next value is written, and perhaps there is a next place
pub value_turned : (E : ℕ → ℤ) (b n a : ℕ) (s : ℤ) (k at : ℕ) (vo₀ : List ℤ) (j : ℕ) (vo : List ℤ) (p : ℕ) → (0 < k → Reaches a s k n) → Going a s k (tab (λ i. val (E i)) b n) at vo₀ [] j vo [] p → j < k → (p' : ℕ) → (j + 1 < k → p' ≡ step_from a s (j + 1)) → Going a s k (tab (λ i. val (E i)) b n) at vo₀ [] (j + 1) (set vo (at + j) (E (b + p))) [] p'
unfolding value_of
value_turned E b n a s k at vo₀ j vo p r g h p' f =
    let e = taken_is (λ i. val (E i)) b n a s j p (g.place h) (here g n r h) in
    turned g h (rw e refl) (no_bits _ _) f

pub places-room : (a : ℕ) (s : ℤ) (k : ℕ) (es : List Elem) {at lv le : ℕ} → RoomForElemsˡ (sliced a s k es) at lv le → (at + k ≤ lv) × (bytes_for (at + k) ≤ le)
places-room a s k es p = let l = length-sliced a s k es in (omega (arith, p.values), omega (arith, p.elements))

-- what it takes has the bits of a run of ones
pub sliced_valid : (E : ℕ → Elem) (b n a : ℕ) (s : ℤ) (k : ℕ) → (0 < k → Reaches a s k n) → ((i : ℕ) → is_val (E i) ≡ true) → map is_val (sliced a s k (tab E b n)) ≡ replicate k true
sliced_valid E b n a s zero r v = rw (sliced-none a s 0 (tab E b n) refl)
sliced_valid E b n a s (suc k) r v = rw (sliced-tab E b n a s (suc k) (r (omega arith))) (tab_same is_val (λ j. E (b + step_from a s j)) true 0 (suc k) (λ j. v (b + step_from a s j)))

-- the values and the bits of what it takes are written where the bitmap is empty
pub plain-written : (vs : List ℤ) (eb : Bits) → length eb.bytes ≡ 0 → (b n a : ℕ) (s : ℤ) (k at : ℕ) → (0 < k → Reaches a s k n) → {vo vo' : List ℤ} {eo eo' : List ℕ}
    → vo' ≡ put_values vo at (sliced a s k (tab (λ i. val (get_or vs i (pos 0))) b n)) → eo' ≡ push_bits eo at (replicate k true) → Writesˡ (sliced a s k (tab (elem_at vs eb) b n)) at vo vo' eo eo' (at + k)
unfolding is_val
plain-written vs eb z b n a s k at r v e =
    rw (tab_ext (elem_at vs eb) (λ i. val (get_or vs i (pos 0))) b b n (λ i h. elem_plain vs eb (b + i) z))
    (both_written _ _ (replicate k true) at k refl (sliced_valid (λ i. val (get_or vs i (pos 0))) b n a s k r (λ i. refl)) (length-sliced a s k _) v e)
