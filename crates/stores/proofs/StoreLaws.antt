-- The invariant of every loop that stores a list place after place, and its laws: of the list xs, rest is left, and k is the next place.
-- Then laws of a part of a list that is written over.
use mathlib.Core.Path.{◌≡◌, refl, sym, ap, ◌∙◌}
use mathlib.Core.List.{List, [], ◌∷◌, ◌++◌, reverse, reverse-append, append_assoc}
use Prim.Native.Nat.{ℕ, zero, suc, ◌+◌, ◌-◌, ◌≤◌, ◌<◌}
use native.Mathlib.Numerals.{add-one}
use native.Mathlib.Omega.{arith}
use borrow.Rule.Slice.PartMut.{put_mid}
use lib.ListN.{length, set, replicate, take, drop, get_or, length-set, length-take, length-drop, length-replicate}
use lib.Seq.{sets, set-set, set_comm}
use Rattle.std.proofs.lemmas.List.{drop-drop, drop_more, drop_all, get_or-take, get_or-drop}
use Rattle.std.proofs.lemmas.List.Edits.{sets-eq}
use Rattle.model.specs.Basics.{tab}
use Rattle.model.proofs.TabLaws.{length-tab, tab_split, tab-get_or}
use Rattle.column.proofs.PutLaws.{rev_step}

pub record Storing {A : Type 0} (xs : List A) (at : ℕ) (d₀ rest : List A) (k : ℕ) (d : List A) : Type 0 where
  pub stored : sets d k rest ≡ sets d₀ at xs
  pub place : k + length rest ≡ at + length xs
  pub same : length d ≡ length d₀

module _ {A : Type 0} {xs : List A} {at : ℕ} {d₀ : List A} where
  pub begun : Storing xs at d₀ xs at d₀
  begun = record { stored = refl; place = refl; same = refl }

  module _ {rest : List A} {k : ℕ} {d : List A} (s : Storing xs at d₀ rest k d) where
    -- the first of those left is stored
    pub more : (x : A) (rest' : List A) → rest ≡ x ∷ rest' → {d' : List A} → d' ≡ set d k x → Storing xs at d₀ rest' (k + 1) d'
    more x rest' n {d'} p = record {
      stored = rw (p, add-one k) (rw n at s.stored);
      place = omega (arith, s.place, ap length n);
      same = ap length p ∙ length-set d k x ∙ s.same;
    }

    pub room : (x : A) (rest' : List A) → rest ≡ x ∷ rest' → at + length xs ≤ length d₀ → k < length d
    room x rest' n p = omega (arith, s.place, ap length n, s.same)

    pub done : rest ≡ [] → d ≡ sets d₀ at xs
    done n = rw n at s.stored

-- the first i are stored: the next one, and the end
module _ {A : Type 0} {xs : List A} {at : ℕ} {d₀ : List A} (i : ℕ) {d : List A} (s : Storing xs at d₀ (drop i xs) (at + i) d) where
  pub next_stored : (j : ℕ) → j ≡ i → (z x : A) → i < length xs → x ≡ get_or xs i z → Storing xs at d₀ (drop (i + 1) xs) (at + (i + 1)) (set d (at + j) x)
  next_stored j q z x h e =
      let r : at + i + 1 ≡ at + (i + 1) = omega arith in
      rw (q, ← r) (more s x (drop (i + 1) xs) (drop_more xs i z h ∙ ap (λ (y : A). y ∷ drop (i + 1) xs) (sym e)) refl)

  pub all_stored : length xs ≤ i → d ≡ sets d₀ at xs
  all_stored h = done s (drop_all i xs h)

-- ---- a row backward

pub length_back : {A : Type 0} (g : ℕ → A) (a n : ℕ) → length (reverse (tab g a n)) ≡ n
unfolding tab
length_back g a zero = refl
length_back g a (suc n) =
    let d : suc n - 1 ≡ n = omega arith in
    rw (rev_step g a (suc n) (omega arith), d) (ap suc (length_back g a n))

-- ---- a part that is written over

module _ {A : Type 0} where
  -- k places from at on
  pub part_stored : (xs d : List A) (at k : ℕ) → length xs ≡ k → at + k ≤ length d → put_mid at k d xs ≡ sets d at xs
  part_stored xs d at k l h =
      let e : drop k (drop at d) ≡ drop (at + length xs) d = drop-drop k at d ∙ ap (λ (i : ℕ). drop (at + i) d) (sym l) in
      ap (λ (r : List A). take at d ++ (xs ++ r)) e
      ∙ sym (append_assoc (take at d) xs (drop (at + length xs) d))
      ∙ sym (sets-eq xs d at (omega (arith, l)))

  -- by one value
  pub part_filled : (v : A) (ys d : List A) (at n k : ℕ) → k ≡ n → at + n ≤ length d → ys ≡ replicate (length (take k (drop at d))) v → put_mid at k d ys ≡ sets d at (replicate n v)
  part_filled v ys d at n k q h e =
      let l : length (take k (drop at d)) ≡ n = omega (arith, length-take k (drop at d), length-drop at d) in
      let same : ys ≡ replicate n v = e ∙ ap (λ (i : ℕ). replicate i v) l in
      part_stored ys d at k (ap length same ∙ length-replicate n v ∙ sym q) (omega arith) ∙ ap (sets d at) same

  -- a part of a list is a table
  pub part_tab : (l : List A) (z : A) (a n k : ℕ) → k ≡ n → a + n ≤ length l → take k (drop a l) ≡ tab (λ i. get_or l i z) a n
  part_tab l z a n k q h =
      let s = take k (drop a l) in
      let m : length s ≡ n = omega (arith, length-take k (drop a l), length-drop a l) in
      sym (tab-get_or (λ i. get_or l i z) a s z (λ i o. sym (get_or-take k (drop a l) i z (omega arith) ∙ get_or-drop a l i z)))
      ∙ ap (tab (λ i. get_or l i z) a) m

  -- by a part of another list
  pub part_copied : (l : List A) (z : A) (ys d : List A) (a at n j k : ℕ) → j ≡ n → k ≡ n → a + n ≤ length l → at + n ≤ length d → ys ≡ take j (drop a l) → put_mid at k d ys ≡ sets d at (tab (λ i. get_or l i z) a n)
  part_copied l z ys d a at n j k p q g h e =
      let same : ys ≡ tab (λ i. get_or l i z) a n = e ∙ part_tab l z a n j p g in
      part_stored ys d at k (ap length same ∙ length-tab (λ i. get_or l i z) a n ∙ sym q) (omega arith) ∙ ap (sets d at) same

-- ---- a list stored part by part

module _ {A : Type 0} where
  -- on, where the first part ended
  pub sets_on : (xs ys d : List A) (at : ℕ) → sets (sets d at xs) (at + length xs) ys ≡ sets d at (xs ++ ys)
  sets_on [] ys d at = let e : at + 0 ≡ at = omega arith in rw e
  sets_on (x ∷ xs) ys d at = let e : at + suc (length xs) ≡ suc at + length xs = omega arith in rw e (sets_on xs ys (set d at x) (suc at))

  -- a store at a place before them all may come first
  set_before : (xs d : List A) (k j : ℕ) (y : A) → k < j → set (sets d j xs) k y ≡ sets (set d k y) j xs
  set_before [] d k j y h = refl
  set_before (x ∷ xs) d k j y h =
      set_before xs (set d j x) k (suc j) y (omega arith)
      ∙ ap (λ (l : List A). sets l (suc j) xs) (set_comm d j k x y (λ e. omega arith))

  -- over what was stored there, when that is no longer
  sets_over : (xs ys d : List A) (k : ℕ) → length xs ≤ length ys → sets (sets d k xs) k ys ≡ sets d k ys
  sets_over [] ys d k h = refl
  sets_over (x ∷ xs) [] d k h = let z : ⊥ = omega arith in absurd z
  sets_over (x ∷ xs) (y ∷ ys) d k h =
      ap (λ (l : List A). sets l (suc k) ys) (set_before xs (set d k x) k (suc k) y (omega arith) ∙ ap (λ (l : List A). sets l (suc k) xs) (set-set d k x y))
      ∙ sets_over xs ys (set d k y) (suc k) (omega arith)

  -- the first m of a table, then n of it from one of these on
  pub sets_tab : (f : ℕ → A) (a m j n : ℕ) (d : List A) (at : ℕ) → j ≤ m → m ≤ j + n → sets (sets d at (tab f a m)) (at + j) (tab f (a + j) n) ≡ sets d at (tab f a (j + n))
  sets_tab f a m j n d at h g =
      let front = tab f a j in
      let up_to : ℕ → List A = λ i. tab f (a + j) i in
      let l : length front ≡ j = length-tab f a j in
      let part : (i : ℕ) → sets (sets d at front) (at + j) (up_to i) ≡ sets d at (tab f a (j + i)) =
      λ i. ap (λ (k : ℕ). sets (sets d at front) (at + k) (up_to i)) (sym l) ∙ sets_on front (up_to i) d at ∙ ap (sets d at) (sym (tab_split f a j i)) in
      let e : j + (m - j) ≡ m = omega arith in
      ap (λ (i : ℕ). sets (sets d at (tab f a i)) (at + j) (up_to n)) (sym e)
      ∙ ap (λ (x : List A). sets x (at + j) (up_to n)) (sym (part (m - j)))
      ∙ sets_over (up_to (m - j)) (up_to n) (sets d at front) (at + j) (omega (arith, length-tab f (a + j) (m - j), length-tab f (a + j) n))
      ∙ part n

module _ {A : Type 0} (f : ℕ → A) (a n m : ℕ) where
  -- n + m of a table, last first: the last m, and then the n before them
  back_split : reverse (tab f a (n + m)) ≡ reverse (tab f (a + n) m) ++ reverse (tab f a n)
  back_split = ap reverse (tab_split f a n m) ∙ reverse-append (tab f a n) (tab f (a + n) m)

  -- upwards
  pub back_up : (d : List A) (k : ℕ) → sets (sets d k (reverse (tab f (a + n) m))) (k + m) (reverse (tab f a n)) ≡ sets d k (reverse (tab f a (n + m)))
  back_up d k =
      ap (λ (j : ℕ). sets (sets d k (reverse (tab f (a + n) m))) (k + j) (reverse (tab f a n))) (sym (length_back f (a + n) m))
      ∙ sets_on (reverse (tab f (a + n) m)) (reverse (tab f a n)) d k
      ∙ ap (sets d k) (sym back_split)
