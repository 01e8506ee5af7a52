-- Laws of lists given by a function of the index.
use mathlib.Core.Path.{◌≡◌, refl, ap, ◌∙◌}
use mathlib.Core.List.{List, [], ◌∷◌, ◌++◌, map}
use Prim.Native.Nat.{ℕ, zero, suc, ◌+◌, ◌-◌, ◌≤◌, ◌<◌}
use native.Mathlib.Omega.{arith}
use lib.ListN.{length, get_or}
use Rattle.model.specs.Basics.{tab}

pub length-map : {A B : Type 0} (f : A → B) (l : List A) → length (map f l) ≡ length l
length-map f [] = refl
length-map f (x ∷ l) = ap suc (length-map f l)

module _ {A : Type 0} (f : ℕ → A) where
  pub length-tab : (a n : ℕ) → length (tab f a n) ≡ n
  unfolding tab
  length-tab a zero = refl
  length-tab a (suc n) = ap suc (length-tab (suc a) n)

  -- one more, in the code's terms
  pub tab-step : (a n : ℕ) → 0 < n → tab f a n ≡ f a ∷ tab f (a + 1) (n - 1)
  unfolding tab
  tab-step a zero h = let z : ⊥ = omega arith in absurd z
  tab-step a (suc n) h =
      let e : suc a ≡ a + 1 = omega arith in
      let d : n ≡ suc n - 1 = omega arith in
      rw (← e, ← d)

  pub tab-none : (a n : ℕ) → n ≤ 0 → tab f a n ≡ []
  unfolding tab
  tab-none a zero h = refl
  tab-none a (suc n) h = let z : ⊥ = omega arith in absurd z

  -- the last one
  pub tab-last : (a n : ℕ) → tab f a (suc n) ≡ tab f a n ++ (f (a + n) ∷ [])
  unfolding tab
  tab-last a zero = let e : a + 0 ≡ a = omega arith in rw e
  tab-last a (suc n) =
      let e : suc a + n ≡ a + suc n = omega arith in
      rw (tab-last (suc a) n, e)

  pub tab_split : (a m n : ℕ) → tab f a (m + n) ≡ tab f a m ++ tab f (a + m) n
  unfolding tab
  tab_split a zero n = let e : 0 + n ≡ n = omega arith in let z : a + 0 ≡ a = omega arith in rw (e, z)
  tab_split a (suc m) n =
      let e : suc m + n ≡ suc (m + n) = omega arith in
      let s : suc a + m ≡ a + suc m = omega arith in
      rw (e, tab_split (suc a) m n, s)

pub get_or-tab : {A : Type 0} (f : ℕ → A) (a n i : ℕ) (d : A) → i < n → get_or (tab f a n) i d ≡ f (a + i)
unfolding tab
get_or-tab f a zero i d h = let z : ⊥ = omega arith in absurd z
get_or-tab f a (suc n) zero d h = let e : a + 0 ≡ a = omega arith in rw e
get_or-tab f a (suc n) (suc i) d h = let e : suc a + i ≡ a + suc i = omega arith in get_or-tab f (suc a) n i d (omega arith) ∙ rw e

pub map-tab : {A B : Type 0} (f : A → B) (g : ℕ → A) (a n : ℕ) → map f (tab g a n) ≡ tab (λ i. f (g i)) a n
unfolding tab
map-tab f g a zero = refl
map-tab f g a (suc n) = rw (map-tab f g (suc a) n)

-- two tables agree where their functions do
pub tab_ext : {A : Type 0} (f g : ℕ → A) (a b n : ℕ) → ((i : ℕ) → i < n → f (a + i) ≡ g (b + i)) → tab f a n ≡ tab g b n
unfolding tab
tab_ext f g a b zero h = refl
tab_ext f g a b (suc n) h =
    let x : a + 0 ≡ a = omega arith in
    let y : b + 0 ≡ b = omega arith in
    rw (rw (x, y) at (h 0 (omega arith)), tab_ext f g (suc a) (suc b) n (λ i k. let p : suc a + i ≡ a + suc i = omega arith in let q : suc b + i ≡ b + suc i = omega arith in rw (p, q) (h (suc i) (omega arith))))

-- a list is its elements in order
pub tab-get_or : {A : Type 0} (f : ℕ → A) (a : ℕ) (l : List A) (d : A) → ((i : ℕ) → i < length l → f (a + i) ≡ get_or l i d) → tab f a (length l) ≡ l
unfolding tab
tab-get_or f a [] d h = refl
tab-get_or {A = A} f a (x ∷ l) d h =
    let z : a + 0 ≡ a = omega arith in
    rw (rw z at (h 0 (omega arith)))
    (ap (λ (r : List A). x ∷ r) (tab-get_or f (suc a) l d (λ i k. let s : suc a + i ≡ a + suc i = omega arith in rw s (h (suc i) (omega arith)))))

-- a function of each element, by the index
pub tab_of : {A B : Type 0} (f : A → B) (l : List A) (d : A) → tab (λ i. f (get_or l i d)) 0 (length l) ≡ map f l
tab_of f l d = map_each f l d
  where
    all : {A : Type 0} (l : List A) (d : A) → tab (λ i. get_or l i d) 0 (length l) ≡ l
    all l d = tab-get_or (λ i. get_or l i d) 0 l d (λ i h. let z : 0 + i ≡ i = omega arith in rw z)

    map_each : {A B : Type 0} (f : A → B) (l : List A) (d : A) → tab (λ i. f (get_or l i d)) 0 (length l) ≡ map f l
    map_each f l d = rw (← map-tab f (λ i. get_or l i d) 0 (length l), all l d)

-- element i of a mapped list, past its end too
pub get_d_map : {A B : Type 0} (f : A → B) (l : List A) (i : ℕ) (d : A) → get_or (map f l) i (f d) ≡ f (get_or l i d)
get_d_map f [] i d = refl
get_d_map f (x ∷ l) zero d = refl
get_d_map f (x ∷ l) (suc i) d = get_d_map f l i d
