-- Laws of what the elements of a row become.
use mathlib.Core.Path.{◌≡◌, refl, sym, ap, ◌∙◌}
use mathlib.Core.Bool.{Bool, true, false, not, ◌||◌}
use mathlib.Core.List.{List, [], ◌∷◌, ◌++◌}
use Prim.Native.Nat.{ℕ, zero, suc, ◌+◌, ◌-◌, ◌≤◌, ◌<◌, ◌^◌}
use native.Mathlib.Omega.{arith}
use native.Mathlib.Numerals.{add-one}
use borrow.Author.Tests.{eq-eqb, ne_eqb, eqb-true, eqb-false}
use lib.Dec.{eqb}
use lib.IntN.{ℤ, pos, negsuc}
use lib.ListN.{length, take, length-reverse, length-drop, length-take}
use mir.Syntax.{w64}
use mir.Val.{SFits, of_z}
use Rattle.model.specs.Basics.{pick, tab}
use Rattle.model.specs.Bitmap.{bit}
use Rattle.model.specs.Column.{Elem}
use Rattle.model.specs.Elements.{eq_z, same_elem, is_in, firsts, distinct, unary_elems}
use Rattle.model.specs.declared.Unary.{Unary}
use Rattle.model.specs.declared.Unary.TheVariants.{Reverse, Distinct, PopFront, PopBack}
use Rattle.model.proofs.TabLaws.{length-tab, tab-step, tab-none, tab-last}

-- ---- two values

eqb_iff : (x y a b : ℕ) → (a ≡ b → x ≡ y) → (x ≡ y → a ≡ b) → eqb x y ≡ eqb a b
eqb_iff x y a b f g = go (eqb a b) refl
  where
    go : (t : Bool) → eqb a b ≡ t → eqb x y ≡ eqb a b
    go true e = eq-eqb x y (f (eqb-true a b e)) ∙ sym e
    go false e = ne_eqb x y (λ q. eqb-false a b e (g q)) ∙ sym e

-- two numbers of 64 bits are equal where their bits are
pub eq_bits : (a b : ℤ) → SFits w64 a → SFits w64 b → eqb (of_z w64 a) (of_z w64 b) ≡ eq_z a b
unfolding eq_z
eq_bits (pos a) (pos b) f g = refl
eq_bits (pos a) (negsuc b) f g = ne_eqb a (2 ^ 64 - suc b) (λ q. omega (arith, f.sfits, g.sfits))
eq_bits (negsuc a) (pos b) f g = ne_eqb (2 ^ 64 - suc a) b (λ q. omega (arith, f.sfits, g.sfits))
eq_bits (negsuc a) (negsuc b) f g = eqb_iff (2 ^ 64 - suc a) (2 ^ 64 - suc b) a b (λ q. omega arith) (λ q. omega (arith, f.sfits, g.sfits))

-- ---- a search

pub is_in-step : (e : Elem) (f : ℕ → Elem) (p n : ℕ) → 0 < n → is_in e (tab f p n) ≡ same_elem e (f p) || is_in e (tab f (p + 1) (n - 1))
unfolding is_in
is_in-step e f p n h = rw (tab-step f p n h)

pub is_in-none : (e : Elem) (f : ℕ → Elem) (p n : ℕ) → n ≤ 0 → is_in e (tab f p n) ≡ false
unfolding is_in
is_in-none e f p n h = rw (tab-none f p n h)

-- ---- distinct: what is left after k elements, with those as seen

unfoldable pub later : (ℕ → Elem) → ℕ → ℕ → ℕ → List Elem
later f a k n = firsts (tab f a k) (tab f (a + k) n)

pub later-none : (f : ℕ → Elem) (a k n : ℕ) → n ≤ 0 → later f a k n ≡ []
unfolding later firsts
later-none f a k n h = rw (tab-none f (a + k) n h)

pub later_all : (f : ℕ → Elem) (a n : ℕ) → distinct (tab f a n) ≡ later f a 0 n
unfolding later tab
later_all f a n = let e : a + 0 ≡ a = omega arith in rw e

length-pick : (b : Bool) (e : Elem) (es : List Elem) → length (pick b es (e ∷ es)) ≡ bit (not b) + length es
length-pick true e es = omega arith
length-pick false e es = omega arith

module _ (f : ℕ → Elem) (a k n : ℕ) (h : 0 < n) where
  later-step : later f a k n ≡ pick (is_in (f (a + k)) (tab f a k)) (later f a (k + 1) (n - 1)) (f (a + k) ∷ later f a (k + 1) (n - 1))
  unfolding later firsts
  later-step =
      let e : a + k + 1 ≡ a + (k + 1) = omega arith in
      rw (tab-step f (a + k) n h, ← tab-last f a k, ← add-one k, e)

  pub length-later : length (later f a k n) ≡ bit (not (is_in (f (a + k)) (tab f a k))) + length (later f a (k + 1) (n - 1))
  length-later = rw (later-step, length-pick)

  pub later_old : is_in (f (a + k)) (tab f a k) ≡ true → later f a k n ≡ later f a (k + 1) (n - 1)
  later_old e = later-step ∙ rw e

  pub later_new : is_in (f (a + k)) (tab f a k) ≡ false → later f a k n ≡ f (a + k) ∷ later f a (k + 1) (n - 1)
  later_new e = later-step ∙ rw e

-- ---- pops

take-tab : (f : ℕ → Elem) (a n k : ℕ) → k ≤ n → take k (tab f a n) ≡ tab f a k
unfolding tab
take-tab f a n zero h = refl
take-tab f a zero (suc k) h = let z : ⊥ = omega arith in absurd z
take-tab f a (suc n) (suc k) h = ap (λ (l : List Elem). f a ∷ l) (take-tab f (suc a) n k (omega arith))

module _ (f : ℕ → Elem) (a n : ℕ) where
  pub pop_back : unary_elems PopBack (tab f a n) ≡ tab f a (n - 1)
  unfolding unary_elems
  pop_back = rw (length-tab f a n) (take-tab f a n (n - 1) (omega arith))

pub pop_front : (f : ℕ → Elem) (a n : ℕ) → unary_elems PopFront (tab f a n) ≡ tab f (a + (n - (n - 1))) (n - 1)
unfolding unary_elems tab
pop_front f a zero = refl
pop_front f a (suc n) =
    let e : a + (suc n - (suc n - 1)) ≡ suc a = omega arith in
    let d : suc n - 1 ≡ n = omega arith in
    rw (e, d)

-- ---- what an operation makes is no longer than what it is made of

length-firsts : (seen es : List Elem) → length (firsts seen es) ≤ length es
unfolding firsts
length-firsts seen [] = omega arith
length-firsts seen (e ∷ es) = one (is_in e seen) (length-firsts (seen ++ (e ∷ [])) es)
  where
    one : (b : Bool) → length (firsts (seen ++ (e ∷ [])) es) ≤ length es → length (pick b (firsts (seen ++ (e ∷ [])) es) (e ∷ firsts (seen ++ (e ∷ [])) es)) ≤ suc (length es)
    one true h = omega arith
    one false h = omega arith

pub unary_le : (op : Unary) (es : List Elem) → length (unary_elems op es) ≤ length es
unfolding unary_elems
unary_le Reverse es = omega (arith, length-reverse es)
unary_le Distinct es = length-firsts [] es
unary_le PopFront es = omega (arith, length-drop 1 es)
unary_le PopBack es = omega (arith, length-take (length es - 1) es)

unary_nil : (op : Unary) → unary_elems op [] ≡ []
unfolding unary_elems firsts
unary_nil Reverse = refl
unary_nil Distinct = refl
unary_nil PopFront = refl
unary_nil PopBack = refl

pub made_nil : (op : Unary) → unary_elems op [] ≡ []
made_nil op = unary_nil op
