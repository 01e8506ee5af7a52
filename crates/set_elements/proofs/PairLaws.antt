-- Laws of comparing two elements, and of looking for one.
use mathlib.Core.Path.{◌≡◌, refl, sym, ap, subst, ◌∙◌}
use mathlib.Core.Bool.{Bool, true, false, ◌||◌, or-false, or_assoc}
use mathlib.Core.List.{List, [], ◌∷◌, ◌++◌}
use Prim.Native.Nat.{ℕ, suc, ◌+◌, ◌-◌, ◌≤◌}
use native.Mathlib.Omega.{arith}
use borrow.Author.Tests.{eqb-true, eq-eqb}
use Rattle.std.specs.Ordering.{int_eq}
use Rattle.std.proofs.lemmas.Bool.Decides.{same_from_decides, Decides-int_eq}
use lib.Dec.{T}
use lib.IntN.{ℤ, pos, negsuc}
use lib.ListN.{length, get_or}
use Rattle.column.proofs.RowLaws.{elem_plain}
use Rattle.model.specs.Basics.{tab}
use Rattle.model.specs.Bitmap.{Bits}
use Rattle.model.specs.Column.{Elem, nul, val, elem_at}
use Rattle.model.specs.Elements.{eq_z, same_elem, is_in}
use Rattle.model.proofs.TabLaws.{tab_split, tab_ext}
use Rattle.set_elements.specs.Pairs.{plain, has_value}

-- ---- two elements

pub not_so : {A : Type 0} → ◌≡◌ {A = Bool} false true → A
not_so h = absurd (subst T (sym h) tt)

eq_z_eq : (a b : ℤ) → eq_z a b ≡ true → a ≡ b
unfolding eq_z
eq_z_eq (pos a) (pos b) h = ap pos (eqb-true a b h)
eq_z_eq (pos a) (negsuc b) h = not_so h
eq_z_eq (negsuc a) (pos b) h = not_so h
eq_z_eq (negsuc a) (negsuc b) h = ap negsuc (eqb-true a b h)

eq_z-same : (x : ℤ) → eq_z x x ≡ true
unfolding eq_z
eq_z-same (pos n) = eq-eqb n n refl
eq_z-same (negsuc n) = eq-eqb n n refl

-- the code's `==`
pub int_eq_z : (x y : ℤ) → int_eq x y ≡ eq_z y x
int_eq_z x y = same_from_decides _ _ (Decides-int_eq x y) (λ e. sym (eq_z_eq y x e), λ e. rw e (eq_z-same y))

-- elements that compare as the same are one
pub same_eq : (e f : Elem) → same_elem e f ≡ true → e ≡ f
unfolding same_elem
same_eq nul nul h = refl
same_eq nul (val b) h = not_so h
same_eq (val a) nul h = not_so h
same_eq (val a) (val b) h = ap val (eq_z_eq a b h)

-- ---- a search

pub is_in-append : (e : Elem) (xs ys : List Elem) → is_in e (xs ++ ys) ≡ is_in e xs || is_in e ys
unfolding is_in
is_in-append e [] ys = refl
is_in-append e (x ∷ xs) ys = rw (is_in-append e xs ys) (sym (or_assoc (same_elem e x) (is_in e xs) (is_in e ys)))

module _ (e : Elem) (f : ℕ → Elem) (p : ℕ) where
  -- among the first m, or among the rest
  pub is_in_split : (m n : ℕ) → m ≤ n → is_in e (tab f p n) ≡ is_in e (tab f p m) || is_in e (tab f (p + m) (n - m))
  is_in_split m n h =
      let s : n ≡ m + (n - m) = omega arith in
      ap (λ (j : ℕ). is_in e (tab f p j)) s ∙ rw (tab_split f p m (n - m), is_in-append)

  -- among four, in the code's terms
  pub is_in_four : same_elem e (f p) || same_elem e (f (p + 1)) || same_elem e (f (p + 2)) || same_elem e (f (p + 3)) ≡ is_in e (tab f p 4)
  unfolding is_in tab
  is_in_four =
      let s : suc p ≡ p + 1 = omega arith in
      let t : suc (p + 1) ≡ p + 2 = omega arith in
      let u : suc (p + 2) ≡ p + 3 = omega arith in
      rw (s, t, u, or-false, or_assoc, or_assoc)

-- ---- columns without nulls

-- looking for an element is looking for its value
pub is_in-plain : (vs others : List ℤ) (eb ob : Bits) → length eb.bytes ≡ 0 → length ob.bytes ≡ 0 → (i a k : ℕ) → has_value (get_or vs i (pos 0)) others a k ≡ is_in (elem_at vs eb i) (tab (elem_at others ob) a k)
is_in-plain vs others eb ob y z i a k = rw (elem_plain vs eb i y, tab_ext (elem_at others ob) (plain others) a a k (λ j h. elem_plain others ob (a + j) z))
