-- Elements where none is null, or all are: what writing them comes to.
use mathlib.Core.Bool.{Bool, true}
use mathlib.Core.List.{List, ◌∷◌, map, reverse}
use mathlib.Core.Path.{◌≡◌, refl, sym, ap, ◌∙◌}
use Prim.Native.Nat.{ℕ, zero, suc, ◌+◌, ◌-◌}
use native.Mathlib.Omega.{arith}
use lib.IntN.{ℤ, pos}
use lib.ListN.{length, get_or, replicate, length-replicate}
use lib.Seq.{sets}
use Rattle.bitmap.specs.Push.{push_bits}
use Rattle.stores.proofs.StoreLaws.{length_back}
use Rattle.column.proofs.PutLaws.{rev_step}
use Rattle.column.proofs.RowLaws.{elem_plain}
use Rattle.column.specs.Put.{Writesˡ}
use Rattle.model.proofs.TabLaws.{length-tab, map-tab, tab_ext}
use Rattle.model.specs.Basics.{tab}
use Rattle.model.specs.Bitmap.{Bits}
use Rattle.model.specs.Column.{Elem, elem_at}
use Rattle.model.specs.Form.{is_val, value_of}

-- elements are written where their values and their bits are
pub both_written : (es : List Elem) (xs : List ℤ) (bs : List Bool) (at n : ℕ) {vo vo' : List ℤ} {eo eo' : List ℕ} → map value_of es ≡ xs → map is_val es ≡ bs → length es ≡ n
    → vo' ≡ sets vo at xs → eo' ≡ push_bits eo at bs → Writesˡ es at vo vo' eo eo' (at + n)
both_written es xs bs at n {vo} {vo'} {eo} {eo'} p q l v e = record {
  values = v ∙ ap (λ (r : List ℤ). sets vo at r) (sym p);
  elements = e ∙ ap (λ (r : List Bool). push_bits eo at r) (sym q);
  next = ap (λ (r : ℕ). at + r) (sym l);
}

-- ---- the same again and again

pub map_same : {A B : Type 0} (f : A → B) (x : A) (n : ℕ) → map f (replicate n x) ≡ replicate n (f x)
map_same f x zero = refl
map_same {B = B} f x (suc n) = ap (λ (r : List B). f x ∷ r) (map_same f x n)

-- ---- a row backward

pub map_back : {A B : Type 0} (f : A → B) (g : ℕ → A) (h : ℕ → B) (a n : ℕ) → ((i : ℕ) → f (g i) ≡ h i) → map f (reverse (tab g a n)) ≡ reverse (tab h a n)
unfolding tab
map_back f g h a zero e = refl
map_back {A} {B} f g h a (suc n) e =
    let d : suc n - 1 ≡ n = omega arith in
    rw (rev_step g a (suc n) (omega arith), rev_step h a (suc n) (omega arith), d, e (a + n)) (ap (λ (r : List B). h (a + n) ∷ r) (map_back f g h a n e))

pub back_same : {A B : Type 0} (f : A → B) (g : ℕ → A) (x : B) (a n : ℕ) → ((i : ℕ) → f (g i) ≡ x) → map f (reverse (tab g a n)) ≡ replicate n x
unfolding tab
back_same f g x a zero e = refl
back_same {A} {B} f g x a (suc n) e =
    let d : suc n - 1 ≡ n = omega arith in
    rw (rev_step g a (suc n) (omega arith), d, e (a + n)) (ap (λ (r : List B). x ∷ r) (back_same f g x a n e))

pub tab_same : {A B : Type 0} (f : A → B) (g : ℕ → A) (x : B) (a n : ℕ) → ((i : ℕ) → f (g i) ≡ x) → map f (tab g a n) ≡ replicate n x
unfolding tab
tab_same f g x a zero e = refl
tab_same {A} {B} f g x a (suc n) e = rw (e a) (ap (λ (r : List B). x ∷ r) (tab_same f g x (suc a) n e))

-- ---- a bitmap of length 0

module _ (vs : List ℤ) (eb : Bits) (z : length eb.bytes ≡ 0) where
  value_at_lem : (i : ℕ) → value_of (elem_at vs eb i) ≡ get_or vs i (pos 0)
  unfolding value_of
  value_at_lem i = rw (elem_plain vs eb i z)

  bit_at : (i : ℕ) → is_val (elem_at vs eb i) ≡ true
  unfolding is_val
  bit_at i = rw (elem_plain vs eb i z)

  module _ (a n at : ℕ) {vo vo' : List ℤ} {eo eo' : List ℕ} where
    pub forward_written : vo' ≡ sets vo at (tab (λ i. get_or vs i (pos 0)) a n) → eo' ≡ push_bits eo at (replicate n true) → Writesˡ (tab (elem_at vs eb) a n) at vo vo' eo eo' (at + n)
    forward_written v e =
        both_written (tab (elem_at vs eb) a n) (tab (λ i. get_or vs i (pos 0)) a n) (replicate n true) at n
        (map-tab value_of (elem_at vs eb) a n ∙ tab_ext (λ i. value_of (elem_at vs eb i)) (λ i. get_or vs i (pos 0)) a a n (λ i h. value_at_lem (a + i)))
        (tab_same is_val (elem_at vs eb) true a n bit_at)
        (length-tab (elem_at vs eb) a n)
        v
        e

    pub backward_written : vo' ≡ sets vo at (reverse (tab (λ i. get_or vs i (pos 0)) a n)) → eo' ≡ push_bits eo at (replicate n true) → Writesˡ (reverse (tab (elem_at vs eb) a n)) at vo vo' eo eo' (at + n)
    backward_written v e =
        both_written (reverse (tab (elem_at vs eb) a n)) (reverse (tab (λ i. get_or vs i (pos 0)) a n)) (replicate n true) at n
        (map_back value_of (elem_at vs eb) (λ i. get_or vs i (pos 0)) a n value_at_lem)
        (back_same is_val (elem_at vs eb) true a n bit_at)
        (length_back (elem_at vs eb) a n)
        v
        e

-- ---- one element again and again

pub same_written : (x : Elem) (n at : ℕ) {vo vo' : List ℤ} {eo eo' : List ℕ} → vo' ≡ sets vo at (replicate n (value_of x)) → eo' ≡ push_bits eo at (replicate n (is_val x)) → Writesˡ (replicate n x) at vo vo' eo eo' (at + n)
same_written x n at v e = both_written (replicate n x) (replicate n (value_of x)) (replicate n (is_val x)) at n (map_same value_of x n) (map_same is_val x n) (length-replicate n x) v e
