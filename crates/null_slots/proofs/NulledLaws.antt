-- Values with what a null slot holds at the places of nulls: bit after bit, so many bits at a time, and as elements are written.
use mathlib.Core.Bool.{Bool, true, false}
use mathlib.Core.List.{List, [], ◌∷◌, ◌++◌, map, reverse, reverse-append}
use mathlib.Core.Path.{◌≡◌, refl, sym, ap, ap₂, ◌∙◌}
use Prim.Native.Nat.{ℕ, zero, suc, ◌+◌, ◌-◌, ◌*◌, ◌≤◌, ◌<◌}
use native.Mathlib.Omega.{arith}
use borrow.Author.Tests.{ne_eqb}
use lib.IntN.{ℤ, pos}
use lib.ListN.{length, get_or, set, replicate, length-set}
use lib.Seq.{sets, set-set, set_comm}
use Rattle.bit_words.specs.Words.{low_bits}
use Rattle.bitmap.specs.Push.{push_bits}
use Rattle.column.proofs.PutLaws.{rev_step}
use Rattle.column.proofs.RowLaws.{is_val_elem, value_elem}
use Rattle.column.specs.Put.{Writesˡ}
use Rattle.model.proofs.TabLaws.{length-tab, map-tab, tab_ext, tab_split}
use Rattle.model.specs.Basics.{pick, tab}
use Rattle.model.specs.Bitmap.{from, bit_at, valid_at}
use Rattle.model.specs.Column.{Elem, elem_at}
use Rattle.model.specs.Form.{is_val, value_of, under_null}
use Rattle.null_slots.specs.Nulled.{nulled}
use Rattle.runs.proofs.PlainLaws.{both_written, map_back}
use Rattle.stores.proofs.StoreLaws.{length_back}

-- ---- bit after bit

pub length-pick : (b : Bool) (d : List ℤ) (k : ℕ) → length (pick b d (set d k under_null)) ≡ length d
length-pick true d k = refl
length-pick false d k = length-set d k under_null

pub length-nulled : (bs : List Bool) (d : List ℤ) (k : ℕ) → length (nulled d k bs) ≡ length d
unfolding nulled
length-nulled [] d k = refl
length-nulled (b ∷ bs) d k = length-nulled bs (pick b d (set d k under_null)) (suc k) ∙ length-pick b d k

-- bits after bits
pub nulled-append : (xs ys : List Bool) (d : List ℤ) (k : ℕ) → nulled d k (xs ++ ys) ≡ nulled (nulled d k xs) (k + length xs) ys
unfolding nulled
nulled-append [] ys d k = let e : k + 0 ≡ k = omega arith in rw e
nulled-append (x ∷ xs) ys d k =
    let e : k + suc (length xs) ≡ suc k + length xs = omega arith in
    rw e (nulled-append xs ys (pick x d (set d k under_null)) (suc k))

-- where all are valid nothing changes
pub nulled-trues : (n : ℕ) (d : List ℤ) (k : ℕ) → nulled d k (replicate n true) ≡ d
unfolding nulled
nulled-trues zero d k = refl
nulled-trues (suc n) d k = nulled-trues n d (suc k)

-- the same stored at two places, in either order
set_both : {A : Type 0} (l : List A) (i j : ℕ) (a : A) → set (set l i a) j a ≡ set (set l j a) i a
set_both [] i j a = refl
set_both (x ∷ l) zero zero a = refl
set_both (x ∷ l) zero (suc j) a = refl
set_both (x ∷ l) (suc i) zero a = refl
set_both {A = A} (x ∷ l) (suc i) (suc j) a = ap (λ (r : List A). x ∷ r) (set_both l i j a)

pick-set : (b : Bool) (d : List ℤ) (k i : ℕ) → set (pick b d (set d k under_null)) i under_null ≡ pick b (set d i under_null) (set (set d i under_null) k under_null)
pick-set true d k i = refl
pick-set false d k i = set_both d k i under_null

-- one more place, before or after the others
pub nulled-set : (bs : List Bool) (d : List ℤ) (k i : ℕ) → set (nulled d k bs) i under_null ≡ nulled (set d i under_null) k bs
unfolding nulled
nulled-set [] d k i = refl
nulled-set (b ∷ bs) d k i =
    nulled-set bs (pick b d (set d k under_null)) (suc k) i
    ∙ ap (λ (r : List ℤ). nulled r (suc k) bs) (pick-set b d k i)

-- bits from two places on, in either order
pub nulled_both : (ys xs : List Bool) (d : List ℤ) (k i : ℕ) → nulled (nulled d k xs) i ys ≡ nulled (nulled d i ys) k xs
unfolding nulled
nulled_both [] xs d k i = refl
nulled_both (true ∷ ys) xs d k i = nulled_both ys xs d k (suc i)
nulled_both (false ∷ ys) xs d k i = rw (nulled-set xs d k i) (nulled_both ys xs (set d i under_null) k (suc i))

-- ---- so many bits at a time

-- the next bits, and those after them
tab-next : {A : Type 0} (f : ℕ → A) (q n done w : ℕ) → done + w ≤ n → tab f (q + done) (n - done) ≡ tab f (q + done) w ++ tab f (q + (done + w)) (n - (done + w))
tab-next f q n done w h =
    let a : n - done ≡ w + (n - (done + w)) = omega arith in
    let b : q + (done + w) ≡ q + done + w = omega arith in
    rw (a, b, tab_split f (q + done) w (n - (done + w)))

-- what is left to write of the n bits from bit q on, where so many are done
pub record Nulling (bits : List ℕ) (q n : ℕ) (d₀ : List ℤ) (at : ℕ) (d : List ℤ) (done : ℕ) : Type 0 where
  pub written : nulled d (at + done) (tab (bit_at bits) (q + done) (n - done)) ≡ nulled d₀ at (tab (bit_at bits) q n)

module _ {bits : List ℕ} {q n : ℕ} {d₀ : List ℤ} {at : ℕ} {d : List ℤ} {done : ℕ} (o : Nulling bits q n d₀ at d done) where
  -- w bits more are written
  pub nulling_more : (w x : ℕ) {p r more : ℕ} {d' : List ℤ} → done + w ≤ n → p ≡ at + done → r ≡ q + done → more ≡ done + w
      → d' ≡ nulled d p (low_bits x w) → low_bits x w ≡ tab (bit_at bits) r w → Nulling bits q n d₀ at d' more
  nulling_more w x {d' = d'} h a b c e v =
      let f = bit_at bits in
      let m : at + (done + w) ≡ at + done + w = omega arith in
      let z : d' ≡ nulled d (at + done) (tab f (q + done) w) = rw (a, v, b) at e in
      record {
        written = rw (c, m)
            (ap₂ (λ (r : List ℤ) (i : ℕ). nulled r (at + done + i) (tab f (q + (done + w)) (n - (done + w)))) z (sym (length-tab f (q + done) w))
            ∙ sym (nulled-append (tab f (q + done) w) (tab f (q + (done + w)) (n - (done + w))) d (at + done))
            ∙ ap (λ (r : List Bool). nulled d (at + done) r) (sym (tab-next f q n done w h))
            ∙ o.written);
      }

  pub nulling_done : done ≡ n → d ≡ nulled d₀ at (tab (bit_at bits) q n)
  unfolding nulled tab
  nulling_done z = let k : n - done ≡ 0 = omega arith in rw k at o.written

-- the same, the last place first
pub record NullingBack (bits : List ℕ) (q n : ℕ) (d₀ : List ℤ) (at : ℕ) (d : List ℤ) (done : ℕ) : Type 0 where
  pub written : nulled d at (reverse (tab (bit_at bits) (q + done) (n - done))) ≡ nulled d₀ at (reverse (tab (bit_at bits) q n))

module _ {bits : List ℕ} {q n : ℕ} {d₀ : List ℤ} {at : ℕ} {d : List ℤ} {done : ℕ} (o : NullingBack bits q n d₀ at d done) where
  pub turning_more : (w x : ℕ) {p r more : ℕ} {d' : List ℤ} → done + w ≤ n → p ≡ at + (n - (done + w)) → r ≡ q + done → more ≡ done + w
      → d' ≡ nulled d p (reverse (low_bits x w)) → low_bits x w ≡ tab (bit_at bits) r w → NullingBack bits q n d₀ at d' more
  turning_more w x {d' = d'} h a b c e v =
      let f = bit_at bits in
      let left = n - (done + w) in
      let xs = tab f (q + done) w in
      let ys = tab f (q + (done + w)) left in
      let z : d' ≡ nulled d (at + left) (reverse xs) = rw (a, v, b) at e in
      record {
        written = rw c
            (ap (λ (r : List ℤ). nulled r at (reverse ys)) z
            ∙ sym (nulled_both (reverse xs) (reverse ys) d at (at + left))
            ∙ ap (λ (r : ℕ). nulled (nulled d at (reverse ys)) (at + r) (reverse xs)) (sym (length_back f (q + (done + w)) left))
            ∙ sym (nulled-append (reverse ys) (reverse xs) d at)
            ∙ ap (λ (r : List Bool). nulled d at r) (sym (reverse-append xs ys) ∙ ap (λ (r : List Bool). reverse r) (sym (tab-next f q n done w h)))
            ∙ o.written);
      }

  pub turning_done : done ≡ n → d ≡ nulled d₀ at (reverse (tab (bit_at bits) q n))
  unfolding nulled tab
  turning_done z = let k : n - done ≡ 0 = omega arith in rw k at o.written

-- ---- values stored, and then what null slots hold

-- the values where the bits are 1, and what a null slot holds where they are 0
unfoldable pub masked : List ℤ → List Bool → List ℤ
masked [] bs = []
masked (x ∷ xs) [] = x ∷ xs
masked (x ∷ xs) (b ∷ bs) = pick b x under_null ∷ masked xs bs

-- a place before those of the others
set_before : (xs : List ℤ) (d : List ℤ) (i k : ℕ) (v : ℤ) → i < k → set (sets d k xs) i v ≡ sets (set d i v) k xs
set_before [] d i k v h = refl
set_before (x ∷ xs) d i k v h =
    set_before xs (set d k x) i (suc k) v (omega arith)
    ∙ ap (λ (r : List ℤ). sets r (suc k) xs) (set_comm d k i x v (λ e. omega arith))

first_masked : (b : Bool) (x : ℤ) (xs : List ℤ) (d : List ℤ) (k : ℕ) → pick b (sets d k (x ∷ xs)) (set (sets d k (x ∷ xs)) k under_null) ≡ sets (set d k (pick b x under_null)) (suc k) xs
first_masked true x xs d k = refl
first_masked false x xs d k =
    set_before xs (set d k x) k (suc k) under_null (omega arith)
    ∙ ap (λ (r : List ℤ). sets r (suc k) xs) (set-set d k x under_null)

pub nulled_sets : (xs : List ℤ) (bs : List Bool) (d : List ℤ) (k : ℕ) → length bs ≤ length xs → nulled (sets d k xs) k bs ≡ sets d k (masked xs bs)
unfolding nulled masked
nulled_sets [] [] d k h = refl
nulled_sets [] (b ∷ bs) d k h = let z : ⊥ = omega arith in absurd z
nulled_sets (x ∷ xs) [] d k h = refl
nulled_sets (x ∷ xs) (b ∷ bs) d k h =
    ap (λ (r : List ℤ). nulled r (suc k) bs) (first_masked b x xs d k)
    ∙ nulled_sets xs bs (set d k (pick b x under_null)) (suc k) (omega arith)

-- tables, from their first places on and from their last
module _ (f : ℕ → ℤ) (g : ℕ → Bool) (h : ℕ → ℤ) where
  masked_tab : (a q n : ℕ) → ((i : ℕ) → pick (g (q + i)) (f (a + i)) under_null ≡ h (a + i)) → masked (tab f a n) (tab g q n) ≡ tab h a n
  unfolding masked tab
  masked_tab a q zero e = refl
  masked_tab a q (suc n) e =
      let x : a + 0 ≡ a = omega arith in
      let y : q + 0 ≡ q = omega arith in
      ap₂ (λ (v : ℤ) (r : List ℤ). v ∷ r) (rw (x, y) at (e 0))
      (masked_tab (suc a) (suc q) n (λ i. let u : suc a + i ≡ a + suc i = omega arith in let w : suc q + i ≡ q + suc i = omega arith in rw (u, w) (e (suc i))))

  masked_back : (a q n : ℕ) → ((i : ℕ) → pick (g (q + i)) (f (a + i)) under_null ≡ h (a + i)) → masked (reverse (tab f a n)) (reverse (tab g q n)) ≡ reverse (tab h a n)
  unfolding masked tab
  masked_back a q zero e = refl
  masked_back a q (suc n) e =
      let d : suc n - 1 ≡ n = omega arith in
      rw (rev_step f a (suc n) (omega arith), rev_step g q (suc n) (omega arith), rev_step h a (suc n) (omega arith), d)
      (ap₂ (λ (v : ℤ) (r : List ℤ). v ∷ r) (e n) (masked_back a q n e))

-- ---- elements of a column whose bitmap is not empty: element a's bit is bit s of byte k

module _ (vs : List ℤ) (bytes : List ℕ) (start k s a : ℕ) (e : length bytes ≡ 0 → ⊥) (p : 8 * k + s ≡ start + a) where
  abbrev E : ℕ → Elem
  E = elem_at vs (from start bytes)

  valid_here : (i : ℕ) → bit_at bytes (8 * k + s + i) ≡ valid_at (from start bytes) (a + i)
  unfolding valid_at
  valid_here i = let w : 8 * k + s + i ≡ start + (a + i) = omega arith in rw (ne_eqb (length bytes) 0 e, w)

  value_here : (i : ℕ) → pick (bit_at bytes (8 * k + s + i)) (get_or vs (a + i) (pos 0)) under_null ≡ value_of (E (a + i))
  value_here i = ap (λ (b : Bool). pick b (get_or vs (a + i) (pos 0)) under_null) (valid_here i) ∙ sym (value_elem vs (from start bytes) (a + i))

  -- their bits
  pub elems_bits : (n : ℕ) → tab (bit_at bytes) (8 * k + s) n ≡ map is_val (tab E a n)
  elems_bits n =
      tab_ext (bit_at bytes) (λ i. is_val (E i)) (8 * k + s) a n (λ i h. valid_here i ∙ sym (is_val_elem vs (from start bytes) (a + i)))
      ∙ sym (map-tab is_val E a n)

  pub elems_bits_back : (n : ℕ) → reverse (tab (bit_at bytes) (8 * k + s) n) ≡ map is_val (reverse (tab E a n))
  elems_bits_back n = ap (λ (r : List Bool). reverse r) (elems_bits n ∙ map-tab is_val E a n) ∙ sym (map_back is_val E (λ i. is_val (E i)) a n (λ i. refl))

  -- their values, as stored and then written over where a slot is null
  pub elems_values : (n : ℕ) (d : List ℤ) (at : ℕ) → nulled (sets d at (tab (λ i. get_or vs i (pos 0)) a n)) at (tab (bit_at bytes) (8 * k + s) n) ≡ sets d at (map value_of (tab E a n))
  elems_values n d at =
      let f : ℕ → ℤ = λ i. get_or vs i (pos 0) in
      nulled_sets (tab f a n) (tab (bit_at bytes) (8 * k + s) n) d at (omega (arith, length-tab f a n, length-tab (bit_at bytes) (8 * k + s) n))
      ∙ ap (λ (r : List ℤ). sets d at r) (masked_tab f (bit_at bytes) (λ i. value_of (E i)) a (8 * k + s) n value_here ∙ sym (map-tab value_of E a n))

  pub elems_values_back : (n : ℕ) (d : List ℤ) (at : ℕ)
      → nulled (sets d at (reverse (tab (λ i. get_or vs i (pos 0)) a n))) at (reverse (tab (bit_at bytes) (8 * k + s) n)) ≡ sets d at (map value_of (reverse (tab E a n)))
  elems_values_back n d at =
      let f : ℕ → ℤ = λ i. get_or vs i (pos 0) in
      nulled_sets (reverse (tab f a n)) (reverse (tab (bit_at bytes) (8 * k + s) n)) d at (omega (arith, length_back f a n, length_back (bit_at bytes) (8 * k + s) n))
      ∙ ap (λ (r : List ℤ). sets d at r) (masked_back f (bit_at bytes) (λ i. value_of (E i)) a (8 * k + s) n value_here ∙ sym (map_back value_of E (λ i. value_of (E i)) a n (λ i. refl)))

  -- n of them are written where their values and their bits are
  module _ (n at : ℕ) {vo vo' : List ℤ} {eo eo' : List ℕ} where
    pub nullable_written : vo' ≡ nulled (sets vo at (tab (λ i. get_or vs i (pos 0)) a n)) at (tab (bit_at bytes) (8 * k + s) n) → eo' ≡ push_bits eo at (tab (bit_at bytes) (8 * k + s) n)
        → Writesˡ (tab (elem_at vs (from start bytes)) a n) at vo vo' eo eo' (at + n)
    nullable_written v b =
        both_written (tab E a n) (map value_of (tab E a n)) (map is_val (tab E a n)) at n refl refl (length-tab E a n) (v ∙ elems_values n vo at) (b ∙ ap (λ (r : List Bool). push_bits eo at r) (elems_bits n))

    pub nullable_back_written : vo' ≡ nulled (sets vo at (reverse (tab (λ i. get_or vs i (pos 0)) a n))) at (reverse (tab (bit_at bytes) (8 * k + s) n)) → eo' ≡ push_bits eo at (reverse (tab (bit_at bytes) (8 * k + s) n))
        → Writesˡ (reverse (tab (elem_at vs (from start bytes)) a n)) at vo vo' eo eo' (at + n)
    nullable_back_written v b =
        both_written (reverse (tab E a n)) (map value_of (reverse (tab E a n))) (map is_val (reverse (tab E a n))) at n refl refl (length_back E a n) (v ∙ elems_values_back n vo at) (b ∙ ap (λ (r : List Bool). push_bits eo at r) (elems_bits_back n))
