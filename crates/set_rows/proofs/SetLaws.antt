-- Laws of union and intersect.
use mathlib.Core.Path.{◌≡◌, refl, sym, ap, ◌∙◌}
use mathlib.Core.Bool.{Bool, true, false, not, ◌&&◌, ◌||◌}
use mathlib.Core.List.{List, [], ◌∷◌, ◌++◌, map, map-append, append_assoc, append-nil}
use Prim.Native.Nat.{ℕ, suc, ◌+◌, ◌-◌, ◌≤◌, ◌<◌}
use native.Mathlib.Omega.{arith}
use native.Mathlib.Numerals.{add-one}
use borrow.Author.Tests.{lt-ltb, le-ltb, ltb-true, ltb-false}
use lib.Dec.{ltb}
use lib.IntN.{ℤ}
use lib.ListN.{length, length-append}
use lib.Seq.{sets, length-sets}
use Rattle.bitmap.specs.Push.{push_bit, push_bits}
use Rattle.bitmap.proofs.BitLaws.{bit_le, length-push_bits}
use Rattle.model.specs.Basics.{pick, tab}
use Rattle.model.specs.Bitmap.{bit}
use Rattle.model.specs.Column.{Elem}
use Rattle.model.specs.Form.{is_val, value_of}
use Rattle.model.specs.Elements.{same_elem, is_in, firsts, distinct, common, set_elems}
use Rattle.model.specs.declared.SetOp.{SetOp}
use Rattle.model.specs.declared.SetOp.TheVariants.{Union, Intersect}
use Rattle.model.proofs.TabLaws.{tab-step, tab-none, tab-last, length-map}
use Rattle.column.specs.Put.{RoomForElemsˡ, Writesˡ}
use Rattle.set_elements.specs.Pairs.{keeps, kept}
use Rattle.set_elements.proofs.PairLaws.{not_so, same_eq, is_in-append}

-- ---- the walk: what is left after k elements, with those as seen

unfoldable pub kept_later : Bool → List Elem → (ℕ → Elem) → ℕ → ℕ → ℕ → List Elem
kept_later shared others f a k n = kept shared others (tab f a k) (tab f (a + k) n)

length-pick : (b : Bool) (e : Elem) (es : List Elem) → length (pick b (e ∷ es) es) ≡ bit b + length es
length-pick true e es = omega arith
length-pick false e es = omega arith

module _ (shared : Bool) (others : List Elem) (f : ℕ → Elem) (a : ℕ) where
  pub kept_all : (n : ℕ) → kept shared others [] (tab f a n) ≡ kept_later shared others f a 0 n
  unfolding kept_later tab
  kept_all n = let e : a + 0 ≡ a = omega arith in rw e

  module _ (k n : ℕ) where
    pub kept-none : n ≤ 0 → kept_later shared others f a k n ≡ []
    unfolding kept_later kept
    kept-none h = rw (tab-none f (a + k) n h)

    module _ (h : 0 < n) where
      kept_step : kept_later shared others f a k n ≡ pick (keeps shared others (tab f a k) (f (a + k))) (f (a + k) ∷ kept_later shared others f a (k + 1) (n - 1)) (kept_later shared others f a (k + 1) (n - 1))
      unfolding kept_later kept
      kept_step =
          let e : a + k + 1 ≡ a + (k + 1) = omega arith in
          rw (tab-step f (a + k) n h, ← tab-last f a k, ← add-one k, e)

      pub length-kept : {t : Bool} → t ≡ keeps shared others (tab f a k) (f (a + k)) → length (kept_later shared others f a k n) ≡ bit t + length (kept_later shared others f a (k + 1) (n - 1))
      length-kept e = rw (kept_step, length-pick, ← e)

      pub kept-taken : {t : Bool} → t ≡ keeps shared others (tab f a k) (f (a + k)) → t ≡ true → kept_later shared others f a k n ≡ f (a + k) ∷ kept_later shared others f a (k + 1) (n - 1)
      kept-taken e q = kept_step ∙ rw (← e, q)

      pub kept_passed : {t : Bool} → t ≡ keeps shared others (tab f a k) (f (a + k)) → t ≡ false → kept_later shared others f a k n ≡ kept_later shared others f a (k + 1) (n - 1)
      kept_passed e q = kept_step ∙ rw (← e, q)

-- ---- union: first occurrences over an append

pub firsts-append : (seen l r : List Elem) → firsts seen (l ++ r) ≡ firsts seen l ++ firsts (seen ++ l) r
unfolding firsts
firsts-append seen [] r = rw append-nil
firsts-append seen (e ∷ l) r = rw (firsts-append (seen ++ (e ∷ [])) l r, append_assoc seen (e ∷ []) l) (out (is_in e seen) _ _)
  where
    out : (b : Bool) (x y : List Elem) → pick b (x ++ y) (e ∷ (x ++ y)) ≡ pick b x (e ∷ x) ++ y
    out true x y = refl
    out false x y = refl

new_or_old : (x y : Bool) (a b : List Elem) → pick (x || y) a b ≡ pick (not y && not x) b a
new_or_old true true a b = refl
new_or_old true false a b = refl
new_or_old false true a b = refl
new_or_old false false a b = refl

-- those not seen before, some of what was seen being the others
pub firsts-kept : (others seen es : List Elem) → firsts (others ++ seen) es ≡ kept false others seen es
unfolding firsts kept keeps
firsts-kept others seen [] = refl
firsts-kept others seen (e ∷ es) =
    rw (append_assoc others seen (e ∷ []), firsts-kept others (seen ++ (e ∷ [])) es, is_in-append e others seen)
    (new_or_old (is_in e others) (is_in e seen) _ _)

module _ (l r : List Elem) where
  -- the first occurrences of the left row, then those of the right row that are neither in the left row nor earlier in the right one
  pub union_distinct : set_elems Union l r ≡ distinct l ++ kept false l [] r
  unfolding set_elems
  union_distinct = firsts-append [] l r ∙ rw (← firsts-kept l [] r, append-nil)

  -- the same as two walks, the first of them with no others
  pub union_kept : set_elems Union l r ≡ kept false [] [] l ++ kept false l [] r
  union_kept = union_distinct ∙ rw (firsts-kept [] [] l)

-- ---- intersect: first occurrences among the common ones

common-append : (others xs ys : List Elem) → common others (xs ++ ys) ≡ common others xs ++ common others ys
unfolding common
common-append others [] ys = refl
common-append others (x ∷ xs) ys = rw (common-append others xs ys) (out (is_in x others) _ _)
  where
    out : (b : Bool) (u v : List Elem) → pick b (x ∷ (u ++ v)) (u ++ v) ≡ pick b (x ∷ u) u ++ v
    out true u v = refl
    out false u v = refl

module _ (others : List Elem) (e : Elem) (h : is_in e others ≡ true) where
  common-one : (f : Elem) (fs : List Elem) → is_in e (common others fs) ≡ is_in e fs → (b : Bool) → is_in f others ≡ b → (t : Bool) → same_elem e f ≡ t → is_in e (pick b (f ∷ common others fs) (common others fs)) ≡ t || is_in e fs
  unfolding is_in
  common-one f fs ih true p t q = rw (q, ih)
  common-one f fs ih false p false q = ih
  common-one f fs ih false p true q = not_so (sym p ∙ rw (← same_eq e f q) h)

  -- one of the others is among the common ones of a row where it is in the row
  is_in-common : (fs : List Elem) → is_in e (common others fs) ≡ is_in e fs
  unfolding is_in common
  is_in-common [] = refl
  is_in-common (f ∷ fs) = common-one f fs (is_in-common fs) (is_in f others) refl (same_elem e f) refl

  seen_one : (seen : List Elem) → common others (seen ++ (e ∷ [])) ≡ common others seen ++ (e ∷ [])
  unfolding common
  seen_one seen = common-append others seen (e ∷ []) ∙ rw h

seen_none : (others : List Elem) (e : Elem) → is_in e others ≡ false → (seen : List Elem) → common others (seen ++ (e ∷ [])) ≡ common others seen
unfolding common
seen_none others e h seen = common-append others seen (e ∷ []) ∙ rw (h, append-nil)

turned : (x : Bool) (a b : List Elem) → pick x a b ≡ pick (not x && true) b a
turned true a b = refl
turned false a b = refl

none_left : (x : Bool) (a b : List Elem) → b ≡ pick (not x && false) a b
none_left true a b = refl
none_left false a b = refl

firsts-one : (others seen : List Elem) (e : Elem) (D K : List Elem) → firsts (common others (seen ++ (e ∷ []))) D ≡ K → (b : Bool) → is_in e others ≡ b → firsts (common others seen) (pick b (e ∷ D) D) ≡ pick (not (is_in e seen) && b) (e ∷ K) K
unfolding firsts
firsts-one others seen e D K ih true p =
    rw (is_in-common others e p seen, ← seen_one others e p seen, ih) (turned (is_in e seen) K (e ∷ K))
firsts-one others seen e D K ih false p = rw (← seen_none others e p seen, ih) (none_left (is_in e seen) (e ∷ K) K)

pub firsts-common : (others seen es : List Elem) → firsts (common others seen) (common others es) ≡ kept true others seen es
unfolding firsts common kept keeps
firsts-common others seen [] = refl
firsts-common others seen (e ∷ es) =
    firsts-one others seen e (common others es) (kept true others (seen ++ (e ∷ [])) es) (firsts-common others (seen ++ (e ∷ [])) es) (is_in e others) refl

module _ (l r : List Elem) where
  -- the right row is walked where it is longer, and else the left one
  pub intersect_right : length l < length r → set_elems Intersect l r ≡ kept true l [] r
  unfolding set_elems common
  intersect_right h = rw (lt-ltb _ _ h) (firsts-common l [] r)

  pub intersect_left : length r ≤ length l → set_elems Intersect l r ≡ kept true r [] l
  unfolding set_elems common
  intersect_left h = rw (le-ltb _ _ h) (firsts-common r [] l)

-- ---- lengths

kept-one : (b : Bool) (e : Elem) (es : List Elem) (n : ℕ) → length es ≤ n → length (pick b (e ∷ es) es) ≤ suc n
kept-one true e es n h = omega arith
kept-one false e es n h = omega arith

-- a walk keeps no more than it walks
pub kept_le : (shared : Bool) (others seen es : List Elem) → length (kept shared others seen es) ≤ length es
unfolding kept
kept_le shared others seen [] = omega arith
kept_le shared others seen (e ∷ es) = kept-one (keeps shared others seen e) e (kept shared others (seen ++ (e ∷ [])) es) (length es) (kept_le shared others (seen ++ (e ∷ [])) es)

-- how many of the others were not seen
unfoldable unseen : List Elem → List Elem → ℕ
unseen [] seen = 0
unseen (o ∷ os) seen = bit (not (is_in o seen)) + unseen os seen

bit_or : (x y : Bool) → bit (not (x || y)) ≤ bit (not x)
bit_or true y = omega arith
bit_or false true = omega arith
bit_or false false = omega arith

unseen_le : (os seen : List Elem) → unseen os seen ≤ length os
unfolding unseen
unseen_le [] seen = omega arith
unseen_le (o ∷ os) seen = let ih = unseen_le os seen in omega (arith, bit_le (not (is_in o seen)))

module _ (seen : List Elem) (e : Elem) where
  seen_more : (o : Elem) → bit (not (is_in o (seen ++ (e ∷ [])))) ≤ bit (not (is_in o seen))
  seen_more o = rw (is_in-append o seen (e ∷ [])) (bit_or (is_in o seen) (is_in o (e ∷ [])))

  unseen_more : (os : List Elem) → unseen os (seen ++ (e ∷ [])) ≤ unseen os seen
  unfolding unseen
  unseen_more [] = omega arith
  unseen_more (o ∷ os) = let ih = unseen_more os in omega (arith, seen_more o)

  module _ (new : is_in e seen ≡ false) where
    now_seen : same_elem e e ≡ true → bit (not (is_in e (seen ++ (e ∷ [])))) + 1 ≤ bit (not (is_in e seen))
    unfolding is_in
    now_seen q = rw (is_in-append e seen (e ∷ []), new, q) (omega arith)

    unseen_one : (o : Elem) (os : List Elem) → (is_in e os ≡ true → unseen os (seen ++ (e ∷ [])) + 1 ≤ unseen os seen) → (t : Bool) → same_elem e o ≡ t → t || is_in e os ≡ true
        → bit (not (is_in o (seen ++ (e ∷ [])))) + unseen os (seen ++ (e ∷ [])) + 1 ≤ bit (not (is_in o seen)) + unseen os seen
    unseen_one o os ih true q h =
        let d = rw (← same_eq e o q) at q in
        rw (← same_eq e o q) (omega (arith, now_seen d, unseen_more os))
    unseen_one o os ih false q h = omega (arith, ih h, seen_more o)

    unseen_less : (os : List Elem) → is_in e os ≡ true → unseen os (seen ++ (e ∷ [])) + 1 ≤ unseen os seen
    unfolding unseen is_in
    unseen_less [] h = not_so h
    unseen_less (o ∷ os) h = unseen_one o os (unseen_less os) (same_elem e o) refl h

kept_by : (others seen : List Elem) (e : Elem) (K : List Elem) → length K ≤ unseen others (seen ++ (e ∷ [])) → (x y : Bool) → is_in e seen ≡ x → is_in e others ≡ y → length (pick (not x && y) (e ∷ K) K) ≤ unseen others seen
kept_by others seen e K ih true y p q = omega (arith, unseen_more seen e others)
kept_by others seen e K ih false true p q = omega (arith, unseen_less seen e p others q)
kept_by others seen e K ih false false p q = omega (arith, unseen_more seen e others)

-- of the shared ones a walk keeps no more than there are others
shared_le : (others seen es : List Elem) → length (kept true others seen es) ≤ unseen others seen
unfolding kept keeps
shared_le others seen [] = omega arith
shared_le others seen (e ∷ es) = kept_by others seen e (kept true others (seen ++ (e ∷ [])) es) (shared_le others (seen ++ (e ∷ [])) es) (is_in e seen) (is_in e others) refl refl

module _ (l r : List Elem) where
  pub union_le : length (set_elems Union l r) ≤ length l + length r
  union_le = rw (union_kept l r, length-append) (omega (arith, kept_le false [] [] l, kept_le false l [] r))

  either : (P : ℕ → Type 0) → (length l < length r → P (length (kept true l [] r))) → (length r ≤ length l → P (length (kept true r [] l))) → P (length (set_elems Intersect l r))
  either P f g = by (ltb (length l) (length r)) refl
    where
      by : (t : Bool) → ltb (length l) (length r) ≡ t → P (length (set_elems Intersect l r))
      by true e = let h = ltb-true _ _ e in rw (intersect_right l r h) (f h)
      by false e = let h = ltb-false _ _ e in rw (intersect_left l r h) (g h)

  -- an intersection is no longer than either row
  pub intersect_le_left : length (set_elems Intersect l r) ≤ length l
  intersect_le_left = either (λ n. n ≤ length l) (λ h. omega (arith, shared_le l [] r, unseen_le l [])) (λ h. kept_le true r [] l)

  pub intersect_le_right : length (set_elems Intersect l r) ≤ length r
  intersect_le_right = either (λ n. n ≤ length r) (λ h. kept_le true l [] r) (λ h. omega (arith, shared_le r [] l, unseen_le r []))

pub set_le : (op : SetOp) (l r : List Elem) → length (set_elems op l r) ≤ length l + length r
set_le Union l r = union_le l r
set_le Intersect l r = omega (arith, intersect_le_left l r)

-- ---- one run of elements written after another

sets_append : {A : Type 0} (d : List A) (k : ℕ) (xs ys : List A) → sets d k (xs ++ ys) ≡ sets (sets d k xs) (k + length xs) ys
sets_append d k [] ys = let e : k + 0 ≡ k = omega arith in rw e
sets_append d k (x ∷ xs) ys = let e : k + suc (length xs) ≡ suc k + length xs = omega arith in rw e (sets_append _ (suc k) xs ys)

pushes_append : (d : List ℕ) (k : ℕ) (xs ys : List Bool) → push_bits d k (xs ++ ys) ≡ push_bits (push_bits d k xs) (k + length xs) ys
unfolding push_bits
pushes_append d k [] ys = let e : k + 0 ≡ k = omega arith in rw e
pushes_append d k (x ∷ xs) ys = let e : k + suc (length xs) ≡ suc k + length xs = omega arith in rw e (pushes_append (push_bit d k x) (suc k) xs ys)

module _ (es fs : List Elem) where
  pub place-first : {at lv le : ℕ} → RoomForElemsˡ (es ++ fs) at lv le → RoomForElemsˡ es at lv le
  place-first p = let n = length-append es fs in record { values = omega (arith, p.values); elements = omega (arith, p.elements) }

  module _ {at k : ℕ} {vo vo₁ : List ℤ} {eo eo₁ : List ℕ} (w : Writesˡ es at vo vo₁ eo eo₁ k) where
    pub written_lv : length vo₁ ≡ length vo
    written_lv = ap length w.values ∙ length-sets vo at (map value_of es)

    pub written_le : length eo₁ ≡ length eo
    written_le = ap length w.elements ∙ length-push_bits eo at (map is_val es)

    pub place_then : RoomForElemsˡ (es ++ fs) at (length vo) (length eo) → RoomForElemsˡ fs k (length vo₁) (length eo₁)
    place_then p =
        let n = length-append es fs in
        record {
          values = omega (arith, p.values, w.next, written_lv);
          elements = omega (arith, p.elements, w.next, written_le);
        }

    pub written_then : {vo₂ : List ℤ} {eo₂ : List ℕ} {r : ℕ} → Writesˡ fs k vo₁ vo₂ eo₁ eo₂ r → Writesˡ (es ++ fs) at vo vo₂ eo eo₂ r
    written_then u = record {
      values = u.values ∙ rw (w.values, w.next, map-append, sets_append vo at (map value_of es) (map value_of fs), length-map value_of es);
      elements = u.elements ∙ rw (w.elements, w.next, map-append, pushes_append eo at (map is_val es) (map is_val fs), length-map is_val es);
      next = omega (arith, w.next, u.next, length-append es fs);
    }
