-- Laws of how far a search among values goes, and of a search that passes over nulls.
use mathlib.Core.Path.{◌≡◌, refl, sym, ap, ◌∙◌}
use mathlib.Core.Bool.{Bool, true, false, ◌||◌}
use mathlib.Core.List.{List, [], ◌∷◌}
use Rattle.std.specs.Simd.{first_chunks}
use Prim.Native.Nat.{ℕ, zero, suc, ◌+◌, ◌-◌, ◌*◌, ◌≤◌, ◌<◌}
use native.Mathlib.Omega.{arith}
use lib.IntN.{ℤ, pos}
use lib.Dec.{ltb}
use lib.ListN.{length, get_or, take, drop, length-take, length-drop}
use lib.Seq.{drop-cons}
use borrow.Author.Tests.{ltb-true, ltb-false}
use Rattle.std.proofs.Common.{Option, None, Some}
use Rattle.std.proofs.lemmas.List.{get_or-take, get_or-drop, drop-drop}
use Rattle.std.specs.List.{list_any, AllWithin, HoldsAt}
use Rattle.std.specs.Option.{MatchOption, unwrap_or}
use Rattle.std.specs.Ordering.{int_eq}
use Rattle.column.proofs.RowLaws.{elem_valid, elem_null, elem_plain}
use Rattle.model.specs.Basics.{pick, tab}
use Rattle.model.specs.Bitmap.{Bits, valid_at}
use Rattle.model.specs.Column.{Elem, nul, val, elem_at}
use Rattle.model.specs.Elements.{eq_z, same_elem, is_in}
use Rattle.model.proofs.TabLaws.{tab_ext}
use Rattle.set_elements.specs.Pairs.{plain, has_value}
use Rattle.set_elements.specs.Search.{Before, value_is}
use Rattle.set_elements.proofs.ElementLaws.{is_in-step}
use Rattle.set_elements.proofs.PairLaws.{is_in_split, not_so, int_eq_z}

-- ---- none of some elements

or_left : (a b : Bool) → a || b ≡ false → a ≡ false
or_left false b h = refl
or_left true b h = not_so (sym h)

or_right : (a b : Bool) → a || b ≡ false → b ≡ false
or_right false b h = h
or_right true b h = not_so (sym h)

module _ (e : Elem) (f : ℕ → Elem) where
  pub none_each : (p n : ℕ) → is_in e (tab f p n) ≡ false → (i : ℕ) → i < n → same_elem e (f (p + i)) ≡ false
  unfolding is_in tab
  none_each p zero h i k = let z : ⊥ = omega arith in absurd z
  none_each p (suc n) h zero k = let z : p + 0 ≡ p = omega arith in rw z (or_left _ _ h)
  none_each p (suc n) h (suc i) k = let s : suc p + i ≡ p + suc i = omega arith in rw s at (none_each (suc p) n (or_right (same_elem e (f p)) _ h) i (omega arith))

  pub each_none : (p n : ℕ) → ((i : ℕ) → i < n → same_elem e (f (p + i)) ≡ false) → is_in e (tab f p n) ≡ false
  unfolding is_in tab
  each_none p zero h = refl
  each_none p (suc n) h =
      let z : p + 0 ≡ p = omega arith in
      rw (rw z at (h 0 (omega arith))) (each_none (suc p) n (λ i k. let s : suc p + i ≡ p + suc i = omega arith in rw s (h (suc i) (omega arith))))

-- ---- values one after the other

-- among the k values from value a on, in the code's terms
pub any_value : (v : ℤ) (vs : List ℤ) (a k : ℕ) → a + k ≤ length vs → list_any (λ (y : ℤ). int_eq y v) (take k (drop a vs)) ≡ has_value v vs a k
unfolding is_in tab same_elem
any_value v vs a zero h = refl
any_value v vs a (suc k) h = rw (drop-cons vs a (pos 0) (omega arith), int_eq_z, any_value v vs (suc a) k (omega arith))

four_or : (p q r s a b : Bool) → (p || (q || (r || (s || false)))) || a || b ≡ p || (q || (r || (s || (a || b))))
four_or true q r s a b = refl
four_or false true r s a b = refl
four_or false false true s a b = refl
four_or false false false true a b = refl
four_or false false false false a b = refl

-- among n fours, or among the rest
pub any_four : (v : ℤ) (l : List ℤ) (n : ℕ) → n * 4 ≤ length l → list_any (λ (four : List ℤ). has_value v four 0 4) (first_chunks 4 n l) || list_any (λ (y : ℤ). int_eq y v) (drop (n * 4) l) ≡ list_any (λ (y : ℤ). int_eq y v) l
unfolding is_in tab same_elem
any_four v l zero h = refl
any_four v (w ∷ x ∷ y ∷ z ∷ l) (suc n) h =
    let e : suc n * 4 ≡ suc (suc (suc (suc (n * 4)))) = omega arith in
    let ih = any_four v l n (omega (arith, h)) in
    rw (e, int_eq_z w v, int_eq_z x v, int_eq_z y v, int_eq_z z v)
    (four_or (eq_z v w) (eq_z v x) (eq_z v y) (eq_z v z) (list_any (λ (four : List ℤ). has_value v four 0 4) (first_chunks 4 n l)) (list_any (λ (y : ℤ). int_eq y v) (drop (n * 4) l))
    ∙ ap (λ (t : Bool). eq_z v w || (eq_z v x || (eq_z v y || (eq_z v z || t)))) ih)
any_four v [] (suc n) h = absurd (omega (arith, h))
any_four v (w ∷ []) (suc n) h = absurd (omega (arith, h))
any_four v (w ∷ x ∷ []) (suc n) h = absurd (omega (arith, h))
any_four v (w ∷ x ∷ y ∷ []) (suc n) h = absurd (omega (arith, h))

four_at : (l : List ℤ) (m i : ℕ) (d : List ℤ) → i < m → get_or (first_chunks 4 m l) i d ≡ take 4 (drop (i * 4) l)
four_at l zero i d h = absurd (omega arith)
four_at l (suc m) zero d h = refl
four_at l (suc m) (suc i) d h =
    let e : suc i * 4 ≡ 4 + i * 4 = omega arith in
    four_at (drop 4 l) m i d (omega arith) ∙ ap (take 4) (drop-drop (i * 4) 4 l ∙ ap (λ (j : ℕ). drop j l) (sym e))

-- ---- values before the first that is v

module _ (v : ℤ) (vs : List ℤ) (a : ℕ) where
  pub no_values : has_value v vs a 0 ≡ false
  unfolding is_in tab
  no_values = refl

  -- n more values
  pub more-values : (r n : ℕ) → has_value v vs a r ≡ false → has_value v vs (a + r) n ≡ false → has_value v vs a (r + n) ≡ false
  more-values r n h g =
      let s : r + n - r ≡ n = omega arith in
      is_in_split (val v) (plain vs) a r (r + n) (omega arith) ∙ rw (h, s, g)

  -- none of the first n fours
  pub none_four : (k m n : ℕ) → m * 4 ≤ k → a + k ≤ length vs → n ≤ m → AllWithin (λ (four : List ℤ). has_value v four 0 4 ≡ false) (first_chunks 4 m (take k (drop a vs))) 0 n → has_value v vs a (4 * n) ≡ false
  none_four k m zero h g l f = no_values
  none_four k m (suc n) h g l f =
      let e : 4 * suc n ≡ 4 * n + 4 = omega arith in
      rw e
      (more-values (4 * n) 4 (none_four k m n h g (omega arith) (λ i d p q. f i d (omega arith) (omega arith)))
      (tab_same ∙ rw (four_at (take k (drop a vs)) m n [] (omega arith)) at (f n [] (omega arith) (omega arith))))
    where
      tab_same : has_value v vs (a + 4 * n) 4 ≡ has_value v (take 4 (drop (n * 4) (take k (drop a vs)))) 0 4
      tab_same = ap (λ (t : List Elem). is_in (val v) t) (tab_ext (plain vs) (plain (take 4 (drop (n * 4) (take k (drop a vs))))) (a + 4 * n) 0 4 (λ j b. same_at j b))
        where
          same_at : (j : ℕ) → j < 4 → plain vs (a + 4 * n + j) ≡ plain (take 4 (drop (n * 4) (take k (drop a vs)))) (0 + j)
          same_at j b =
              let z : 0 + j ≡ j = omega arith in
              let q : a + (n * 4 + j) ≡ a + 4 * n + j = omega arith in
              rw (z, get_or-take 4 (drop (n * 4) (take k (drop a vs))) j (pos 0) b, get_or-drop (n * 4) (take k (drop a vs)) j (pos 0), get_or-take k (drop a vs) (n * 4 + j) (pos 0) (omega arith), get_or-drop a vs (n * 4 + j) (pos 0), q)

  -- the place found among the values after the first r
  module _ (k r : ℕ) (h : a + k ≤ length vs) (g : r ≤ k) (none_yet : has_value v vs a r ≡ false) where
    abbrev Rest : List ℤ
    Rest = take (a + k - (a + r)) (drop (a + r) vs)

    rest_at : (j : ℕ) → j < k - r → int_eq (get_or Rest j (pos 0)) v ≡ value_is v vs a (r + j)
    rest_at j l =
        let e : a + r + j ≡ a + (r + j) = omega arith in
        rw (get_or-take (a + k - (a + r)) (drop (a + r) vs) j (pos 0) (omega arith), get_or-drop, e, int_eq_z)

    none_to : (n : ℕ) → n ≤ k - r → AllWithin (λ (y : ℤ). int_eq y v ≡ false) Rest 0 n → (i : ℕ) → i < r + n → (t : Bool) → ltb i r ≡ t → value_is v vs a i ≡ false
    unfolding same_elem
    none_to n m f i l true e = none_each (val v) (plain vs) a r none_yet i (ltb-true i r e)
    none_to n m f i l false e =
        let s : r ≤ i = ltb-false i r e in
        let d : r + (i - r) ≡ i = omega arith in
        rw d at (sym (rest_at (i - r) (omega arith)) ∙ f (i - r) (pos 0) (omega arith) (omega arith))

    pub before_position : (o : Option ℕ) → MatchOption o (AllWithin (λ (y : ℤ). int_eq y v ≡ false) Rest 0 (length Rest)) (λ (i : ℕ). (i < length Rest) × HoldsAt (λ (y : ℤ). int_eq y v ≡ true) Rest i × AllWithin (λ (y : ℤ). int_eq y v ≡ false) Rest 0 i) → Before (value_is v vs a) k (r + unwrap_or o (k - r))
    before_position None m =
        let n : length Rest ≡ k - r = omega (arith, length-take (a + k - (a + r)) (drop (a + r) vs), length-drop (a + r) vs) in
        let e : r + (k - r) ≡ k = omega arith in
        rw e (record { inside = omega arith; none = λ i l. none_to (k - r) (omega arith) (rw n at m) i (omega arith) (ltb i r) refl; found = λ z. absurd (omega arith) })
    before_position (Some i) m =
        let n : length Rest ≡ k - r = omega (arith, length-take (a + k - (a + r)) (drop (a + r) vs), length-drop (a + r) vs) in
        let l : i < k - r = omega (arith, m.0) in
        record { inside = omega arith; none = λ j b. none_to i (omega arith) m.2 j b (ltb j r) refl; found = λ z. sym (rest_at i l) ∙ m.1 (pos 0) }

-- ---- a value among elements

differs : (v x : ℤ) (b : Bool) → eq_z v x ≡ false → same_elem (val v) (pick b (val x) nul) ≡ false
unfolding same_elem
differs v x true h = h
differs v x false h = refl

-- an element under another value is not the value, be it null or not
pub other_elem : (v : ℤ) (vs : List ℤ) (eb : Bits) (i : ℕ) → eq_z v (get_or vs i (pos 0)) ≡ false → same_elem (val v) (elem_at vs eb i) ≡ false
unfolding elem_at
other_elem v vs eb i h = differs v (get_or vs i (pos 0)) (valid_at eb i) h

module _ (v : ℤ) (vs : List ℤ) (eb : Bits) (p n r : ℕ) (b : Before (value_is v vs p) n r) where
  none_before : is_in (val v) (tab (elem_at vs eb) p r) ≡ false
  none_before = each_none (val v) (elem_at vs eb) p r (λ i h. other_elem v vs eb (p + i) (b.none i h))

  -- all of them have other values
  pub not_found : n ≤ r → is_in (val v) (tab (elem_at vs eb) p n) ≡ false
  not_found h = let e : r ≡ n = omega (arith, b.inside) in rw e at none_before

  module _ (l : r < n) where
    -- the ones before the value found are passed
    passed : is_in (val v) (tab (elem_at vs eb) p n) ≡ same_elem (val v) (elem_at vs eb (p + r)) || is_in (val v) (tab (elem_at vs eb) (p + (r + 1)) (n - (r + 1)))
    passed =
        let s : p + r + 1 ≡ p + (r + 1) = omega arith in
        let d : n - r - 1 ≡ n - (r + 1) = omega arith in
        is_in_split (val v) (elem_at vs eb) p r n (omega arith)
        ∙ rw (none_before, is_in-step (val v) (elem_at vs eb) (p + r) (n - r) (omega arith), s, d)

    pub found_valid : valid_at eb (p + r) ≡ true → is_in (val v) (tab (elem_at vs eb) p n) ≡ true
    unfolding same_elem
    found_valid h = passed ∙ rw (elem_valid vs eb (p + r) h, b.found l)

    -- a null's stored number does not count
    pub found_null : valid_at eb (p + r) ≡ false → is_in (val v) (tab (elem_at vs eb) p n) ≡ is_in (val v) (tab (elem_at vs eb) (p + (r + 1)) (n - (r + 1)))
    unfolding same_elem
    found_null h = passed ∙ rw (elem_null vs eb (p + r) h)

-- ---- a null among elements

module _ (vs : List ℤ) (eb : Bits) (p n : ℕ) where
  pub plain_no_null : length eb.bytes ≡ 0 → is_in nul (tab (elem_at vs eb) p n) ≡ false
  unfolding same_elem
  plain_no_null z = each_none nul (elem_at vs eb) p n (λ i h. rw (elem_plain vs eb (p + i) z))

  pub null_first : 0 < n → valid_at eb p ≡ false → is_in nul (tab (elem_at vs eb) p n) ≡ true
  unfolding same_elem
  null_first h e = is_in-step nul (elem_at vs eb) p n h ∙ rw (elem_null vs eb p e)

  pub valid_first : 0 < n → valid_at eb p ≡ true → is_in nul (tab (elem_at vs eb) p n) ≡ is_in nul (tab (elem_at vs eb) (p + 1) (n - 1))
  unfolding same_elem
  valid_first h e = is_in-step nul (elem_at vs eb) p n h ∙ rw (elem_valid vs eb p e)
