-- Laws of the table: a chain's walk, an element entered, an element passed.
use mathlib.Core.Path.{◌≡◌, refl, sym, ap, subst, ◌∙◌}
use mathlib.Core.Bool.{Bool, true, false, not, ◌||◌, or_comm, or-false}
use mathlib.Core.List.{List}
use Prim.Native.Nat.{ℕ, zero, suc, ◌+◌, ◌≤◌, ◌<◌}
use native.Mathlib.Numerals.{add-one}
use native.Mathlib.Omega.{arith}
use lib.ListN.{length, get_or, set, length-set}
use lib.Seq.{get_or-set_same, get_or-set_other}
use Rattle.model.specs.Basics.{tab}
use Rattle.model.specs.Column.{Elem}
use Rattle.model.specs.Elements.{same_elem, is_in}
use Rattle.model.proofs.TabLaws.{tab-last}
use Rattle.set_elements.proofs.PairLaws.{same_eq, is_in-append}
use Rattle.hash_slots.specs.Slots.{head_of, CleanFrom, entered}
use Rattle.hash_slots.proofs.SlotLaws.{decide, head_of_lt}
use Rattle.hash_tables.specs.Table.{chained, Down, Table, Within}

-- ---- a chain

module _ (E : ℕ → Elem) (a n o : ℕ) (t : List ℕ) (e : Elem) where
  chained-end : (f : ℕ) → chained E a n o t e f 0 ≡ false
  unfolding chained
  chained-end zero = refl
  chained-end (suc f) = refl

  -- more steps than the chain's beginning are not taken
  chained_fuel : Down n o t → (f g s : ℕ) → s ≤ n → s ≤ f → s ≤ g → chained E a n o t e f s ≡ chained E a n o t e g s
  unfolding chained
  chained_fuel d zero g zero r p q = sym (chained-end g)
  chained_fuel d zero g (suc i) r p q = let z : ⊥ = omega arith in absurd z
  chained_fuel d (suc f) g zero r p q = sym (chained-end g)
  chained_fuel d (suc f) zero (suc i) r p q = let z : ⊥ = omega arith in absurd z
  chained_fuel d (suc f) (suc g) (suc i) r p q =
      let l = d i r in
      ap (λ (b : Bool). same_elem e (E (a + i)) || b) (chained_fuel d f g (get_or t (o + n + i) 0) (omega arith) (omega arith) (omega arith))

  chained-suc : Down n o t → (i : ℕ) → i < n → chained E a n o t e (suc i) (suc i) ≡ same_elem e (E (a + i)) || chained E a n o t e (get_or t (o + n + i) 0) (get_or t (o + n + i) 0)
  unfolding chained
  chained-suc d i r =
      let l = d i r in
      ap (λ (b : Bool). same_elem e (E (a + i)) || b) (chained_fuel d i (get_or t (o + n + i) 0) (get_or t (o + n + i) 0) (omega arith) (omega arith) (omega arith))

  pub chained-step : Down n o t → (j : ℕ) {s : ℕ} → s ≡ j + 1 → s ≤ n → chained E a n o t e s s ≡ same_elem e (E (a + j)) || chained E a n o t e (get_or t (o + n + j) 0) (get_or t (o + n + j) 0)
  chained-step d j q r = rw (q, add-one j) (chained-suc d j (omega arith))

  pub chained-none : (s : ℕ) → s ≤ 0 → chained E a n o t e s s ≡ false
  chained-none zero p = chained-end 0
  chained-none (suc i) p = let z : ⊥ = omega arith in absurd z

  -- slots that the chain does not reach do not matter
  chained_same : Down n o t → (u : List ℕ) (k : ℕ) → k ≤ n → ((i : ℕ) → i < k → get_or u (o + n + i) 0 ≡ get_or t (o + n + i) 0) → (f s : ℕ) → s ≤ k → chained E a n o u e f s ≡ chained E a n o t e f s
  unfolding chained
  chained_same d u k r h zero s p = refl
  chained_same d u k r h (suc f) zero p = refl
  chained_same d u k r h (suc f) (suc i) p =
      let l = d i (omega arith) in
      rw (h i p) (ap (λ (b : Bool). same_elem e (E (a + i)) || b) (chained_same d u k r h f (get_or t (o + n + i) 0) (omega arith)))

-- ---- tests

differ : (e f : Elem) → (e ≡ f → ⊥) → same_elem e f ≡ false
differ e f h = by (same_elem e f) refl
  where
    by : (x : Bool) → same_elem e f ≡ x → same_elem e f ≡ false
    by true q = absurd (h (same_eq e f q))
    by false q = q

pub turned_back : {r x : Bool} → r ≡ not x → not r ≡ x
turned_back {r} {x} e = rw e (by x)
  where
    by : (y : Bool) → not (not y) ≡ y
    by true = refl
    by false = refl

-- ---- what stays outside

pub within_none : {lo hi : ℕ} (t : List ℕ) → Within lo hi t t
within_none t = record { below = λ i p. refl; above = λ i p. refl }

pub within_more : {lo hi : ℕ} {t u v : List ℕ} → Within lo hi t u → Within lo hi u v → Within lo hi t v
within_more p q = record { below = λ i h. q.below i h ∙ p.below i h; above = λ i h. q.above i h ∙ p.above i h }

is_in-next : (E : ℕ → Elem) (a k : ℕ) (e : Elem) → is_in e (tab E a (k + 1)) ≡ is_in e (tab E a k) || same_elem e (E (a + k))
unfolding is_in
is_in-next E a k e = rw (add-one k, tab-last E a k, is_in-append, or-false)

-- a table is a table where its slots are the same
pub table_kept : {E : ℕ → Elem} {a n k o : ℕ} {t : List ℕ} → Table E a n k o t → k ≤ n → (u : List ℕ) → o + n + n ≤ length u → ((i : ℕ) → o ≤ i → i < o + n + n → get_or u i 0 ≡ get_or t i 0) → Table E a n k o u
table_kept {E} {a} {n} {k} {o} {t} T l u r h = record {
  room = r;
  down = λ i p. rw (h (o + n + i) (omega arith) (omega arith)) (T.down i p);
  heads = λ b p. rw (h (o + b) (omega arith) (omega arith)) (T.heads b p);
  finds = λ e z.
      let p : head_of n e < n = head_of_lt n e z in
      rw (h (o + head_of n e) (omega arith) (omega arith))
      (chained_same E a n o t e T.down u n (omega arith) (λ i q. h (o + n + i) (omega arith) (omega arith)) (get_or t (o + head_of n e) 0) (get_or t (o + head_of n e) 0) (omega (arith, T.heads (head_of n e) p))
      ∙ T.finds e z);
}

-- ---- an element entered

module _ (E : ℕ → Elem) (a n k o : ℕ) (t : List ℕ) (T : Table E a n k o t) (l : k < n) where
  -- an element that is among the earlier ones
  table_old : is_in (E (a + k)) (tab E a k) ≡ true → Table E a n (k + 1) o t
  table_old m = record {
    room = T.room;
    down = T.down;
    heads = λ b p. omega (arith, T.heads b p);
    finds = λ e z. T.finds e z ∙ by e (same_elem e (E (a + k))) refl ∙ sym (is_in-next E a k e);
  }
    where
      by : (e : Elem) (x : Bool) → same_elem e (E (a + k)) ≡ x → is_in e (tab E a k) ≡ is_in e (tab E a k) || same_elem e (E (a + k))
      by e true q = rw (same_eq e (E (a + k)) q, m)
      by e false q = rw (q, or-false)

  abbrev pub u : List ℕ
  u = entered n o k (head_of n (E (a + k))) t

  h_lt : head_of n (E (a + k)) < n
  h_lt = head_of_lt n (E (a + k)) (omega arith)

  other : (i : ℕ) → (i ≡ o + head_of n (E (a + k)) → ⊥) → (i ≡ o + n + k → ⊥) → get_or u i 0 ≡ get_or t i 0
  other i f g =
      get_or-set_other (set t (o + n + k) (get_or t (o + head_of n (E (a + k))) 0)) (o + head_of n (E (a + k))) i (k + 1) 0 f
      ∙ get_or-set_other t (o + n + k) i (get_or t (o + head_of n (E (a + k))) 0) 0 g

  link_other : (i : ℕ) → (i ≡ k → ⊥) → get_or u (o + n + i) 0 ≡ get_or t (o + n + i) 0
  link_other i f = other (o + n + i) (λ (z : o + n + i ≡ o + head_of n (E (a + k))). omega (arith, h_lt)) (λ (z : o + n + i ≡ o + n + k). f (omega arith))

  link_same : get_or u (o + n + k) 0 ≡ get_or t (o + head_of n (E (a + k))) 0
  link_same =
      get_or-set_other (set t (o + n + k) (get_or t (o + head_of n (E (a + k))) 0)) (o + head_of n (E (a + k))) (o + n + k) (k + 1) 0 (λ (z : o + n + k ≡ o + head_of n (E (a + k))). omega (arith, h_lt))
      ∙ get_or-set_same t (o + n + k) (get_or t (o + head_of n (E (a + k))) 0) 0 (omega (arith, T.room))

  head_same : get_or u (o + head_of n (E (a + k))) 0 ≡ k + 1
  head_same =
      get_or-set_same (set t (o + n + k) (get_or t (o + head_of n (E (a + k))) 0)) (o + head_of n (E (a + k))) (k + 1) 0 (omega (arith, length-set t (o + n + k) (get_or t (o + head_of n (E (a + k))) 0), T.room, h_lt))

  head_other : (b : ℕ) → b < n → (b ≡ head_of n (E (a + k)) → ⊥) → get_or u (o + b) 0 ≡ get_or t (o + b) 0
  head_other b p f = other (o + b) (λ (z : o + b ≡ o + head_of n (E (a + k))). f (omega arith)) (λ (z : o + b ≡ o + n + k). omega arith)

  new_down : Down n o u
  new_down i p = decide i k (λ q. rw (q, link_same) (T.heads (head_of n (E (a + k))) h_lt)) (λ f. rw (link_other i f) (T.down i p))

  kept_chain : (e : Elem) (s : ℕ) → s ≤ k → chained E a n o u e s s ≡ chained E a n o t e s s
  kept_chain e s p = chained_same E a n o t e T.down u k (omega arith) (λ i r. link_other i (λ (z : i ≡ k). omega arith)) s s p

  found_here : (e : Elem) → head_of n e ≡ head_of n (E (a + k)) → chained E a n o u e (get_or u (o + head_of n e) 0) (get_or u (o + head_of n e) 0) ≡ is_in e (tab E a k) || same_elem e (E (a + k))
  found_here e q =
      ap (λ (b : ℕ). chained E a n o u e (get_or u (o + b) 0) (get_or u (o + b) 0)) q
      ∙ ap (λ (s : ℕ). chained E a n o u e s s) (head_same ∙ add-one k)
      ∙ chained-suc E a n o u e new_down k l
      ∙ rw (link_same, kept_chain e (get_or t (o + head_of n (E (a + k))) 0) (T.heads (head_of n (E (a + k))) h_lt), ← q, T.finds e (omega arith)) (or_comm (same_elem e (E (a + k))) (is_in e (tab E a k)))

  found-there : (e : Elem) → (head_of n e ≡ head_of n (E (a + k)) → ⊥) → chained E a n o u e (get_or u (o + head_of n e) 0) (get_or u (o + head_of n e) 0) ≡ is_in e (tab E a k) || same_elem e (E (a + k))
  found-there e f =
      let p : head_of n e < n = head_of_lt n e (omega arith) in
      ap (λ (s : ℕ). chained E a n o u e s s) (head_other (head_of n e) p f)
      ∙ kept_chain e (get_or t (o + head_of n e) 0) (T.heads (head_of n e) p)
      ∙ T.finds e (omega arith)
      ∙ rw (differ e (E (a + k)) (λ z. f (ap (head_of n) z)), or-false)

  table_new : Table E a n (k + 1) o u
  table_new = record {
    room = rw (length-set, length-set) T.room;
    down = new_down;
    heads = λ b p. decide b (head_of n (E (a + k))) (λ q. rw (q, head_same) (omega arith)) (λ f. rw (head_other b p f) (omega (arith, T.heads b p)));
    finds = λ e z. decide (head_of n e) (head_of n (E (a + k))) (found_here e) (found-there e) ∙ sym (is_in-next E a k e);
  }

  within_new : Within o (o + n + n) t u
  within_new = record {
    below = λ i p. other i (λ (z : i ≡ o + head_of n (E (a + k))). omega arith) (λ (z : i ≡ o + n + k). omega arith);
    above = λ i p. other i (λ (z : i ≡ o + head_of n (E (a + k))). omega (arith, h_lt)) (λ (z : i ≡ o + n + k). omega arith);
  }

  -- one element, in the code's terms: b its head, s what stands there, r whether it is in that chain
  module _ {b : ℕ} (p : b ≡ head_of n (E (a + k))) where
    pub head_lt : b < n
    head_lt = rw p h_lt

    module _ {s : ℕ} (q : s ≡ get_or t (o + b) 0) where
      pub head_le : s ≤ n
      head_le = rw q (omega (arith, T.heads b head_lt))

      module _ {r : Bool} (f : r ≡ chained E a n o t (E (a + k)) s s) where
        answer : r ≡ is_in (E (a + k)) (tab E a k)
        answer = f ∙ rw (q, p) (T.finds (E (a + k)) (omega arith))

        pub enter_old : r ≡ true → (false ≡ not (is_in (E (a + k)) (tab E a k))) × (Table E a n (k + 1) o t × Within o (o + n + n) t t)
        enter_old e =
            let m : is_in (E (a + k)) (tab E a k) ≡ true = sym answer ∙ e in
            (rw m, (table_old m, within_none t))

        pub enter_new : r ≡ false → {w : List ℕ} → w ≡ entered n o k b t → (true ≡ not (is_in (E (a + k)) (tab E a k))) × (Table E a n (k + 1) o w × Within o (o + n + n) t w)
        enter_new e {w} g =
            let m : is_in (E (a + k)) (tab E a k) ≡ false = sym answer ∙ e in
            (rw m, (rw (g, p) table_new, rw (g, p) within_new))

-- a search in a whole table
module _ (E : ℕ → Elem) (a n k o : ℕ) (t : List ℕ) (T : Table E a n k o t) (l : k ≤ n) (z : 0 < n) (e : Elem) {b : ℕ} (p : b ≡ head_of n e) where
  pub listed_lt : b < n
  listed_lt = rw p (head_of_lt n e z)

  pub listed_le : {s : ℕ} → s ≡ get_or t (o + b) 0 → s ≤ n
  listed_le q = rw q (omega (arith, T.heads b listed_lt))

-- ---- slots that are 0 are the table of no elements

pub table_none : (E : ℕ → Elem) (a n o : ℕ) (t : List ℕ) → o + n + n ≤ length t → CleanFrom o t → Table E a n 0 o t
unfolding is_in tab
table_none E a n o t r c = record {
  room = r;
  down = λ i p. omega (arith, c (o + n + i) (omega arith));
  heads = λ b p. omega (arith, c (o + b) (omega arith));
  finds = λ e z. chained-none E a n o t e (get_or t (o + head_of n e) 0) (omega (arith, c (o + head_of n e) (omega arith)));
}

-- two tables, one after the other: the first one stays
pub table_before : {E : ℕ → Elem} {a n hi : ℕ} {t u : List ℕ} → Table E a n n 0 t → Within (n + n) hi t u → length u ≡ length t → Table E a n n 0 u
table_before T w l = table_kept T (omega arith) _ (omega (arith, T.room, l)) (λ i p q. w.below i (omega arith))

pub clean_after : {o lo hi : ℕ} {t u : List ℕ} → CleanFrom o t → Within lo hi t u → o ≤ hi → CleanFrom hi u
clean_after c w l i p = w.above i p ∙ c i (omega arith)

-- the table of k elements, k being n
pub table_all : {E : ℕ → Elem} {a n k o : ℕ} {t : List ℕ} → Table E a n k o t → k ≡ n → Table E a n n o t
table_all {E} {a} {n} {k} {o} {t} T e = subst (λ (j : ℕ). Table E a n j o t) e T
