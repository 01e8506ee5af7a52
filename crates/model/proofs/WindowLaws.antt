-- Laws of a window. `window_whole`: looking at all rows is the run itself. `window_copy` and `ends_as_copy`: "The answer and output are those of the
-- same recipe on a copy that holds just these rows of both lists and all arguments." `before_sixteen` and `sixteen_last`: 16 comes "after 3".
use Prim.Native.Nat.{ℕ, zero, suc, ◌+◌, ◌-◌, ◌*◌, ◌<◌, ◌≤◌}
use mathlib.Core.Path.{◌≡◌, refl, sym, ap, fun_ext, ◌∙◌}
use mathlib.Core.Bool.{Bool, true, false, not, ◌||◌}
use mathlib.Core.List.{List, [], ◌∷◌, ◌++◌}
use native.Mathlib.Omega.{arith}
use native.Mathlib.Nat.{mul-le-mul, add-mul, one-mul, zero-mul, zero-add}
use borrow.Author.Tests.{eq-eqb, eqb-true, ltb-true, ltb-false, le-ltb, lt-ltb}
use lib.Dec.{eqb, ltb}
use lib.ListN.{length, get_or, take, drop, length-append, length-drop, get_or-append, get_or-eq_default}
use lib.Seq.{get_or-take, get_or-drop, get_or-append-add, length-take-le, take_all, ext_get_or}
use Rattle.model.specs.Basics.{pick, tab, absent}
use Rattle.model.specs.Limits.{Limits}
use Rattle.model.specs.Column.{Elem, nul, Row, Column, Arguments, rows_of, shown_by}
use Rattle.model.specs.Form.{Room}
use Rattle.model.specs.Outcome.{Outcome, refused, gate, columns_refusal}
use Rattle.model.specs.Recipe.{Recipe, column_of, steps_of, malformed, stepped, recipe_unequal, formed_recipe, recipe_shown, recipe_outcome}
use Rattle.model.specs.Window.{cut, joined, cut_columns, no_window, formed_window, window_shown, window_outcome}
use Rattle.model.proofs.BoolLaws.{or_none, never}
use Rattle.model.proofs.OutcomeLaws.{gate_open, gate_shut}
use Rattle.model.specs.Call.{End, recipe, window, trays_end, recipe_end, window_end, end}
use Rattle.model.specs.Lengths.{formed_limits, recipe_limits}
use Rattle.model.specs.Tally.{Tally}
use Rattle.model.proofs.LentEnough.{refused_alike}
use Rattle.model.proofs.Stations.{station_named}
use Rattle.model.proofs.TabLaws.{length-tab, get_or-tab, tab_ext}

-- ---- a cut

module _ {A : Type 0} (a b n : ℕ) (xs : List A) (h : a ≤ b) (k : b ≤ n) (l : length xs ≡ n) where
  pub length_cut : length (cut a b xs) ≡ b - a
  length_cut = length-take-le (b - a) (drop a xs) (omega (arith, length-drop a xs))

  pub cut_at : (r : ℕ) (d : A) → r < b - a → get_or (cut a b xs) r d ≡ get_or xs (a + r) d
  cut_at r d q = get_or-take (b - a) (drop a xs) r d q ∙ get_or-drop a xs r d

pub cut_all : {A : Type 0} (n : ℕ) (xs : List A) → length xs ≡ n → cut 0 n xs ≡ xs
cut_all n xs l = take_all (n - 0) xs (omega arith)

-- ---- lists of w elements, one after another

module _ {A : Type 0} (g : ℕ → List A) (w : ℕ) (each : (k : ℕ) → length (g k) ≡ w) where
  pub length-joined : (j m : ℕ) → length (joined (tab g j m)) ≡ m * w
  unfolding joined tab
  length-joined j zero = sym (zero-mul w)
  length-joined j (suc m) = length-append (g j) (joined (tab g (suc j) m)) ∙ omega (arith, each j, length-joined (suc j) m, add-mul m 1 w, one-mul w)

  pub joined_at : (j m k r : ℕ) (d : A) → k < m → r < w → get_or (joined (tab g j m)) (k * w + r) d ≡ get_or (g (j + k)) r d
  unfolding joined tab
  joined_at j zero k r d h q = let z : ⊥ = omega arith in absurd z
  joined_at j (suc m) zero r d h q =
      let e : 0 * w + r ≡ r = omega (arith, zero-mul w) in
      let f : j + 0 ≡ j = omega arith in
      rw (e, f) (get_or-append (g j) (joined (tab g (suc j) m)) d r (omega (arith, each j)))
  joined_at j (suc m) (suc k) r d h q =
      let e : suc k * w + r ≡ length (g j) + (k * w + r) = omega (arith, each j, add-mul k 1 w, one-mul w) in
      let f : j + suc k ≡ suc j + k = omega arith in
      rw (e, f) (get_or-append-add (g j) (joined (tab g (suc j) m)) (k * w + r) d ∙ joined_at (suc j) m k r d (omega arith) q)

-- ---- the columns cut

module _ (columns n a b : ℕ) (es : List Elem) (h : a ≤ b) (k : b ≤ n) where
  each : (j : ℕ) → length (cut a b (column_of es n j)) ≡ b - a
  each j = length_cut a b n (column_of es n j) h k (length-tab _ 0 n)

  pub length-columns : length (cut_columns columns n a b es) ≡ columns * (b - a)
  unfolding cut_columns
  length-columns = length-joined (λ j. cut a b (column_of es n j)) (b - a) each 0 columns

  inside : (j r : ℕ) → j < columns → r < b - a → get_or (cut_columns columns n a b es) (j * (b - a) + r) nul ≡ get_or es (j * n + (a + r)) nul
  unfolding cut_columns
  inside j r p q =
      joined_at (λ i. cut a b (column_of es n i)) (b - a) each 0 columns j r nul p q
      ∙ rw (zero-add j) (cut_at a b n (column_of es n j) h k (length-tab _ 0 n) r nul q
      ∙ get_or-tab (λ i. get_or es (j * n + i) nul) 0 n (a + r) nul (omega arith)
      ∙ rw (zero-add (a + r)) refl)

  module _ (l : length es ≡ columns * n) where
    past : (j r : ℕ) → columns ≤ j → get_or (cut_columns columns n a b es) (j * (b - a) + r) nul ≡ get_or es (j * n + (a + r)) nul
    past j r p =
        let x : columns * (b - a) ≤ j * (b - a) = mul-le-mul p (omega arith) in
        let y : columns * n ≤ j * n = mul-le-mul p (omega arith) in
        get_or-eq_default (cut_columns columns n a b es) nul (omega (arith, length-columns))
        ∙ sym (get_or-eq_default es nul (omega arith))

    pub columns-at : (j r : ℕ) → r < b - a → get_or (cut_columns columns n a b es) (j * (b - a) + r) nul ≡ get_or es (a + (j * n + r)) nul
    columns-at j r q =
        let e : j * n + (a + r) ≡ a + (j * n + r) = omega arith in
        rw (← e) (go (ltb j columns) refl)
      where
        go : (t : Bool) → ltb j columns ≡ t → get_or (cut_columns columns n a b es) (j * (b - a) + r) nul ≡ get_or es (j * n + (a + r)) nul
        go true g = inside j r (ltb-true j columns g) q
        go false g = past j r (ltb-false j columns g)

    -- the columns of the copy lie n apart in what was lent, from row a on
    pub columns-cut : column_of (cut_columns columns n a b es) (b - a) ≡ (λ j. tab (λ r. get_or (drop a es) (j * n + r) nul) 0 (b - a))
    columns-cut = fun_ext (λ j. tab_ext _ _ 0 0 (b - a) (λ r q. rw (zero-add r) (columns-at j r q ∙ sym (get_or-drop a es (j * n + r) nul))))

-- ---- the outcome

unequal-none : (columns : ℕ) (ws rs : List Row) (es : List Elem) → recipe_unequal columns ws rs es ≡ false → (length ws ≡ length rs) × (length es ≡ columns * length ws)
unfolding recipe_unequal
unequal-none columns ws rs es h =
    let p = or_none (not (eqb (length ws) (length rs))) (not (eqb (length es) (columns * length ws))) h in
    (eqb-true _ _ (back _ p.0), eqb-true _ _ (back _ p.1))
  where
    back : (t : Bool) → not t ≡ false → t ≡ true
    back true q = refl
    back false q = sym q

equal-none : (columns : ℕ) (ws rs : List Row) (es : List Elem) → length ws ≡ length rs → length es ≡ columns * length ws → recipe_unequal columns ws rs es ≡ false
unfolding recipe_unequal
equal-none columns ws rs es h k = rw (eq-eqb _ _ h, eq-eqb _ _ k)

pub within_window : (a b n : ℕ) → no_window a b n ≡ false → (a ≤ b) × (b ≤ n)
unfolding no_window
within_window a b n h = let p = or_none (ltb b a) (ltb n b) h in (ltb-false b a p.0, ltb-false n b p.1)

gate_same : {A : Type 0} (k : ℕ) (x y : Outcome A) → (k ≡ 0 → x ≡ y) → gate k x ≡ gate k y
unfolding gate
gate_same k x y h = go (eqb k 0) refl
  where
    go : (t : Bool) → eqb k 0 ≡ t → pick t x (refused k) ≡ pick t y (refused k)
    go true e = h (eqb-true k 0 e)
    go false e = refl

or_zero_lem : (t : Bool) (k : ℕ) → (k ≡ 0 → ⊥) → pick t k 0 ≡ 0 → t ≡ false
or_zero_lem true k z h = absurd (z h)
or_zero_lem false k z h = refl

module _ (L : Limits) (p : Recipe) (a b : ℕ) (ws rs : List Row) (es : List Elem) (l m o : Room) where
  -- on the copy nothing but the steps refuses: they are taken on the rows cut, and its columns lie as far apart as there are rows
  pub copy_steps : malformed p ≡ false → recipe_unequal p.columns ws rs es ≡ false → no_window a b (length ws) ≡ false
      → recipe_shown L p (cut a b ws) (cut a b rs) (cut_columns p.columns (length ws) a b es) l m o
      ≡ stepped L (steps_of p.numbers) (cut a b ws) (cut a b rs) (λ j. tab (λ r. get_or (drop a es) (j * length ws + r) nul) 0 (b - a)) l m o
  unfolding recipe_shown formed_recipe
  copy_steps f u t =
      let w = within_window a b (length ws) t in
      let q = unequal-none p.columns ws rs es u in
      let lw = length_cut a b (length ws) ws w.0 w.1 refl in
      let lr = length_cut a b (length ws) rs w.0 w.1 (sym q.0) in
      let le = length-columns p.columns (length ws) a b es w.0 w.1 in
      let e = equal-none p.columns (cut a b ws) (cut a b rs) (cut_columns p.columns (length ws) a b es) (lw ∙ sym lr) (le ∙ sym (ap (λ (i : ℕ). p.columns * i) lw)) in
      rw (f, e) (gate_open 0 _ refl ∙ gate_open 0 _ refl ∙ rw (lr, columns-cut p.columns (length ws) a b es w.0 w.1 q.1))

-- looking at all rows is the run itself
module _ (L : Limits) (p : Recipe) (ws rs : List Row) (es : List Elem) (l m o : Room) where
  whole_copy : malformed p ≡ false → recipe_unequal p.columns ws rs es ≡ false
      → gate (pick (no_window 0 (length ws) (length ws)) 16 0) (recipe_shown L p (cut 0 (length ws) ws) (cut 0 (length ws) rs) (cut_columns p.columns (length ws) 0 (length ws) es) l m o)
      ≡ stepped L (steps_of p.numbers) ws rs (column_of es (length rs)) l m o
  unfolding no_window
  whole_copy f u =
      let q = unequal-none p.columns ws rs es u in
      let n : length ws - 0 ≡ length ws = omega arith in
      rw (all (length ws))
      (gate_open 0 _ refl ∙ copy_steps L p 0 (length ws) ws rs es l m o f u (all (length ws)) ∙ rw (cut_all (length ws) ws refl, cut_all (length ws) rs (sym q.0), n, ← q.0))
    where
      all : (n : ℕ) → no_window 0 n n ≡ false
      all n = rw (le-ltb n 0 (omega arith), le-ltb n n (omega arith))

  formed_whole : malformed p ≡ false → formed_window L p 0 (length ws) ws rs es l m o ≡ formed_recipe L p ws rs es l m o
  unfolding formed_window formed_recipe
  formed_whole f = gate_same _ _ _ (λ h. whole_copy f (or_zero_lem (recipe_unequal p.columns ws rs es) 3 (λ z. omega arith) h))

pub window_whole : (L : Limits) (p : Recipe) (c d : Column) (e : Arguments) (l m o : Room) → window_outcome L p 0 (length (rows_of c)) c d e l m o ≡ recipe_outcome L p c d e l m o
unfolding window_outcome recipe_outcome
window_whole L p c d e l m o =
    gate_same _ _ _ (λ f. gate_same _ _ _ (λ g. formed_whole L p (rows_of c) (rows_of d) (shown_by e) l m o (or_zero_lem (malformed p) 10 (λ z. omega arith) f)))

-- ---- a copy, and 16

module _ (L : Limits) (p : Recipe) (a b : ℕ) (c d : Column) (e : Arguments) (l m o : Room) where
  -- 10, 13, 1, 2 and 3 come as the recipe's limits, and its run, give them, whichever rows are asked for
  pub before_sixteen : (k : ℕ) → recipe_limits L p c d e ≡ refused k → window_outcome L p a b c d e l m o ≡ refused k
  unfolding recipe_limits formed_limits window_outcome formed_window
  before_sixteen k h =
      refused_alike (pick (malformed p) 10 0) k _ _
      (refused_alike (columns_refusal (c ∷ d ∷ []) (e ∷ [])) k _ _ (refused_alike (pick (recipe_unequal p.columns (rows_of c) (rows_of d) (shown_by e)) 3 0) k _ _ (λ q. never cc))) h

  module _ (f : malformed p ≡ false) (g : columns_refusal (c ∷ d ∷ []) (e ∷ []) ≡ 0) (u : recipe_unequal p.columns (rows_of c) (rows_of d) (shown_by e) ≡ false) where
    -- and 16 where none of those comes
    pub sixteen_last : no_window a b (length (rows_of c)) ≡ true → window_outcome L p a b c d e l m o ≡ refused 16
    unfolding window_outcome formed_window gate
    sixteen_last w = rw (f, g, u, w)

    -- c', d' and e' are well-formed and show what the copy holds
    module _ (w : no_window a b (length (rows_of c)) ≡ false) (c' d' : Column) (e' : Arguments) (g' : columns_refusal (c' ∷ d' ∷ []) (e' ∷ []) ≡ 0)
        (rc : rows_of c' ≡ cut a b (rows_of c)) (rd : rows_of d' ≡ cut a b (rows_of d)) (re : shown_by e' ≡ cut_columns p.columns (length (rows_of c)) a b (shown_by e)) where
      pub window_copy : window_outcome L p a b c d e l m o ≡ recipe_outcome L p c' d' e' l m o
      unfolding window_outcome formed_window recipe_outcome recipe_shown gate
      window_copy = rw (f, g, u, w, g', rc, rd, re)

      -- of the calls: all but the tally, which the window takes none of
      pub ends_as_copy : (s : ℕ) (t : Tally) → s ≤ 15
          → let run : End = end L (recipe s p c' d' e' l m o t) in end L (window p a b c d e l m o) ≡ record {
            answer = run.answer;
            numbers = run.numbers;
            bitmaps = run.bitmaps;
            tray_numbers = run.tray_numbers;
            tray_bitmaps = run.tray_bitmaps;
            tally = absent;
            grades = run.grades;
            area = run.area;
          }
      unfolding end window_end recipe_end trays_end
      ends_as_copy s t h = rw (station_named s (recipe_outcome L p c' d' e' l m o) h, window_copy)
