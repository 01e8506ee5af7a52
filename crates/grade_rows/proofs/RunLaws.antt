-- The grade of a row by one pass over its elements: what is left of it decides, with the run that the element before ends.
use Prim.Native.Nat.{ℕ, zero, suc, ◌+◌, ◌-◌, ◌≤◌, ◌<◌}
use mathlib.Core.Path.{◌≡◌, refl, sym, ap, ◌∙◌}
use mathlib.Core.Bool.{Bool, true, false, ◌&&◌, ◌||◌}
use mathlib.Core.List.{List, [], ◌∷◌}
use native.Mathlib.Omega.{arith}
use borrow.Author.Tests.{lt-ltb, le-leb, lt-leb, leb-true}
use lib.Dec.{ltb, leb}
use lib.IntN.{ℤ, pos}
use lib.ListN.{get_or}
use Rattle.model.specs.Basics.{pick, tab, any}
use Rattle.model.specs.Bitmap.{Bits, valid_at}
use Rattle.model.specs.Column.{Elem, nul, val, list_row, elem_at}
use Rattle.model.specs.Elements.{eq_z, same_elem}
use Rattle.model.specs.Form.{is_val}
use Rattle.model.specs.Grade.{run_of, begins_run, some_run, grade_of}
use Rattle.model.proofs.BoolLaws.{never_true}
use Rattle.model.proofs.RowLaws.{same_eq}
use Rattle.model.proofs.TabLaws.{tab-step, tab-none}
use Rattle.grade_rows.specs.Grades.{run_after}

-- ---- runs: r is how long the run is that a number v ends, 0 for none, and es the elements after it

-- some run of at least k, that one going on included
unfoldable pub runs_on : ℕ → ℕ → ℤ → List Elem → Bool
runs_on k r v es = pick (ltb 0 r) (leb k (r + run_of v es) || some_run k es) (some_run k es)

or_within : (a b c : Bool) → (b ≡ true → a ≡ true) → a || (b || c) ≡ a || c
or_within true b c h = refl
or_within false true c h = never_true (sym (h refl))
or_within false false c h = refl

same_number : (a b : ℤ) → eq_z a b ≡ true → a ≡ b
unfolding same_elem
same_number a b h = let e = same_eq (val a) (val b) h in cc

module _ (k r : ℕ) (v : ℤ) (h : r < k) where
  -- "a null ends a run"
  runs_null : (es : List Elem) → runs_on k r v (nul ∷ es) ≡ some_run k es
  unfolding runs_on run_of some_run begins_run
  runs_null es = go (ltb 0 r)
    where
      go : (b : Bool) → pick b (leb k (r + 0) || (false || some_run k es)) (false || some_run k es) ≡ some_run k es
      go true = rw (lt-leb k (r + 0) (omega arith))
      go false = refl

  runs_none : runs_on k r v [] ≡ false
  unfolding runs_on run_of some_run
  runs_none = go (ltb 0 r)
    where
      go : (b : Bool) → pick b (leb k (r + 0) || false) false ≡ false
      go true = rw (lt-leb k (r + 0) (omega arith))
      go false = refl

runs_fresh : (k : ℕ) (v : ℤ) (es : List Elem) → runs_on k 0 v es ≡ some_run k es
unfolding runs_on
runs_fresh k v es = refl

runs_long : (k r : ℕ) (v : ℤ) (es : List Elem) → 0 < r → k ≤ r → runs_on k r v es ≡ true
unfolding runs_on
runs_long k r v es h l = rw (lt-ltb 0 r h, le-leb k (r + run_of v es) (omega arith))

runs_val : (k r : ℕ) (v w : ℤ) (es : List Elem) → r < k → runs_on k r v (val w ∷ es) ≡ runs_on k (run_after r v true w) w es
unfolding runs_on run_after run_of some_run begins_run
runs_val k zero v w es h = let e : 1 + run_of w es ≡ run_of w es + 1 = omega arith in rw e
runs_val k (suc q) v w es h = rw (lt-ltb 0 (suc q) (omega arith)) (go (eq_z v w) refl)
  where
    go : (b : Bool) → eq_z v w ≡ b
        → leb k (suc q + pick b (run_of v es + 1) 0) || (leb k (run_of w es + 1) || some_run k es)
        ≡ pick (ltb 0 (pick (true && b) (suc q + 1) 1)) (leb k (pick (true && b) (suc q + 1) 1 + run_of w es) || some_run k es) (some_run k es)
    go true e =
        let s : run_of v es ≡ run_of w es = ap (λ (z : ℤ). run_of z es) (same_number v w e) in
        let a : suc q + (run_of w es + 1) ≡ suc q + 1 + run_of w es = omega arith in
        rw (lt-ltb 0 (suc q + 1) (omega arith), s, a)
        (or_within (leb k (suc q + 1 + run_of w es)) (leb k (run_of w es + 1)) (some_run k es) (λ t. le-leb k _ (let l = leb-true k (run_of w es + 1) t in omega (arith, l))))
    go false e =
        let a : 1 + run_of w es ≡ run_of w es + 1 = omega arith in
        rw (lt-leb k (suc q + 0) (omega arith), a)

-- ---- the run that an element ends, test by test

module _ (r : ℕ) (v w : ℤ) {b : Bool} where
  pub after_null : b ≡ false → 0 ≡ run_after r v b w
  unfolding run_after
  after_null h = rw h

  pub after_none : b ≡ true → r ≡ 0 → 1 ≡ run_after r v b w
  unfolding run_after
  after_none h z = rw (h, z)

  pub after_same : b ≡ true → (r ≡ 0 → ⊥) → true ≡ eq_z v w → r + 1 ≡ run_after r v b w
  unfolding run_after
  after_same h n e = rw (h, lt-ltb 0 r (omega (arith, n)), ← e)

  pub after_other : b ≡ true → (r ≡ 0 → ⊥) → false ≡ eq_z v w → 1 ≡ run_after r v b w
  unfolding run_after
  after_other h n e = rw (h, lt-ltb 0 r (omega (arith, n)), ← e)

-- ---- the pass: p is the place of the next of the elements that are left, of n from a on; seen says whether one before it is valid

pub record Grading (k : ℕ) (vs : List ℤ) (eb : Bits) (a n : ℕ) (seen : Bool) (run p left : ℕ) : Type 0 where
  pub runs : runs_on k run (get_or vs (p - 1) (pos 0)) (tab (elem_at vs eb) p left) ≡ some_run k (tab (elem_at vs eb) a n)
  pub valid : seen || any is_val (tab (elem_at vs eb) p left) ≡ any is_val (tab (elem_at vs eb) a n)
  pub short : run < k
  pub within : run ≤ p
  pub places : p + left ≡ a + n

pub begun : (k : ℕ) (vs : List ℤ) (eb : Bits) (a n : ℕ) → 0 < k → Grading k vs eb a n false 0 a n
unfolding runs_on
begun k vs eb a n h = record { runs = refl; valid = refl; short = h; within = omega arith; places = refl }

run_bound : (r : ℕ) (v : ℤ) (b : Bool) (w : ℤ) → run_after r v b w ≤ r + 1
unfolding run_after
run_bound r v false w = omega arith
run_bound r v true w = go (ltb 0 r && eq_z v w)
  where
    go : (b : Bool) → pick b (r + 1) 1 ≤ r + 1
    go true = omega arith
    go false = omega arith

module _ {k : ℕ} {vs : List ℤ} {eb : Bits} {a n : ℕ} {seen : Bool} {run p left : ℕ} (g : Grading k vs eb a n seen run p left) (h : 0 < left) where
  -- what a turn makes of the rest
  turn : (b : Bool) → valid_at eb p ≡ b
      → (runs_on k (run_after run (get_or vs (p - 1) (pos 0)) b (get_or vs p (pos 0))) (get_or vs p (pos 0)) (tab (elem_at vs eb) (p + 1) (left - 1)) ≡ some_run k (tab (elem_at vs eb) a n))
      × (seen || (b || any is_val (tab (elem_at vs eb) (p + 1) (left - 1))) ≡ any is_val (tab (elem_at vs eb) a n))
  unfolding elem_at run_after any is_val
  turn true e =
      let s = tab-step (elem_at vs eb) p left h in
      let t : elem_at vs eb p ≡ val (get_or vs p (pos 0)) = rw e in
      (sym (runs_val k run (get_or vs (p - 1) (pos 0)) (get_or vs p (pos 0)) _ g.short) ∙ (rw (s, t) at g.runs), rw (s, t) at g.valid)
  turn false e =
      let s = tab-step (elem_at vs eb) p left h in
      let t : elem_at vs eb p ≡ nul = rw e in
      (runs_fresh k (get_or vs p (pos 0)) _ ∙ sym (runs_null k run (get_or vs (p - 1) (pos 0)) g.short _) ∙ (rw (s, t) at g.runs), rw (s, t) at g.valid)

or_assoc : (a b c : Bool) → (a || b) || c ≡ a || (b || c)
or_assoc true b c = refl
or_assoc false b c = refl

module _ {k : ℕ} {vs : List ℤ} {eb : Bits} {a n : ℕ} {seen : Bool} {run p left : ℕ} (g : Grading k vs eb a n seen run p left) (h : 0 < left) (b : Bool) (e : b ≡ valid_at eb p) (next : ℕ)
    (f : next ≡ run_after run (get_or vs (p - 1) (pos 0)) b (get_or vs p (pos 0))) where
  pub more : next < k → Grading k vs eb a n (seen || b) next (p + 1) (left - 1)
  more l =
      let t = turn g h b (sym e) in
      let q : p + 1 - 1 ≡ p = omega arith in
      record {
        runs = rw (q, f) t.0;
        valid = or_assoc seen b _ ∙ t.1;
        short = l;
        within = omega (arith, f, run_bound run (get_or vs (p - 1) (pos 0)) b (get_or vs p (pos 0)), g.within);
        places = omega (arith, g.places);
      }

  -- a run is long enough: the element that ends it is valid
  pub found : k ≤ next → 2 ≡ grade_of k (list_row (tab (elem_at vs eb) a n))
  unfolding grade_of run_after
  found l = go b refl
    where
      any_or : (s c : Bool) → s || (true || c) ≡ true
      any_or true c = refl
      any_or false c = refl

      go : (c : Bool) → b ≡ c → 2 ≡ grade_of k (list_row (tab (elem_at vs eb) a n))
      go true q =
          let t = turn g h true (sym e ∙ q) in
          let pos_next : next ≡ run_after run (get_or vs (p - 1) (pos 0)) true (get_or vs p (pos 0)) = f ∙ ap (λ (c : Bool). run_after run (get_or vs (p - 1) (pos 0)) c (get_or vs p (pos 0))) q in
          let r : some_run k (tab (elem_at vs eb) a n) ≡ true = sym t.0 ∙ runs_long k (run_after run (get_or vs (p - 1) (pos 0)) true (get_or vs p (pos 0))) (get_or vs p (pos 0)) (tab (elem_at vs eb) (p + 1) (left - 1)) (omega (arith, pos_next, g.short)) (omega (arith, pos_next)) in
          let v : any is_val (tab (elem_at vs eb) a n) ≡ true = sym t.1 ∙ any_or seen (any is_val (tab (elem_at vs eb) (p + 1) (left - 1))) in
          rw (r, v)
      go false q = let z : next ≡ 0 = f ∙ ap (λ (c : Bool). run_after run (get_or vs (p - 1) (pos 0)) c (get_or vs p (pos 0))) q in let y : ⊥ = omega (arith, g.short) in absurd y

module _ {k : ℕ} {vs : List ℤ} {eb : Bits} {a n : ℕ} {seen : Bool} {run p left : ℕ} (g : Grading k vs eb a n seen run p left) (h : left ≤ 0) where
  ended : (some_run k (tab (elem_at vs eb) a n) ≡ false) × (any is_val (tab (elem_at vs eb) a n) ≡ seen)
  unfolding any
  ended =
      let s = tab-none (elem_at vs eb) p left h in
      (sym (rw s at g.runs) ∙ runs_none k run _ g.short, sym (rw s at g.valid) ∙ or_none seen)
    where
      or_none : (b : Bool) → b || false ≡ b
      or_none true = refl
      or_none false = refl

  pub some_valid : seen ≡ true → 3 ≡ grade_of k (list_row (tab (elem_at vs eb) a n))
  unfolding grade_of
  some_valid e = rw (ended.0, ended.1 ∙ e)

  pub none_valid : seen ≡ false → 1 ≡ grade_of k (list_row (tab (elem_at vs eb) a n))
  unfolding grade_of
  none_valid e = rw (ended.1 ∙ e)
