-- Laws of a recipe's limits over numbers: the counts added up, one step, all steps; that they are the definitions' limits (`steps_are`); and
-- what the call comes to.
use Prim.Native.Nat.{ℕ, zero, suc, ◌+◌, ◌-◌, ◌*◌, ◌/◌, ◌%◌, ◌≤◌, ◌<◌, max, min}
use mathlib.Core.Path.{◌≡◌, refl, sym, ap, ◌∙◌}
use mathlib.Core.Bool.{Bool, true, false, not, ◌||◌}
use mathlib.Core.List.{List, [], ◌∷◌, map}
use native.Mathlib.Omega.{arith}
use native.Mathlib.Nat.{mul-le-mul, add-mul, one-mul, zero-add}
use borrow.Author.Tests.{eq-eqb, ne_eqb, eqb-true, leb-false}
use lib.Dec.{eqb, ltb}
use lib.ListN.{length}
use Rattle.model.specs.Basics.{pick, tab, any}
use Rattle.model.specs.Bitmap.{Bits, valid_at}
use Rattle.model.specs.Column.{Column, Arguments, elem_at, row_count, rows_of, shown_by}
use Rattle.model.specs.Form.{flat}
use Rattle.model.specs.Lengths.{length_if, shown_in, counts_over, capped, step_limit, TrayLimits, tray_limits, steps_limits, limits_of, formed_limits, recipe_limits}
use Rattle.model.specs.Limits.{Limits}
use Rattle.model.specs.Outcome.{Outcome, refused, made, gate, columns_refusal}
use Rattle.model.specs.Recipe.{Step, step_at, steps_of, columns_of, column_of, wrong_number, wrong_step, malformed, recipe_unequal}
use Rattle.model.specs.Refusals.{or_else, times_of, total}
use Rattle.model.proofs.BoolLaws.{or_none}
use Rattle.model.proofs.ColumnLaws.{length-rows}
use Rattle.model.proofs.LimitLaws.{shown-elements, counts_by_row, limit_by_code}
use Rattle.model.proofs.EarlyLaws.{gates}
use Rattle.model.proofs.OutcomeLaws.{gate_open, gate_shut}
use Rattle.model.proofs.TabLaws.{length-map, tab-step, tab-none}
use Rattle.recipe_refusal.specs.Refused.{recipe, recipe_refusal}
use Rattle.recipe_refusal.proofs.RefusalLaws.{passed}
use Rattle.repeat_sums.specs.Counts.{times_at}
use Rattle.recipe_limits.specs.Limited.{count_at, counts_from, limit_at, limits_from, Counted, StepsThere}

-- ---- the cap

pub sum-cut : (most a b : ℕ) → most - a < b → a ≤ most → most ≡ min most (a + b)
sum-cut most a b h g = omega arith

pub sum_fits : (most a b : ℕ) → b ≤ most - a → a ≤ most → a + b ≡ min most (a + b)
sum_fits most a b h g = omega arith

-- a sum may be cut after each addition
cut-plus : (most a b : ℕ) → min most (min most a + b) ≡ min most (a + b)
cut-plus most a b = omega arith

fits : (most m : ℕ) → m ≤ most → min most m ≡ m
fits most m h = omega arith

-- ---- one row's count

pub null_count : (b : Bits) (e : Arguments) (a r : ℕ) → valid_at b r ≡ false → 0 ≡ count_at b e a r
unfolding count_at
null_count b e a r h = rw h

pub valid_count : (b : Bits) (e : Arguments) (a r m : ℕ) → valid_at b r ≡ true → m ≡ times_at e (a + r) → m ≡ count_at b e a r
unfolding count_at times_at
valid_count b e a r m h q = rw (h, q)

-- ---- the counts added up: the sum so far, those of the rows from r on being left

pub record Counting (most : ℕ) (T : ℕ → ℕ) (n sum r left : ℕ) : Type 0 where
  pub counts : min most (sum + total (tab T r left)) ≡ min most (total (tab T 0 n))
  pub rows : r + left ≡ n
  pub small : sum ≤ most

total-step : (f : ℕ → ℕ) (r left : ℕ) → 0 < left → total (tab f r left) ≡ f r + total (tab f (r + 1) (left - 1))
unfolding total
total-step f r left h = rw (tab-step f r left h)

total-none : (f : ℕ → ℕ) (r left : ℕ) → left ≤ 0 → total (tab f r left) ≡ 0
unfolding total
total-none f r left h = rw (tab-none f r left h)

module _ (most : ℕ) (T : ℕ → ℕ) (n : ℕ) where
  pub counts_begun : Counting most T n 0 0 n
  counts_begun = record { counts = ap (min most) (zero-add (total (tab T 0 n))); rows = omega arith; small = omega arith }

  module _ {sum r left : ℕ} (s : Counting most T n sum r left) where
    pub counts-more : (t m : ℕ) → 0 < left → t ≡ T r → m ≡ min most (sum + t) → Counting most T n m (r + 1) (left - 1)
    counts-more t m h e q =
        let w = total (tab T (r + 1) (left - 1)) in
        let all : sum + t + w ≡ sum + total (tab T r left) = omega (arith, total-step T r left h) in
        record {
          counts = rw q (cut-plus most (sum + t) w ∙ (ap (min most) all ∙ s.counts));
          rows = omega (arith, s.rows);
          small = omega (arith, q);
        }

    pub counts_done : left ≤ 0 → sum ≡ min most (total (tab T 0 n))
    counts_done h =
        let all : sum + total (tab T r left) ≡ sum = omega (arith, total-none T r left h) in
        sym (fits most sum s.small) ∙ (ap (min most) (sym all) ∙ s.counts)

-- ---- one step

module _ (most : ℕ) (b : Bits) (n : ℕ) (e : Arguments) (second code first came : ℕ) where
  pub limit_resized : code ≡ 6 → min most (counts_from b e (first * n) n) ≡ limit_at most b n e second code first came
  unfolding limit_at
  limit_resized h = rw (eq-eqb code 6 h)

  pub limit_united : (code ≡ 6 → ⊥) → code ≡ 9 → min most (came + second) ≡ limit_at most b n e second code first came
  unfolding limit_at
  limit_united z h = rw (ne_eqb code 6 z, eq-eqb code 9 h)

  pub limit_other : (code ≡ 6 → ⊥) → (code ≡ 9 → ⊥) → came ≤ most → came ≡ limit_at most b n e second code first came
  unfolding limit_at
  limit_other z h l = rw (ne_eqb code 6 z, ne_eqb code 9 h) (sym (fits most came l))

  pub limit_le : limit_at most b n e second code first came ≤ most
  unfolding limit_at
  limit_le = omega arith

-- ---- all steps

module _ (most : ℕ) (b : Bits) (n : ℕ) (e : Arguments) (second : ℕ) (s : Step) (came m : ℕ) (q : m ≡ limit_at most b n e second s.code s.first came) where
  pub limits-last : (ss : List Step) → ss ≡ [] → tray_limits 0 0 m ≡ limits_from most b n e second s ss came
  unfolding limits_from
  limits-last ss z = rw (z, q)

  pub limits-next : (ss : List Step) (t : Step) (ts : List Step) (x : TrayLimits) (g : ℕ) → ss ≡ t ∷ ts → x ≡ limits_from most b n e second t ts m → g ≡ max m x.two
      → tray_limits g x.one x.output ≡ limits_from most b n e second s ss came
  unfolding limits_from
  limits-next ss t ts x g z y f = rw (z, ← q, ← y, f)

module _ {ns : List ℕ} {n len k left : ℕ} (s : StepsThere ns n len k left) where
  pub none_left : left ≡ 1 → tab (step_at ns) (k + 1) (left - 1) ≡ []
  none_left e = tab-none (step_at ns) (k + 1) (left - 1) (omega arith)

  pub more_left : (left ≡ 1 → ⊥) → tab (step_at ns) (k + 1) (left - 1) ≡ step_at ns (k + 1) ∷ tab (step_at ns) (k + 1 + 1) (left - 1 - 1)
  more_left z = tab-step (step_at ns) (k + 1) (left - 1) (omega (arith, s.some))

  pub step-counted : Counted (step_at ns k) n len
  step-counted = let e : k + 0 ≡ k = omega arith in rw (← e) (s.counted 0 s.some)

  pub next_steps : (left ≡ 1 → ⊥) → StepsThere ns n len (k + 1) (left - 1)
  next_steps z = record {
    some = omega (arith, s.some);
    there = omega (arith, s.there, s.some);
    counted = λ j l. let e : k + 1 + j ≡ k + (j + 1) = omega arith in rw e (s.counted (j + 1) (omega arith));
  }

-- ---- a step that is not wrong

below : (x k n : ℕ) → x < k → x * n + n ≤ k * n
below x k n h = let m : (x + 1) * n ≤ k * n = mul-le-mul (omega arith) (omega arith) in omega (arith, add-mul x 1 n, one-mul n)

resize-column : (k first : ℕ) → wrong_number k (ltb 0 (columns_of 6)) first ≡ false → first < k
unfolding wrong_number columns_of
resize-column k first h = leb-false k first h

second_none : (a b c d : Bool) → ((a || b) || c) || d ≡ false → b ≡ false
second_none a b c d h = (or_none a b (or_none (a || b) c (or_none ((a || b) || c) d h).0).0).1

module _ (k n len : ℕ) (s : Step) (many : len ≡ k * n) (h : wrong_step k s ≡ false) where
  first-right : wrong_number k (ltb 0 (columns_of s.code)) s.first ≡ false
  unfolding wrong_step
  first-right =
      second_none (ltb 10 s.code) (wrong_number k (ltb 0 (columns_of s.code)) s.first) (wrong_number k (ltb 1 (columns_of s.code)) s.second)
      (wrong_number k (ltb 2 (columns_of s.code)) s.third) h

  counted_in : Counted s n len
  counted_in e = rw many (below s.first k n (resize-column k s.first (rw e at first-right)))

any_at : {A : Type 0} (p : A → Bool) (f : ℕ → A) (a n : ℕ) → any p (tab f a n) ≡ false → (j : ℕ) → j < n → p (f (a + j)) ≡ false
unfolding any tab
any_at p f a zero h j l = let z : ⊥ = omega arith in absurd z
any_at p f a (suc n) h zero l = let e : a + 0 ≡ a = omega arith in rw e (or_none (p (f a)) (any p (tab f (suc a) n)) h).0
any_at p f a (suc n) h (suc j) l = let e : a + suc j ≡ suc a + j = omega arith in rw e (any_at p f (suc a) n (or_none (p (f a)) (any p (tab f (suc a) n)) h).1 j (omega arith))

right_steps : (ns : List ℕ) (k : ℕ) → malformed (recipe ns k) ≡ false → any (wrong_step k) (steps_of ns) ≡ false
unfolding malformed
right_steps ns k h = (or_none (not (eqb (length ns % 4) 0) || ltb 32 (length ns / 4) || ltb 8 k) (any (wrong_step k) (steps_of ns)) h).1

pub all_steps : (ns : List ℕ) (k n len : ℕ) → malformed (recipe ns k) ≡ false → len ≡ k * n → (length ns / 4 ≡ 0 → ⊥) → StepsThere ns n len 0 (length ns / 4)
unfolding steps_of
all_steps ns k n len h e z = record {
  some = omega arith;
  there = omega arith;
  counted = λ j l. counted_in k n len (step_at ns (0 + j)) e (any_at (wrong_step k) (step_at ns) 0 (length ns / 4) (right_steps ns k h) j l);
}

-- ---- the limits are the definitions'

module _ (L : Limits) (c d : Column) (e : Arguments) (k n : ℕ) (hc : row_count c.offsets ≡ n) (hd : row_count d.offsets ≡ n) (many : length e.values ≡ k * n) where
  abbrev Second : ℕ
  Second = length (flat (rows_of d))

  step_is : (s : Step) (came : ℕ) → wrong_step k s ≡ false
      → step_limit L (map length_if (rows_of c)) (map length_if (rows_of d)) (shown_by e) s came ≡ limit_at L.offset c.rows n e Second s.code s.first came
  unfolding step_limit limit_at counts_from count_at capped
  step_is s came h =
      rw (length-map length_if (rows_of d), length-rows d, hd, limit_by_code s.code came (shown_in (map length_if (rows_of d))) (map length_if (rows_of c)) (column_of (shown_by e) n s.first) (column_of (shown_by e) n s.second) (column_of (shown_by e) n s.third), shown-elements (rows_of d))
      (cases (eqb s.code 6) refl)
    where
      cases : (t : Bool) → eqb s.code 6 ≡ t
          → min L.offset (pick t (counts_over (map length_if (rows_of c)) (column_of (shown_by e) n s.first)) (pick (eqb s.code 9) (came + Second) came)) ≡ min L.offset (pick t (total (tab (λ r. pick (valid_at c.rows r) (times_of (elem_at e.values e.bits (s.first * n + r))) 0) 0 n)) (pick (eqb s.code 9) (came + Second) came))
      cases true q = ap (min L.offset) (counts_by_row c e n s.first hc (counted_in k n (length e.values) s many h (eqb-true s.code 6 q)))
      cases false q = refl

  pub steps_are : (s : Step) (ss : List Step) (came : ℕ) → any (wrong_step k) (s ∷ ss) ≡ false
      → steps_limits L (map length_if (rows_of c)) (map length_if (rows_of d)) (shown_by e) s ss came ≡ limits_from L.offset c.rows n e Second s ss came
  unfolding steps_limits limits_from any
  steps_are s [] came h = rw (step_is s came (or_none (wrong_step k s) _ h).0)
  steps_are s (t ∷ ts) came h =
      let r = or_none (wrong_step k s) _ h in
      rw (step_is s came r.0, steps_are t ts (limit_at L.offset c.rows n e Second s.code s.first came) r.1)

-- ---- what the call comes to

ten : {A : Type 0} (x y : Outcome A) → gate 10 x ≡ gate 10 y
unfolding gate
ten x y = refl

module _ (L : Limits) (ns : List ℕ) (k : ℕ) (c d : Column) (e : Arguments) where
  abbrev Trays : TrayLimits
  Trays = limits_of L (map length_if (rows_of c)) (map length_if (rows_of d)) (shown_by e) (steps_of ns)

  limits_are : recipe_limits L (recipe ns k) c d e ≡ gate (recipe_refusal (recipe ns k) c d e) (made Trays)
  unfolding recipe_limits formed_limits recipe_refusal
  limits_are = cases (malformed (recipe ns k))
    where
      cases : (t : Bool) → gate (pick t 10 0) (gate (columns_refusal (c ∷ d ∷ []) (e ∷ [])) (gate (pick (recipe_unequal k (rows_of c) (rows_of d) (shown_by e)) 3 0) (made Trays))) ≡ gate (pick t 10 (or_else (columns_refusal (c ∷ d ∷ []) (e ∷ [])) (pick (recipe_unequal k (rows_of c) (rows_of d) (shown_by e)) 3 0))) (made Trays)
      cases true = ten _ _
      cases false = gate_open 0 _ refl ∙ gates (columns_refusal (c ∷ d ∷ []) (e ∷ [])) (pick (recipe_unequal k (rows_of c) (rows_of d) (shown_by e)) 3 0) _

  pub limits-refused : (j : ℕ) → j ≡ recipe_refusal (recipe ns k) c d e → (j ≡ 0 → ⊥) → refused j ≡ recipe_limits L (recipe ns k) c d e
  limits-refused j q z = sym (limits_are ∙ rw (← q) (gate_shut j (made Trays) z))

  module _ (p : recipe_refusal (recipe ns k) c d e ≡ 0) (came : ℕ) (shown : came ≡ length (flat (rows_of c))) (small : came ≤ L.offset) where
    first_in : capped L (shown_in (map length_if (rows_of c))) ≡ came
    unfolding capped
    first_in = rw (shown-elements (rows_of c), ← shown) (fits L.offset came small)

    -- a recipe of no steps
    pub limits_copy : length ns / 4 ≡ 0 → made (tray_limits 0 0 came) ≡ recipe_limits L (recipe ns k) c d e
    unfolding limits_of steps_of
    limits_copy z = sym (limits_are ∙ (gate_open _ _ p ∙ rw (z, tab-none (step_at ns) 0 0 (omega arith), first_in)))

    -- one of some steps
    pub limits_steps : (n second : ℕ) (x : TrayLimits) → n ≡ row_count c.offsets → second ≡ length (flat (rows_of d)) → (length ns / 4 ≡ 0 → ⊥)
        → x ≡ limits_from L.offset c.rows n e second (step_at ns 0) (tab (step_at ns) (0 + 1) (length ns / 4 - 1)) came → made x ≡ recipe_limits L (recipe ns k) c d e
    unfolding limits_of steps_of
    limits_steps n second x hn hs z y =
        let f = passed ns k c d e p in
        let all = tab-step (step_at ns) 0 (length ns / 4) (omega arith) in
        let right = rw all at (right_steps ns k f.formed) in
        let one = steps_are L c d e k n (sym hn) (f.equal ∙ sym hn) (rw hn f.many) (step_at ns 0) (tab (step_at ns) (0 + 1) (length ns / 4 - 1)) came right in
        sym (limits_are ∙ (gate_open _ _ p ∙ rw (all, first_in, one, ← hs, ← y)))
