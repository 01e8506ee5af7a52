-- The sums over stations. `fifteen`: "15, a station over 15; it precedes 10 and counts for nobody". `own_finished`, `own_refused` and
-- `others_stay`: "Only its own calls change a station's counts." `sums_grow`: the claim over many calls, whatever they are;
-- `recipes_grow` is its case for recipes.
use Prim.Native.Nat.{ℕ, zero, suc, ◌+◌, ◌≤◌, ◌<◌}
use mathlib.Core.Path.{◌≡◌, refl, sym, ap, ◌∙◌}
use mathlib.Core.Bool.{Bool, true, false, not, ◌&&◌}
use mathlib.Core.List.{List, [], ◌∷◌, map}
use native.Mathlib.Omega.{arith}
use borrow.Author.Tests.{lt-ltb, le-ltb, ltb-true, ltb-false}
use lib.Dec.{ltb, eqb}
use lib.IntN.{pos}
use lib.ListN.{length, get_or, replicate, length-set}
use lib.Seq.{get_or-set_same, get_or-set_other}
use Rattle.model.specs.Basics.{pick, absent, given, All, none, more}
use Rattle.model.specs.Limits.{Limits, largest}
use Rattle.model.specs.Bitmap.{bit}
use Rattle.model.specs.Column.{Row, Column, Arguments, rows_of}
use Rattle.model.specs.View.{View}
use Rattle.model.specs.Form.{Room}
use Rattle.model.specs.Outcome.{Outcome, refused, made, gate}
use Rattle.model.specs.Recipe.{Recipe, recipe_outcome, stationed}
use Rattle.model.specs.Grade.{grade_refusal, graded, graded_move}
use Rattle.model.specs.Tally.{Tally, Sixteen, one_more, counted_at, Move, finished_at, refused_at, nobody, moved, named, outcome_at, move_of, tallied, Names, moved_all, Below, While, no_more, still, total, as_finished, as_refused, Grown}
use Rattle.model.specs.Call.{Call, list, any_value, element, list_repeat, recipe, measure_list, measure_any_value, measure_element, measure_repeat, limit_recipe, window, import_view, export_view, End, refusal, answer_of, written, list_numbers, list_bitmaps, trays_end, recipe_end, end, tally_taken, move_in, Chain, list_counts, names_station, accepted, finished_by, refused_by, grade_column, grade_recipe, graded_end, hashed}
use Rattle.model.specs.Call as C
use Rattle.model.specs.Run.{Run}
use Rattle.model.proofs.BoolLaws.{never}
use Rattle.model.proofs.RunLaws.{run_ends}

-- ---- one call

pub station_over : {A : Type 0} (s : ℕ) (x : Outcome A) → 15 < s → stationed s x ≡ refused 15
unfolding stationed gate
station_over s x h = rw (lt-ltb 15 s h)

pub station_named : {A : Type 0} (s : ℕ) (x : Outcome A) → s ≤ 15 → stationed s x ≡ x
unfolding stationed gate
station_named s x h = rw (le-ltb 15 s h)

-- a station over 15: the number, no written results, trays of zeros and the tally as it came, whatever the recipe and the columns
pub fifteen : (L : Limits) (s : ℕ) (p : Recipe) (c d : Column) (e : Arguments) (a b o : Room) (t : Tally) → 15 < s
    → end L (recipe s p c d e a b o t) ≡ record {
      answer = refusal 15;
      numbers = [] ∷ [] ∷ [];
      bitmaps = [] ∷ [] ∷ [];
      tray_numbers = replicate a.offsets (pos 0) ∷ replicate a.values (pos 0) ∷ replicate b.offsets (pos 0) ∷ replicate b.values (pos 0) ∷ [];
      tray_bitmaps = replicate a.rows 0 ∷ replicate a.elements 0 ∷ replicate b.rows 0 ∷ replicate b.elements 0 ∷ [];
      tally = given t;
      grades = [];
      area = absent;
    }
unfolding end recipe_end trays_end stationed gate answer_of list_numbers list_bitmaps written move_of named moved
fifteen L s p c d e a b o t h = rw (lt-ltb 15 s h)

-- the count at a station's place
own : (s : ℕ) (ns : List ℕ) → s < 16 → length ns ≡ 16 → get_or (counted_at s ns) s 0 ≡ one_more (get_or ns s 0)
unfolding counted_at
own s ns h e = get_or-set_same ns s _ 0 (omega arith)

other : (s k : ℕ) (ns : List ℕ) → (k ≡ s → ⊥) → get_or (counted_at s ns) k 0 ≡ get_or ns k 0
unfolding counted_at
other s k ns h = get_or-set_other ns s k _ 0 h

-- the counts of the station that a call names: one of them is one more, the other as it was
module _ (s : ℕ) (t : Tally) (h : s < 16) (z : Sixteen t) where
  pub own_finished : (ws : List Row) → (get_or (tallied s (made ws) t).finished s 0 ≡ one_more (get_or t.finished s 0)) × ((tallied s (made ws) t).refused ≡ t.refused)
  unfolding move_of named outcome_at moved
  own_finished ws = rw (le-ltb 15 s (omega arith)) (own s t.finished h z.finished, refl)

  pub own_refused : (k : ℕ) → (get_or (tallied {A = List Row} s (refused k) t).refused s 0 ≡ one_more (get_or t.refused s 0)) × ((tallied {A = List Row} s (refused k) t).finished ≡ t.finished)
  unfolding move_of named outcome_at moved
  own_refused k = rw (le-ltb 15 s (omega arith)) (own s t.refused h z.refused, refl)

-- station k is another than the one that the call names
pub others_stay : {A : Type 0} (s k : ℕ) (x : Outcome A) (t : Tally) → (k ≡ s → ⊥) → (get_or (tallied s x t).finished k 0 ≡ get_or t.finished k 0) × (get_or (tallied s x t).refused k 0 ≡ get_or t.refused k 0)
unfolding move_of named outcome_at moved
others_stay s k x t h = go (ltb 15 s) x
  where
    go : {A : Type 0} (b : Bool) (x : Outcome A) → (get_or (moved (pick b nobody (outcome_at s x)) t).finished k 0 ≡ get_or t.finished k 0) × (get_or (moved (pick b nobody (outcome_at s x)) t).refused k 0 ≡ get_or t.refused k 0)
    go true x = (refl, refl)
    go false (made a) = (other s k t.finished h, refl)
    go false (refused j) = (refl, other s k t.refused h)

-- a move of no station k, and many of them: k's counts stay
unfoldable pub Apart : ℕ → Move → Type 0
Apart k (finished_at s) = k ≡ s → ⊥
Apart k (refused_at s) = k ≡ s → ⊥
Apart k nobody = Unit

pub apart_of : {A : Type 0} (s k : ℕ) (x : Outcome A) → (k ≡ s → ⊥) → Apart k (move_of s x)
unfolding move_of named outcome_at Apart
apart_of s k x h = go (ltb 15 s) x
  where
    go : {A : Type 0} (b : Bool) (x : Outcome A) → Apart k (pick b nobody (outcome_at s x))
    go true x = tt
    go false (made a) = h
    go false (refused j) = h

pub others_stay_long : (k : ℕ) (ms : List Move) (t : Tally) → All (Apart k) ms → (get_or (moved_all ms t).finished k 0 ≡ get_or t.finished k 0) × (get_or (moved_all ms t).refused k 0 ≡ get_or t.refused k 0)
unfolding moved_all moved Apart
others_stay_long k [] t none = (refl, refl)
others_stay_long k (finished_at s ∷ ms) t (more h hs) = let r = others_stay_long k ms (moved (finished_at s) t) hs in (r.0 ∙ other s k t.finished h, r.1)
others_stay_long k (refused_at s ∷ ms) t (more h hs) = let r = others_stay_long k ms (moved (refused_at s) t) hs in (r.0, r.1 ∙ other s k t.refused h)
others_stay_long k (nobody ∷ ms) t (more h hs) = others_stay_long k ms t hs

-- ---- many calls

raised : (n : ℕ) → n < largest → one_more n ≡ n + 1
unfolding one_more
raised n h = rw (lt-ltb n largest h)

total-counted : (s : ℕ) (ns : List ℕ) → s < length ns → All (λ (n : ℕ). n < largest) ns → total (counted_at s ns) ≡ total ns + 1
unfolding counted_at total
total-counted s [] h b = let z : ⊥ = omega arith in absurd z
total-counted zero (n ∷ ns) h (more p b) = let e = raised n p in omega (arith, e)
total-counted (suc s) (n ∷ ns) h (more p b) = let e = total-counted s ns (omega arith) b in omega (arith, e)

pub sixteen_stay : (m : Move) (t : Tally) → Sixteen t → Sixteen (moved m t)
unfolding moved counted_at
sixteen_stay (finished_at s) t z = record { finished = length-set t.finished s _ ∙ z.finished; refused = z.refused }
sixteen_stay (refused_at s) t z = record { finished = z.finished; refused = length-set t.refused s _ ∙ z.refused }
sixteen_stay nobody t z = z

-- one of them
one_grows : (m : Move) (t : Tally) → Sixteen t → Names m → Below t → (total (moved m t).finished ≡ total t.finished + as_finished m) × (total (moved m t).refused ≡ total t.refused + as_refused m)
unfolding moved Names as_finished as_refused
one_grows (finished_at s) t z h b = let l = z.finished in (total-counted s t.finished (omega (arith, l, h)) b.finished, omega arith)
one_grows (refused_at s) t z h b = let l = z.refused in (omega arith, total-counted s t.refused (omega (arith, l, h)) b.refused)
one_grows nobody t z h b = (omega arith, omega arith)

-- "Where each call takes the tally the last one gave, and while no count has reached its largest value, the sums over stations grow by
-- the calls made, split by outcome": over any list of calls, each given by what it does to the tally. Calls that count for nobody are
-- left out: their numbers in both sums are 0.
pub sums_grow : (ms : List Move) (t : Tally) → Sixteen t → All Names ms → While ms t → Grown ms t (moved_all ms t)
unfolding moved_all total
sums_grow [] t z none no_more = record { finished = omega arith; refused = omega arith }
sums_grow (m ∷ ms) t z (more n ns) (still b w) =
    let first = one_grows m t z n b in
    let rest = sums_grow ms (moved m t) (sixteen_stay m t z) ns w in
    let f = rest.finished in
    let r = rest.refused in
    record { finished = omega (arith, first.0, f); refused = omega (arith, first.1, r) }

-- ---- counts do not fall: where none stands at its largest value after the calls, none did before

below_raised : (n : ℕ) → one_more n < largest → n < largest
unfolding one_more
below_raised n h = go (ltb n largest) refl h
  where
    go : (b : Bool) → ltb n largest ≡ b → pick b (n + 1) n < largest → n < largest
    go true e p = ltb-true n largest e
    go false e p = p

below-counted : (s : ℕ) (ns : List ℕ) → All (λ (n : ℕ). n < largest) (counted_at s ns) → All (λ (n : ℕ). n < largest) ns
unfolding counted_at
below-counted s [] b = none
below-counted zero (n ∷ ns) (more p b) = more (below_raised n p) b
below-counted (suc s) (n ∷ ns) (more p b) = more p (below-counted s ns b)

below-moved : (m : Move) (t : Tally) → Below (moved m t) → Below t
unfolding moved
below-moved (finished_at s) t b = record { finished = below-counted s t.finished b.finished; refused = b.refused }
below-moved (refused_at s) t b = record { finished = b.finished; refused = below-counted s t.refused b.refused }
below-moved nobody t b = b

below_all : (ms : List Move) (t : Tally) → Below (moved_all ms t) → Below t
unfolding moved_all
below_all [] t b = b
below_all (m ∷ ms) t b = below-moved m t (below_all ms (moved m t) b)

pub while_below : (ms : List Move) (t : Tally) → Below (moved_all ms t) → While ms t
unfolding moved_all
while_below [] t b = no_more
while_below (m ∷ ms) t b = still (below-moved m t (below_all ms (moved m t) b)) (while_below ms (moved m t) b)

-- ---- recipes

pub names_of : {A : Type 0} (s : ℕ) (x : Outcome A) → Names (move_of s x)
unfolding move_of named outcome_at Names
names_of s x = go (ltb 15 s) refl x
  where
    go : {A : Type 0} (b : Bool) → ltb 15 s ≡ b → (x : Outcome A) → Names (pick b nobody (outcome_at s x))
    go true e x = tt
    go false e (made a) = let l = ltb-false 15 s e in omega (arith, l)
    go false e (refused k) = let l = ltb-false 15 s e in omega (arith, l)

names_graded : (k g : ℕ) (ws : List Row) (m : Move) → Names m → Names (graded_move k ws g m)
unfolding graded_move Names
names_graded k g ws m h = go (eqb (grade_refusal k ws g) 0)
  where
    go : (b : Bool) → Names (pick b m nobody)
    go true = h
    go false = tt

names_in : (L : Limits) (q : Call Column Arguments View) → Names (move_in L q)
unfolding move_in Names
names_in L (list q l) = tt
names_in L (any_value c l) = tt
names_in L (element c a l) = tt
names_in L (list_repeat c a l) = tt
names_in L (recipe s p c d e a b o t) = names_of s _
names_in L (measure_list q) = tt
names_in L (measure_any_value c) = tt
names_in L (measure_element c a) = tt
names_in L (measure_repeat c a) = tt
names_in L (limit_recipe p c d e) = tt
names_in L (window p x y c d e a b o) = tt
names_in L (import_view v l) = tt
names_in L (export_view c l) = tt
names_in L (grade_column k c g) = tt
names_in L (grade_recipe k s p c d e a b o g t) = names_graded k g (rows_of c) _ (names_of s _)
names_in L (hashed h n l) = tt

all_name : (L : Limits) (qs : List (Call Column Arguments View)) → All Names (map (move_in L) qs)
all_name L [] = none
all_name L (q ∷ qs) = more (names_in L q) (all_name L qs)

-- a call that takes a tally gives the one that its move leaves
pub end_moves : (L : Limits) (q : Call Column Arguments View) (t : Tally) → tally_taken q ≡ given t → (end L q).tally ≡ given (moved (move_in L q) t)
unfolding tally_taken end recipe_end trays_end move_in graded_end
end_moves L (list q l) t h = never cc
end_moves L (any_value c l) t h = never cc
end_moves L (element c a l) t h = never cc
end_moves L (list_repeat c a l) t h = never cc
end_moves L (recipe s p c d e a b o t') t h = cc
end_moves L (measure_list q) t h = never cc
end_moves L (measure_any_value c) t h = never cc
end_moves L (measure_element c a) t h = never cc
end_moves L (measure_repeat c a) t h = never cc
end_moves L (limit_recipe p c d e) t h = never cc
end_moves L (window p x y c d e a b o) t h = never cc
end_moves L (import_view v l) t h = never cc
end_moves L (export_view c l) t h = never cc
end_moves L (grade_column k c g) t h = never cc
end_moves L (grade_recipe k s p c d e a b o g t') t h = cc
end_moves L (hashed h n l) t z = never cc

chain_moves : (L : Limits) {t u : Tally} {qs : List (Call Column Arguments View)} → Chain L t qs u → u ≡ moved_all (map (move_in L) qs) t
unfolding moved_all
chain_moves L C.none = refl
chain_moves L {t = t} (C.next {q} {qs} {t' = t'} h g c) =
    let i : given t' ≡ given (moved (move_in L q) t) = sym g ∙ end_moves L q t h in
    let k : t' ≡ moved (move_in L q) t = cc in
    chain_moves L c ∙ ap (moved_all (map (move_in L) qs)) k

-- the claim over recipes: t is the tally that the first call takes, u the one that the last gives
pub recipes_grow : (L : Limits) {t u : Tally} (qs : List (Call Column Arguments View)) → Chain L t qs u → Sixteen t → While (map (move_in L) qs) t → Grown (map (move_in L) qs) t u
recipes_grow L {t} qs c z w = rw (chain_moves L c) (sums_grow (map (move_in L) qs) t z (all_name L qs) w)

-- what counts as finished is a call for a station that was accepted, and what counts as refused one that was not
module _ (L : Limits) where
  split_finished : (q : Call Column Arguments View) → as_finished (move_in L q) ≡ finished_by L q
  unfolding move_in move_of named outcome_at as_finished names_station accepted end recipe_end trays_end answer_of graded_end graded_move graded gate
  split_finished (list q l) = refl
  split_finished (any_value c l) = refl
  split_finished (element c a l) = refl
  split_finished (list_repeat c a l) = refl
  split_finished (measure_list q) = refl
  split_finished (measure_any_value c) = refl
  split_finished (measure_element c a) = refl
  split_finished (measure_repeat c a) = refl
  split_finished (limit_recipe p c d e) = refl
  split_finished (window p x y c d e a b o) = refl
  split_finished (import_view v l) = refl
  split_finished (export_view c l) = refl
  split_finished (grade_column k c g) = refl
  split_finished (grade_recipe k s p c d e a b o g t) = go (eqb (grade_refusal k (rows_of c) g) 0) (ltb 15 s) (stationed s (recipe_outcome L p c d e a b o))
    where
      go : (z b : Bool) (x : Outcome (List Row)) → as_finished (pick z (pick b nobody (outcome_at s x)) nobody) ≡ bit ((not b && z) && accepted (answer_of list_counts (pick z x (refused (grade_refusal k (rows_of c) g)))))
      go true true x = refl
      go false true x = refl
      go true false (refused j) = refl
      go true false (made ws) = refl
      go false false x = refl
  split_finished (hashed h n l) = refl
  split_finished (recipe s p c d e a b o t) = go (ltb 15 s) (stationed s (recipe_outcome L p c d e a b o))
    where
      go : (b : Bool) (x : Outcome (List Row)) → as_finished (pick b nobody (outcome_at s x)) ≡ bit (not b && accepted (answer_of list_counts x))
      go true x = refl
      go false (refused k) = refl
      go false (made ws) = refl

  split_refused : (q : Call Column Arguments View) → as_refused (move_in L q) ≡ refused_by L q
  unfolding move_in move_of named outcome_at as_refused names_station accepted end recipe_end trays_end answer_of graded_end graded_move graded gate
  split_refused (list q l) = refl
  split_refused (any_value c l) = refl
  split_refused (element c a l) = refl
  split_refused (list_repeat c a l) = refl
  split_refused (measure_list q) = refl
  split_refused (measure_any_value c) = refl
  split_refused (measure_element c a) = refl
  split_refused (measure_repeat c a) = refl
  split_refused (limit_recipe p c d e) = refl
  split_refused (window p x y c d e a b o) = refl
  split_refused (import_view v l) = refl
  split_refused (export_view c l) = refl
  split_refused (grade_column k c g) = refl
  split_refused (grade_recipe k s p c d e a b o g t) = go (eqb (grade_refusal k (rows_of c) g) 0) (ltb 15 s) (stationed s (recipe_outcome L p c d e a b o))
    where
      go : (z b : Bool) (x : Outcome (List Row)) → as_refused (pick z (pick b nobody (outcome_at s x)) nobody) ≡ bit ((not b && z) && not (accepted (answer_of list_counts (pick z x (refused (grade_refusal k (rows_of c) g))))))
      go true true x = refl
      go false true x = refl
      go true false (refused j) = refl
      go true false (made ws) = refl
      go false false x = refl
  split_refused (hashed h n l) = refl
  split_refused (recipe s p c d e a b o t) = go (ltb 15 s) (stationed s (recipe_outcome L p c d e a b o))
    where
      go : (b : Bool) (x : Outcome (List Row)) → as_refused (pick b nobody (outcome_at s x)) ≡ bit (not b && not (accepted (answer_of list_counts x)))
      go true x = refl
      go false (refused k) = refl
      go false (made ws) = refl

  sum-finished : (qs : List (Call Column Arguments View)) → total (map as_finished (map (move_in L) qs)) ≡ total (map (finished_by L) qs)
  unfolding total
  sum-finished [] = refl
  sum-finished (q ∷ qs) = rw (split_finished q, sum-finished qs)

  sum-refused : (qs : List (Call Column Arguments View)) → total (map as_refused (map (move_in L) qs)) ≡ total (map (refused_by L) qs)
  unfolding total
  sum-refused [] = refl
  sum-refused (q ∷ qs) = rw (split_refused q, sum-refused qs)

  -- the claim over recipes, by what the calls came to
  pub recipes_split : {t u : Tally} (qs : List (Call Column Arguments View)) → Chain L t qs u → Sixteen t → While (map (move_in L) qs) t
      → (total u.finished ≡ total t.finished + total (map (finished_by L) qs)) × (total u.refused ≡ total t.refused + total (map (refused_by L) qs))
  recipes_split qs c z w = let g = recipes_grow L qs c z w in (rw (← sum-finished qs) g.finished, rw (← sum-refused qs) g.refused)

-- what a run of a call gave is what the call gives
pub run_gives : (L : Limits) {q : Call Column Arguments View} {e : End} {t : Tally} → Run L q e → e.tally ≡ given t → (end L q).tally ≡ given t
run_gives L r h = ap (λ (x : End). x.tally) (sym (run_ends L r)) ∙ h
