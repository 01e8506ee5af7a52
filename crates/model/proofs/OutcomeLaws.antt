-- "A list or argument column is well-formed when neither 1 nor 2 below applies to it", and 13 does not: a call on such columns passes
-- those three refusals. And their order.
use Prim.Native.Nat.{ℕ, ◌+◌, ◌-◌, ◌≤◌, ◌<◌}
use mathlib.Core.Path.{◌≡◌, refl, sym}
use mathlib.Core.Bool.{Bool, true, false, ◌||◌}
use mathlib.Core.List.{List, [], ◌∷◌}
use native.Mathlib.Omega.{arith}
use borrow.Author.Tests.{ne_eqb}
use lib.Dec.{ltb}
use lib.IntN.{ℤ}
use lib.ListN.{length}
use Rattle.model.specs.Basics.{pick, tab, any, All, none, more}
use Rattle.model.specs.Bitmap.{from, short_bits}
use Rattle.model.specs.Column.{Column, column, Arguments, arguments, refusal13, refusal13ᵃ, refusal1, refusal2, refusal2ᵃ, WellFormed, WellFormedᵃ}
use Rattle.model.specs.Outcome.{Outcome, refused, gate, columns_refusal}
use Rattle.model.specs.Refusals.{first_of}
use Rattle.model.specs.Limits.{Limits}
use Rattle.model.specs.Form.{Room}
use Rattle.model.specs.Recipe.{Recipe, malformed, recipe_outcome}
use Rattle.model.proofs.BoolLaws.{never_true}
use Rattle.model.proofs.TabLaws.{tab-step, tab-none}

-- a test that fails at each element holds of none
any_none : {A : Type 0} {P : A → Type 0} {xs : List A} (p : A → Bool) → ((x : A) → P x → p x ≡ false) → All P xs → any p xs ≡ false
unfolding any
any_none p h none = refl
any_none p h (more {x} f fs) = rw (h x f) (any_none p h fs)

pub formed-columns : {cs : List Column} {es : List Arguments} → All WellFormed cs → All WellFormedᵃ es → columns_refusal cs es ≡ 0
unfolding columns_refusal
formed-columns f g =
    rw
    (any_none refusal13 (λ c w. w.not13) f, any_none refusal13ᵃ (λ a w. w.not13) g, any_none refusal1 (λ c w. w.not1) f, any_none refusal2 (λ c w. w.not2) f, any_none refusal2ᵃ (λ a w. w.not2) g)

-- no number, no refusal
pub gate_open : {A : Type 0} (k : ℕ) (o : Outcome A) → k ≡ 0 → gate k o ≡ o
unfolding gate
gate_open k o h = rw h

-- a number is the refusal
pub gate_shut : {A : Type 0} (k : ℕ) (o : Outcome A) → (k ≡ 0 → ⊥) → gate k o ≡ refused k
unfolding gate
gate_shut k o h = rw (ne_eqb k 0 h)

-- ---- 13, 1 and 2

-- 13 is of the starting bits alone, whatever bytes stand beside them
pub thirteen_by_bits : (o v : List ℤ) (r e : List ℕ) (i j : ℕ) → refusal13 (column o (from i r) v (from j e)) ≡ (ltb 7 i || ltb 7 j)
unfolding refusal13
thirteen_by_bits o v r e i j = refl

pub thirteen_by_bitsᵃ : (v : List ℤ) (b : List ℕ) (i : ℕ) → refusal13ᵃ (arguments v (from i b)) ≡ ltb 7 i
unfolding refusal13ᵃ
thirteen_by_bitsᵃ v b i = refl

-- w and v: 13 of the lists and of the argument columns; x: 1; y and z: 2 of both
abbrev number : Bool → Bool → Bool → Bool → Bool → ℕ
number w v x y z = pick (w || v) 13 (pick x 1 (pick (y || z) 2 0))

by_arguments : (w v x y z : Bool) → v ≡ true → number w v x y z ≡ 13
by_arguments true v x y z h = refl
by_arguments false true x y z h = refl
by_arguments false false x y z h = never_true (sym h)

by_lists : (w x y z : Bool) (k : ℕ) → k ≡ number w false x y false → (k ≡ 0 → ⊥) → number w false x y z ≡ k
by_lists true x y z k e h = sym e
by_lists false true y z k e h = sym e
by_lists false false true z k e h = sym e
by_lists false false false z k e h = absurd (h e)

by_two : (w x y z : Bool) (k : ℕ) → k ≡ number w false x y false → k ≡ 0 → number w false x y z ≡ pick z 2 0
by_two true x y z k e h = let n : ⊥ = omega arith in absurd n
by_two false true y z k e h = let n : ⊥ = omega arith in absurd n
by_two false false true z k e h = let n : ⊥ = omega arith in absurd n
by_two false false false z k e h = refl

module _ (cs : List Column) (es : List Arguments) where
  -- "13, a starting bit over 7, .. before 1": of whichever column
  pub thirteen_first : any refusal13 cs || any refusal13ᵃ es ≡ true → columns_refusal cs es ≡ 13
  unfolding columns_refusal
  thirteen_first h = rw h

  pub thirteen_of_arguments : any refusal13ᵃ es ≡ true → columns_refusal cs es ≡ 13
  unfolding columns_refusal
  thirteen_of_arguments h = by_arguments (any refusal13 cs) (any refusal13ᵃ es) (any refusal1 cs) (any refusal2 cs) (any refusal2ᵃ es) h

  -- without one among the argument columns the lists' refusals come next, and then 2 of the argument columns
  module _ (s : any refusal13ᵃ es ≡ false) (k : ℕ) (e : k ≡ columns_refusal cs []) where
    pub lists-next : (k ≡ 0 → ⊥) → columns_refusal cs es ≡ k
    unfolding columns_refusal any
    lists-next h = rw s (by_lists (any refusal13 cs) (any refusal1 cs) (any refusal2 cs) (any refusal2ᵃ es) k e h)

    pub arguments-next : k ≡ 0 → columns_refusal cs es ≡ pick (any refusal2ᵃ es) 2 0
    unfolding columns_refusal any
    arguments-next h = rw s (by_two (any refusal13 cs) (any refusal1 cs) (any refusal2 cs) (any refusal2ᵃ es) k e h)

-- a call with one list and one argument column: 13 of the column, then 13, 1 and 2 of the list, then 2 of the column
module _ (c : Column) (a : Arguments) {A : Type 0} (o : Outcome A) where
  pub beside_starts : ltb 7 a.bits.start ≡ true → gate (columns_refusal (c ∷ []) (a ∷ [])) o ≡ refused 13
  unfolding gate any refusal13ᵃ
  beside_starts h = rw (thirteen_of_arguments (c ∷ []) (a ∷ []) (rw h))

  module _ (s : ltb 7 a.bits.start ≡ false) (k : ℕ) (e : k ≡ columns_refusal (c ∷ []) []) where
    not_over : any refusal13ᵃ (a ∷ []) ≡ false
    unfolding any refusal13ᵃ
    not_over = rw s

    pub beside_early : (k ≡ 0 → ⊥) → gate (columns_refusal (c ∷ []) (a ∷ [])) o ≡ refused k
    beside_early h = rw (lists-next (c ∷ []) (a ∷ []) not_over k e h) (gate_shut k o h)

    pub beside_two : k ≡ 0 → short_bits a.bits (length a.values) ≡ true → gate (columns_refusal (c ∷ []) (a ∷ [])) o ≡ refused 2
    unfolding gate any refusal2ᵃ
    beside_two h t = rw (arguments-next (c ∷ []) (a ∷ []) not_over k e h, t)

    pub beside_open : k ≡ 0 → short_bits a.bits (length a.values) ≡ false → gate (columns_refusal (c ∷ []) (a ∷ [])) o ≡ o
    unfolding gate any refusal2ᵃ
    beside_open h t = rw (arguments-next (c ∷ []) (a ∷ []) not_over k e h, t)

-- the first refusal of rows, row after row
module _ (K : ℕ → ℕ) (r n : ℕ) where
  pub first-refusal : 0 < n → (K r ≡ 0 → ⊥) → first_of (tab K r n) ≡ K r
  unfolding first_of
  first-refusal h k = rw (tab-step K r n h, ne_eqb (K r) 0 k)

  pub later-refusal : 0 < n → K r ≡ 0 → first_of (tab K r n) ≡ first_of (tab K (r + 1) (n - 1))
  unfolding first_of
  later-refusal h k = rw (tab-step K r n h, k)

  pub no_refusal : n ≤ 0 → first_of (tab K r n) ≡ 0
  unfolding first_of
  no_refusal h = rw (tab-none K r n h)

-- ---- 13 in a recipe: "after 10 and before 1"

module _ (L : Limits) (p : Recipe) (c d : Column) (e : Arguments) (a b o : Room) where
  pub ten_first : malformed p ≡ true → recipe_outcome L p c d e a b o ≡ refused 10
  unfolding recipe_outcome gate
  ten_first h = rw h

  pub thirteen_after_ten : malformed p ≡ false → any refusal13 (c ∷ d ∷ []) || any refusal13ᵃ (e ∷ []) ≡ true → recipe_outcome L p c d e a b o ≡ refused 13
  unfolding recipe_outcome gate
  thirteen_after_ten h t = rw (h, thirteen_first (c ∷ d ∷ []) (e ∷ []) t)
