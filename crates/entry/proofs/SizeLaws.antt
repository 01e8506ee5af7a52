-- Laws of the tests of sizes.
use mathlib.Core.Path.{◌≡◌, refl, sym, ◌∙◌}
use mathlib.Core.Bool.{Bool, true, false, ◌||◌, or-false, or_assoc}
use mathlib.Core.List.{List, [], ◌∷◌, ◌++◌, append_assoc}
use Prim.Native.Nat.{ℕ, ◌/◌, ◌≤◌}
use native.Mathlib.Omega.{arith}
use borrow.Author.Tests.{ltb-false}
use lib.Dec.{ltb}
use lib.ListN.{length, take, drop, length-drop, length-append}
use lib.Seq.{length-take-le}
use Rattle.model.specs.Basics.{pick, any, All, none, more}
use Rattle.entry.specs.Inner.{ListFits}
use Rattle.entry.specs.Entry.{Numbers, most_offsets, most_values, most_rows, list_sizes, value_sizes, ragged, outsize, size_refusal}
use Rattle.entry.specs.Misfits.{Tested}
use Rattle.entry.specs.declared.sizes.Sizes.{Sizes}
use Rattle.model.proofs.BoolLaws.{or_none}

-- ---- the tests as the code joins them

pub any-one : {A : Type 0} (p : A → Bool) (x : A) {a : Bool} → a ≡ p x → a ≡ any p (x ∷ [])
unfolding any
any-one p x f = rw f (sym (or-false (p x)))

any_append : {A : Type 0} (p : A → Bool) (xs ys : List A) → any p xs || any p ys ≡ any p (xs ++ ys)
unfolding any
any_append p [] ys = refl
any_append p (x ∷ xs) ys = or_assoc (p x) (any p xs) (any p ys) ∙ rw (any_append p xs ys)

pub any_both : {A : Type 0} (p : A → Bool) (xs ys : List A) {a b : Bool} → a ≡ any p xs → b ≡ any p ys → a || b ≡ any p (xs ++ ys)
any_both p xs ys f g = rw (f, g) (any_append p xs ys)

-- ---- what follows where they refuse nothing

pub pick-none : (b : Bool) (k n : ℕ) → 1 ≤ k → pick b k n ≡ 0 → (b ≡ false) × (n ≡ 0)
pick-none true k n l h = let z : ⊥ = omega arith in absurd z
pick-none false k n l h = (refl, h)

abbrev pub Fits : Numbers → Type 0
Fits s = s.bytes / s.width ≤ s.most

all_fit : (ss : List Numbers) → any outsize ss ≡ false → All Fits ss
unfolding any
all_fit [] h = none
all_fit (s ∷ ss) h = let o = or_none (outsize s) (any outsize ss) h in more (ltb-false s.most (s.bytes / s.width) o.0) (all_fit ss o.1)

pub record Sized (ss : List Numbers) (n k : ℕ) : Type 0 where
  pub counts : k ≤ n
  pub fit : All Fits ss

pub sized : (ss : List Numbers) (n k : ℕ) → size_refusal ss n k ≡ 0 → Sized ss n k
unfolding size_refusal
sized ss n k h =
    let p = pick-none (any ragged ss || ltb n k) 100 (pick (any outsize ss) 101 0) (omega arith) h in
    let q = pick-none (any outsize ss) 101 0 (omega arith) p.1 in
    record { counts = ltb-false n k (or_none (any ragged ss) (ltb n k) p.0).1; fit = all_fit ss q.0 }

pub all_left : {A : Type 0} {P : A → Type 0} (xs ys : List A) → All P (xs ++ ys) → All P xs
all_left [] ys a = none
all_left (x ∷ xs) ys (more p a) = more p (all_left xs ys a)

pub all_right : {A : Type 0} {P : A → Type 0} (xs ys : List A) → All P (xs ++ ys) → All P ys
all_right [] ys a = a
all_right (x ∷ xs) ys (more p a) = all_right xs ys a

-- the arrays hold the numbers of a list, or one value a row
pub list-fits : (o v : ℕ) → All Fits (list_sizes o v) → ListFits o v most_offsets most_values
list-fits o v (more p (more q none)) = record { offsets = p; values = q }

pub value_fits : (v : ℕ) → All Fits (value_sizes v) → v / 8 ≤ most_rows
value_fits v (more p none) = p

-- an array whose front was lent and came back has its length
pub whole : {A : Type 0} (x l : List A) (n : ℕ) → n ≤ length l → length x ≡ length (take n l) → length (x ++ drop n l) ≡ length l
whole x l n h e = omega (arith, length-append x (drop n l), length-drop n l, e, length-take-le n l h)

-- ---- what the sizes of slices come to

pub tested_none : Tested [] (record { is_ragged = false; is_outsize = false })
unfolding any
tested_none = record { ragged = refl; outsize = refl }

pub tested_one : (ss : List Numbers) (n : Numbers) {a b : Bool} {s : Sizes} → Tested ss s → a ≡ ragged n → b ≡ outsize n → Tested (ss ++ (n ∷ [])) (record { is_ragged = s.is_ragged || a; is_outsize = s.is_outsize || b })
tested_one ss n t p q = record { ragged = any_both ragged ss (n ∷ []) t.ragged (any-one ragged n p); outsize = any_both outsize ss (n ∷ []) t.outsize (any-one outsize n q) }

pub tested_both : (ss : List Numbers) (n m : Numbers) {s : Sizes} → Tested ((ss ++ (n ∷ [])) ++ (m ∷ [])) s → Tested (ss ++ (n ∷ m ∷ [])) s
tested_both ss n m t = rw (append_assoc ss (n ∷ []) (m ∷ [])) at t

module _ (ss : List Numbers) (counts need : ℕ) {s : Sizes} (t : Tested ss s) where
  pub tested_ragged : s.is_ragged || ltb counts need ≡ true → 100 ≡ size_refusal ss counts need
  unfolding size_refusal
  tested_ragged h = rw (← t.ragged, h)

  pub tested_outsize : s.is_ragged || ltb counts need ≡ false → s.is_outsize ≡ true → 101 ≡ size_refusal ss counts need
  unfolding size_refusal
  tested_outsize h k = rw (← t.ragged, h, ← t.outsize, k)

  pub tested_fit : s.is_ragged || ltb counts need ≡ false → s.is_outsize ≡ false → 0 ≡ size_refusal ss counts need
  unfolding size_refusal
  tested_fit h k = rw (← t.ragged, h, ← t.outsize, k)
