-- A table of a row's elements in a work area: from slot o on n heads, then n links. A head or a link is one more than the place of an
-- element in its row, or 0.
use Rattle.std.specs.Prelude.{ℕ, zero, suc, ◌+◌, ◌≤◌, ◌<◌, ◌≡◌, Bool, false, ◌||◌, List, length, get_or}
use Rattle.model.specs.Basics.{tab}
use Rattle.model.specs.Column.{Elem}
use Rattle.model.specs.Elements.{same_elem, is_in}
use Rattle.hash_slots.specs.Slots.{head_of}

-- is the element e in the chain that begins at s, by at most f steps; element i of the row is E (a + i)
unfoldable pub chained : (ℕ → Elem) → ℕ → ℕ → ℕ → List ℕ → Elem → ℕ → ℕ → Bool
chained E a n o t e zero s = false
chained E a n o t e (suc f) zero = false
chained E a n o t e (suc f) (suc i) = same_elem e (E (a + i)) || chained E a n o t e f (get_or t (o + n + i) 0)

-- links go down
abbrev pub Down : ℕ → ℕ → List ℕ → Type 0
Down n o t = (i : ℕ) → i < n → get_or t (o + n + i) 0 ≤ i

-- the table answers as a search among the first k elements from element a on does
pub record Table (E : ℕ → Elem) (a n k o : ℕ) (t : List ℕ) : Type 0 where
  pub room : o + n + n ≤ length t
  pub down : Down n o t
  pub heads : (b : ℕ) → b < n → get_or t (o + b) 0 ≤ k
  pub finds : (e : Elem) → 0 < n → chained E a n o t e (get_or t (o + head_of n e) 0) (get_or t (o + head_of n e) 0) ≡ is_in e (tab E a k)

-- outside the slots from lo up to hi nothing changed
pub record Within (lo hi : ℕ) (t u : List ℕ) : Type 0 where
  pub below : (i : ℕ) → i < lo → get_or u i 0 ≡ get_or t i 0
  pub above : (i : ℕ) → hi ≤ i → get_or u i 0 ≡ get_or t i 0
