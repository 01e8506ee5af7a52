-- What the elements of a row become, operation by operation.
use Rattle.std.specs.Prelude.{ℕ, zero, suc, ◌+◌, ◌-◌, Bool, true, false, ◌&&◌, ◌||◌, List, [], ◌∷◌, ◌++◌, reverse, length, take, drop, get_or, replicate, ℤ, pos, negsuc, ltb, eqb}
use Rattle.model.specs.Basics.{pick}
use Rattle.model.specs.Column.{Elem, nul, val}
use Rattle.model.specs.declared.Unary.{Unary}
use Rattle.model.specs.declared.Unary.TheVariants.{Reverse, Distinct, PopFront, PopBack}
use Rattle.model.specs.declared.SetOp.{SetOp}
use Rattle.model.specs.declared.SetOp.TheVariants.{Union, Intersect}

unfoldable pub eq_z : ℤ → ℤ → Bool
eq_z (pos a) (pos b) = eqb a b
eq_z (pos a) (negsuc b) = false
eq_z (negsuc a) (pos b) = false
eq_z (negsuc a) (negsuc b) = eqb a b

-- "null equals null", "null matches null"
unfoldable pub same_elem : Elem → Elem → Bool
same_elem nul nul = true
same_elem nul (val b) = false
same_elem (val a) nul = false
same_elem (val a) (val b) = eq_z a b

unfoldable pub is_in : Elem → List Elem → Bool
is_in e [] = false
is_in e (f ∷ fs) = same_elem e f || is_in e fs

-- those of the elements that are not among the ones before them
unfoldable pub firsts : List Elem → List Elem → List Elem
firsts seen [] = []
firsts seen (e ∷ es) = pick (is_in e seen) (firsts (seen ++ (e ∷ [])) es) (e ∷ firsts (seen ++ (e ∷ [])) es)

-- "Distinct: first occurrences; null equals null."
abbrev pub distinct : List Elem → List Elem
distinct es = firsts [] es

-- "Pop front and back: the list without its first or last element."
unfoldable pub unary_elems : Unary → List Elem → List Elem
unary_elems Reverse es = reverse es
unary_elems Distinct es = distinct es
unary_elems PopFront es = drop 1 es
unary_elems PopBack es = take (length es - 1) es

-- those elements of the row walked that are among the others, in the order of the row walked
unfoldable pub common : List Elem → List Elem → List Elem
common others [] = []
common others (e ∷ walked) = pick (is_in e others) (e ∷ common others walked) (common others walked)

-- "Union: distinct of left then right. Intersect: the longer row is walked, the left one on equal lengths; each common value once."
unfoldable pub set_elems : SetOp → List Elem → List Elem → List Elem
set_elems Union l r = distinct (l ++ r)
set_elems Intersect l r = pick (ltb (length l) (length r)) (distinct (common l r)) (distinct (common r l))

-- "Resize: cut, or filled with the row's fill"
unfoldable pub resized : ℕ → Elem → List Elem → List Elem
resized n fill es = take n es ++ replicate (n - length es) fill

-- "Replace: the first n matches become to; null matches null"
unfoldable pub replaced : ℕ → Elem → Elem → List Elem → List Elem
replaced n f t [] = []
replaced n f t (e ∷ es) = pick (ltb 0 n && same_elem e f) (t ∷ replaced (n - 1) f t es) (e ∷ replaced n f t es)

-- "Remove: as replace"
unfoldable pub removed : ℕ → Elem → List Elem → List Elem
removed n f [] = []
removed n f (e ∷ es) = pick (ltb 0 n && same_elem e f) (removed (n - 1) f es) (e ∷ removed n f es)

-- "Element: 1 is first, −1 last; 0 or outside gives null"
unfoldable pub element_at : List Elem → ℤ → Elem
element_at es (pos zero) = nul
element_at es (pos (suc i)) = get_or es i nul
element_at es (negsuc i) = pick (ltb i (length es)) (get_or es (length es - (i + 1)) nul) nul

-- "Any-value: first valid element, else null."
unfoldable pub first_valid : List Elem → Elem
first_valid [] = nul
first_valid (nul ∷ es) = first_valid es
first_valid (val v ∷ es) = val v
