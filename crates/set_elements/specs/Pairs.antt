-- A search among values, and what a walk over one row of a pair keeps.
use Rattle.std.specs.Prelude.{ℕ, ◌+◌, Bool, not, ◌&&◌, List, [], ◌∷◌, ◌++◌, ℤ, pos, get_or}
use Rattle.model.specs.Basics.{pick, tab}
use Rattle.model.specs.Column.{Elem, val}
use Rattle.model.specs.Elements.{is_in}

-- the values of a column without nulls, as elements
abbrev pub plain : List ℤ → ℕ → Elem
plain vs i = val (get_or vs i (pos 0))

-- is a value one of the k values from value a on
abbrev pub has_value : ℤ → List ℤ → ℕ → ℕ → Bool
has_value v vs a k = is_in (val v) (tab (plain vs) a k)

-- an element that was not seen before, and that is among the others where shared ones are wanted, and is not where new ones are
unfoldable pub keeps : Bool → List Elem → List Elem → Elem → Bool
keeps shared others seen e = not (is_in e seen) && pick shared (is_in e others) (not (is_in e others))

unfoldable pub kept : Bool → List Elem → List Elem → List Elem → List Elem
kept shared others seen [] = []
kept shared others seen (e ∷ es) = pick (keeps shared others seen e) (e ∷ kept shared others (seen ++ (e ∷ [])) es) (kept shared others (seen ++ (e ∷ [])) es)
