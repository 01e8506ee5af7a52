-- Values with what a null slot holds at the places of nulls.
use Rattle.std.specs.Prelude.{ℕ, suc, Bool, List, [], ◌∷◌, set, ℤ}
use Rattle.model.specs.Basics.{pick}
use Rattle.model.specs.Form.{under_null}

-- from place k on, what a null slot holds at each place whose bit is 0
unfoldable pub nulled : List ℤ → ℕ → List Bool → List ℤ
nulled d k [] = d
nulled d k (b ∷ bs) = nulled (pick b d (set d k under_null)) (suc k) bs
