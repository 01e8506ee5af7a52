-- Calls at either width that hand on one tally.
use Rattle.std.specs.Prelude.{ℕ, ◌≡◌, List, [], ◌∷◌}
use Rattle.model.specs.Basics.{given}
use Rattle.model.specs.Column.{Column, Arguments}
use Rattle.model.specs.View.{View}
use Rattle.model.specs.Limits.{Limits}
use Rattle.model.specs.Tally.{Tally, Move}
use Rattle.model.specs.Call.{Call, end, tally_taken, move_in, finished_by, refused_by}

-- a call, and the limits of its width
pub record Sized : Type 0 where
  pub limits : Limits
  pub call : Call Column Arguments View

-- "each call takes the tally the last one gave": the first takes t, the last gives u
pub data Handed : Tally → List Sized → Tally → Type 0 where
  last : {t : Tally} → Handed t [] t
  next : {p : Sized} {ps : List Sized} {t t' u : Tally} → tally_taken p.call ≡ given t → (end p.limits p.call).tally ≡ given t' → Handed t' ps u → Handed t (p ∷ ps) u

abbrev pub move_of : Sized → Move
move_of p = move_in p.limits p.call

-- 1 for a call that was accepted, and for one that was refused
abbrev pub finished_in : Sized → ℕ
finished_in p = finished_by p.limits p.call

abbrev pub refused_in : Sized → ℕ
refused_in p = refused_by p.limits p.call
