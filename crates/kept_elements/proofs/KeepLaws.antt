-- Laws of the one element that a walk keeps or not, in the code's terms.
use mathlib.Core.Path.{◌≡◌}
use mathlib.Core.Bool.{Bool, true, false, not}
use mathlib.Core.List.{List}
use Rattle.model.specs.Column.{Elem}
use Rattle.model.specs.Elements.{is_in}
use Rattle.set_elements.specs.Pairs.{keeps}

module _ (shared : Bool) (others seen : List Elem) (e : Elem) {old : Bool} (o : old ≡ is_in e seen) where
  pub keeps_old : old ≡ true → false ≡ keeps shared others seen e
  unfolding keeps
  keeps_old h = rw (← o, h)

  module _ (h : old ≡ false) {found : Bool} (f : found ≡ is_in e others) where
    pub keeps_shared : shared ≡ true → found ≡ keeps shared others seen e
    unfolding keeps
    keeps_shared g = rw (← o, h, g, f)

    pub keeps_new : shared ≡ false → not found ≡ keeps shared others seen e
    unfolding keeps
    keeps_new g = rw (← o, h, g, f)
