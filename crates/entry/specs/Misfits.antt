-- An entry's own refusals in the code's types, and what the sizes of slices come to.
use Rattle.std.specs.Prelude.{ℕ, ◌≡◌, List, Result, Ok, Err}
use Rattle.model.specs.Basics.{any}
use Rattle.entry.specs.Entry.{Numbers, outsize, ragged}
use Rattle.entry.specs.declared.sizes.Misfit.{Misfit}
use Rattle.entry.specs.declared.sizes.Misfit.TheVariants.{Ragged, Outsize, NoSuchOperation}
use Rattle.entry.specs.declared.sizes.Sizes.{Sizes}

-- what the entry returns of each
abbrev pub number_of_misfit : Misfit → ℕ
number_of_misfit Ragged = 100
number_of_misfit Outsize = 101
number_of_misfit NoSuchOperation = 102

-- the number of the refusal, 0 where there is none
abbrev pub misfit_by : {A : Type 0} → Result A Misfit → ℕ
misfit_by (Ok x) = 0
misfit_by (Err k) = number_of_misfit k

-- the sizes ss come to s
pub record Tested (ss : List Numbers) (s : Sizes) : Type 0 where
  pub ragged : s.is_ragged ≡ any ragged ss
  pub outsize : s.is_outsize ≡ any outsize ss
