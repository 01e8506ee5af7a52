-- Laws of refusals that a call hands on.
use Rattle.std.specs.Prelude.{◌≡◌, ℕ, Result, Ok, Err}
use Rattle.std.specs.Result.{IsErr, IsErrAnd}
use Rattle.std.proofs.Common.{refl, sym, ap, arith}
use Rattle.std.proofs.lemmas.Result.{err_from_is_err_and}
use Rattle.model.specs.Answers.{number_of, refused_by}
use Rattle.model.specs.declared.Refusal.{Refusal}
use Rattle.model.specs.declared.Refusal.TheVariants.{BadOffsets, ShortBitmap, RowCountsDiffer, WideIndex, ZeroStride, WideStride, NegativeCount, TooMany, ShortOutput, MalformedRecipe, ViewOutside, ZeroRun, BadStartingBit, ShortArea, NoSuchStation, RowsOutside}

-- no refusal has the number 0
pub number_positive : (k : Refusal) → number_of k ≡ 0 → ⊥
number_positive k e = grind arith

-- what a `?` hands on is the refusal that it got
pub handed_on : {A : Type 0} (r : Result A Refusal) (k : Refusal) → IsErr r × IsErrAnd r (λ y. y ≡ k) → r ≡ Err k
handed_on r k h = let p = err_from_is_err_and r h.1 in rw (p.1, p.2)
