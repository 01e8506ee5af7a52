-- Operation codes: what each names; and the four numbers of a step.
use Rattle.std.specs.Prelude.{ℕ, Bool, true, false, List, [], ◌∷◌, map, get_or, Option, Some, None}
use Rattle.model.specs.Recipe.{Step}
use Rattle.model.specs.declared.Unary.TheVariants as U
use Rattle.model.specs.declared.SetOp.TheVariants as T
use Rattle.ops.specs.Ops.{takes_of}
use Rattle.ops.specs.declared.ListOp.TheVariants as L
use Rattle.codes.specs.declared.Operation.{Operation}
use Rattle.codes.specs.declared.Operation.TheVariants as S
use Rattle.codes.specs.declared.Step as D

-- how a clause names a step
abbrev pub step_in : D.Step → Step
step_in s = record { code = s.code; first = s.first; second = s.second; third = s.third }

-- "Codes: 0 reverse, 1 distinct, 2 pop front, 3 pop back, 4 slice (from, to, stride), 5 slice without stride, 6 resize (count, fill),
-- 7 replace (from, to, limit), 8 remove (element, limit), 9 union, 10 intersect."
abbrev pub operations : List Operation
operations =
    S.One (L.Plain U.Reverse)
    ∷ S.One (L.Plain U.Distinct)
    ∷ S.One (L.Plain U.PopFront)
    ∷ S.One (L.Plain U.PopBack)
    ∷ S.One L.SliceBy
    ∷ S.One L.Slice
    ∷ S.One L.ResizeWith
    ∷ S.One L.Replace
    ∷ S.One L.Remove
    ∷ S.Two T.Union
    ∷ S.Two T.Intersect
    ∷ []

unfoldable pub operation_of : ℕ → Option Operation
operation_of code = get_or (map Some operations) code None

unfoldable pub is_none : Option Operation → Bool
is_none (Some o) = false
is_none None = true

-- how many argument columns an operation takes
unfoldable pub columns_taken : Option Operation → ℕ
columns_taken (Some (S.One op)) = takes_of op
columns_taken (Some (S.Two op)) = 0
columns_taken None = 0
