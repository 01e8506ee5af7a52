-- The operations of each C entry, by the table of codes (codes, specs/Codes.antt).
use Rattle.std.specs.Prelude.{ℕ, List, eqb, Option, Some, None}
use Rattle.model.specs.Basics.{pick, Lent, absent, given}
use Rattle.model.specs.Limits.{Limits, narrow}
use Rattle.model.specs.Column.{Row, Column, Arguments}
use Rattle.model.specs.Form.{Room}
use Rattle.model.specs.Lengths.{list_lengths}
use Rattle.model.specs.Rows.{unary, set_op_call, on_lent}
use Rattle.model.specs.Hash.{hashed_outcome}
use Rattle.model.specs.Hash as H
use Rattle.model.specs.Outcome.{Outcome, list_outcome}
use Rattle.model.specs.declared.Unary.{Unary}
use Rattle.model.specs.declared.SetOp.{SetOp}
use Rattle.ops.specs.Ops.{call_of}
use Rattle.ops.specs.declared.ListOp.{ListOp}
use Rattle.ops.specs.declared.ListOp.TheVariants as L
use Rattle.codes.specs.Codes.{operation_of}
use Rattle.codes.specs.declared.Operation.{Operation}
use Rattle.codes.specs.declared.Operation.TheVariants as S

-- ---- what the code holds, as the definitions do

unfoldable pub lent_of : {A : Type 0} → Option A → Lent A
lent_of (Some x) = given x
lent_of None = absent

-- ---- one list, without argument columns

unfoldable pub plain_of : ListOp → Lent Unary
plain_of (L.Plain u) = given u
plain_of L.Slice = absent
plain_of L.SliceBy = absent
plain_of L.Resize = absent
plain_of L.ResizeWith = absent
plain_of L.Replace = absent
plain_of L.Remove = absent

unfoldable pub plain_in : Option Operation → Lent Unary
plain_in (Some (S.One k)) = plain_of k
plain_in (Some (S.Two k)) = absent
plain_in None = absent

unfoldable pub unary_of : ℕ → Lent Unary
unary_of op = plain_in (operation_of op)

-- an operation on one list by its code
unfoldable pub unary_call : ℕ → Column → Lent (Room → Outcome (List Row))
unary_call op c = on_lent (λ k. list_outcome narrow (unary k c)) (unary_of op)

-- ---- two lists

unfoldable pub set_in : Option Operation → Lent SetOp
set_in (Some (S.One k)) = absent
set_in (Some (S.Two k)) = given k
set_in None = absent

unfoldable pub set_of : ℕ → Lent SetOp
set_of op = set_in (operation_of op)

unfoldable pub set_call : Limits → ℕ → Column → Column → Lent (Room → Outcome (List Row))
set_call N op c d = on_lent (λ k. list_outcome N (set_op_call k c d)) (set_of op)

unfoldable pub set_lengths : Limits → ℕ → Column → Column → Lent (Outcome Room)
set_lengths N op c d = on_lent (λ k. list_lengths N (set_op_call k c d)) (set_of op)

-- with a work area of n slots
unfoldable pub hashed_call : ℕ → Column → Column → ℕ → Lent (Room → Outcome (List Row))
hashed_call op c d n = on_lent (λ k. hashed_outcome narrow (H.set_of k c d) n) (set_of op)

-- ---- one list, with argument columns or without

unfoldable pub one_in : Option Operation → Lent ListOp
one_in (Some (S.One k)) = given k
one_in (Some (S.Two k)) = absent
one_in None = absent

-- 11 is the entries' own, resize without fill
unfoldable pub one_of : ℕ → Lent ListOp
one_of op = pick (eqb op 11) (given L.Resize) (one_in (operation_of op))

-- an operation by its code, of a list and of three argument columns, of which it looks at those that it takes
unfoldable pub one_call : Limits → ℕ → Column → Arguments → Arguments → Arguments → Lent (Room → Outcome (List Row))
one_call N op c x y z = on_lent (λ k. list_outcome N (call_of k c x y z)) (one_of op)

-- how much to lend for it
unfoldable pub one_lengths : Limits → ℕ → Column → Arguments → Arguments → Arguments → Lent (Outcome Room)
one_lengths N op c x y z = on_lent (λ k. list_lengths N (call_of k c x y z)) (one_of op)

-- ---- one list, with argument columns

unfoldable pub taking_of : ListOp → Lent ListOp
taking_of (L.Plain u) = absent
taking_of L.Slice = given L.Slice
taking_of L.SliceBy = given L.SliceBy
taking_of L.Resize = given L.Resize
taking_of L.ResizeWith = given L.ResizeWith
taking_of L.Replace = given L.Replace
taking_of L.Remove = given L.Remove

unfoldable pub taking_in : Lent ListOp → Lent ListOp
taking_in (given k) = taking_of k
taking_in absent = absent

unfoldable pub with_of : ℕ → Lent ListOp
with_of op = taking_in (one_of op)

unfoldable pub with_call : ℕ → Column → Arguments → Arguments → Arguments → Lent (Room → Outcome (List Row))
with_call op c x y z = on_lent (λ k. list_outcome narrow (call_of k c x y z)) (with_of op)
