-- Laws of the operations by their codes.
use mathlib.Core.Path.{◌≡◌}
use Rattle.std.specs.Prelude.{Option, Some, None}
use Prim.Native.Nat.{ℕ}
use borrow.Author.Tests.{ne_eqb}
use Rattle.model.specs.Basics.{absent, given}
use Rattle.model.specs.Lengths.{list_lengths}
use Rattle.model.specs.Limits.{Limits, narrow}
use Rattle.model.specs.Column.{Column, Arguments}
use Rattle.model.specs.Rows.{unary, set_op_call, on_lent}
use Rattle.model.specs.Hash.{hashed_outcome}
use Rattle.model.specs.Hash as H
use Rattle.model.specs.Outcome.{list_outcome}
use Rattle.model.specs.declared.Unary.{Unary}
use Rattle.model.specs.declared.SetOp.{SetOp}
use Rattle.ops.specs.Ops.{call_of}
use Rattle.ops.specs.declared.ListOp.{ListOp}
use Rattle.codes.specs.Codes.{operation_of}
use Rattle.codes.specs.declared.Operation.{Operation}
use Rattle.codes.specs.declared.Operation.TheVariants as S
use Rattle.entry_codes.specs.Calls.{lent_of, unary_of, unary_call, set_of, set_call, hashed_call, with_of, with_call, one_of, one_call, one_lengths, set_lengths}

-- r is what the code found: the operation, or none
module _ (op : ℕ) {r : Option Unary} (c : Column) (e : lent_of r ≡ unary_of op) where
  pub no_code : r ≡ None → unary_call op c ≡ absent
  unfolding unary_call on_lent lent_of
  no_code h = rw (← e, h)

  pub code : {u : Unary} → r ≡ Some u → unary_call op c ≡ given (list_outcome narrow (unary u c))
  unfolding unary_call on_lent lent_of
  code h = rw (← e, h)

module _ (op : ℕ) {r : Option ListOp} (c : Column) (x y z : Arguments) (e : lent_of r ≡ with_of op) where
  pub no_with_code : r ≡ None → with_call op c x y z ≡ absent
  unfolding with_call on_lent lent_of
  no_with_code h = rw (← e, h)

  pub with_code : {k : ListOp} → r ≡ Some k → with_call op c x y z ≡ given (list_outcome narrow (call_of k c x y z))
  unfolding with_call on_lent lent_of
  with_code h = rw (← e, h)

module _ (N : Limits) (op : ℕ) {r : Option ListOp} (c : Column) (x y z : Arguments) (e : lent_of r ≡ one_of op) where
  pub no_list-code : r ≡ None → one_call N op c x y z ≡ absent
  unfolding one_call on_lent lent_of
  no_list-code h = rw (← e, h)

  pub list_code : {k : ListOp} → r ≡ Some k → one_call N op c x y z ≡ given (list_outcome N (call_of k c x y z))
  unfolding one_call on_lent lent_of
  list_code h = rw (← e, h)

  pub no_list-lengths : r ≡ None → one_lengths N op c x y z ≡ absent
  unfolding one_lengths on_lent lent_of
  no_list-lengths h = rw (← e, h)

  pub list-lengths : {k : ListOp} → r ≡ Some k → one_lengths N op c x y z ≡ given (list_lengths N (call_of k c x y z))
  unfolding one_lengths on_lent lent_of
  list-lengths h = rw (← e, h)

module _ (N : Limits) (op : ℕ) {r : Option SetOp} (c d : Column) (e : lent_of r ≡ set_of op) where
  pub no_set-code : r ≡ None → set_call N op c d ≡ absent
  unfolding set_call on_lent lent_of
  no_set-code h = rw (← e, h)

  pub set_code : {k : SetOp} → r ≡ Some k → set_call N op c d ≡ given (list_outcome N (set_op_call k c d))
  unfolding set_call on_lent lent_of
  set_code h = rw (← e, h)

  pub no_set-lengths : r ≡ None → set_lengths N op c d ≡ absent
  unfolding set_lengths on_lent lent_of
  no_set-lengths h = rw (← e, h)

  pub set-lengths : {k : SetOp} → r ≡ Some k → set_lengths N op c d ≡ given (list_lengths N (set_op_call k c d))
  unfolding set_lengths on_lent lent_of
  set-lengths h = rw (← e, h)

module _ (op : ℕ) {r : Option SetOp} (c d : Column) (n : ℕ) (e : lent_of r ≡ set_of op) where
  pub no_hashed : r ≡ None → hashed_call op c d n ≡ absent
  unfolding hashed_call on_lent lent_of
  no_hashed h = rw (← e, h)

  pub hashed-code : {k : SetOp} → r ≡ Some k → hashed_call op c d n ≡ given (hashed_outcome narrow (H.set_of k c d) n)
  unfolding hashed_call on_lent lent_of
  hashed-code h = rw (← e, h)
