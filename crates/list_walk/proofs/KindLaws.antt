-- What an operation makes, and how much, by its kind.
use Prim.Native.Nat.{ℕ}
use mathlib.Core.Path.{◌≡◌, refl, sym, ◌∙◌}
use mathlib.Core.Bool.{true, false}
use mathlib.Core.Logic.{◌⊎◌, inl, inr}
use lib.ListN.{length}
use Rattle.model.specs.Column.{Column, Arguments, row_count}
use Rattle.model.specs.Form.{flat}
use Rattle.model.specs.Limits.{Limits}
use Rattle.model.specs.declared.Unary.{Unary}
use Rattle.model.proofs.BoolLaws.{never_true}
use Rattle.ops.specs.Ops.{is_resize, is_slice, table}
use Rattle.ops.specs.declared.ListOp.{ListOp}
use Rattle.ops.specs.declared.ListOp.TheVariants as L
use Rattle.arguments.specs.Taken.{Served}
use Rattle.sums.specs.Sums.{resize_measure}
use Rattle.model.specs.Outcome.{Outcome, made}
use Rattle.made_rows.specs.Made.{call_rows, rows_measure, call_measure}
use Rattle.plain_walk.specs.Plain.{plain_rows}
use Rattle.plain_walk.proofs.PlainLaws.{plain-any, plain_measure}
use Rattle.match_rows.specs.Limits.{none}
use Rattle.match_rows.proofs.MatchLaws.{third-served, third-rows, replace-measured, remove-measured}

-- ---- which kind an operation is of

pub is_slice_lem : (op : ListOp) → (op ≡ L.Slice) ⊎ (op ≡ L.SliceBy) → is_slice op ≡ true
unfolding is_slice
is_slice_lem op (inl e) = rw e
is_slice_lem op (inr e) = rw e

pub is_resize_lem : (op : ListOp) → (op ≡ L.Resize) ⊎ (op ≡ L.ResizeWith) → is_resize op ≡ true
unfolding table
is_resize_lem op (inl e) = rw e
is_resize_lem op (inr e) = rw e

no_resize : (op : ListOp) → is_slice op ≡ true → is_resize op ≡ false
unfolding is_slice table
no_resize (L.Plain u) e = never_true (sym e)
no_resize L.Slice e = refl
no_resize L.SliceBy e = refl
no_resize L.Resize e = never_true (sym e)
no_resize L.ResizeWith e = never_true (sym e)
no_resize L.Replace e = never_true (sym e)
no_resize L.Remove e = never_true (sym e)

module _ (N : Limits) (op : ListOp) (c : Column) (x y z : Arguments) where
  -- ---- the rows

  pub plain_kind : (u : Unary) → op ≡ L.Plain u → call_rows N op c x y z ≡ plain_rows N u c
  plain_kind u e = rw e (plain-any N u c x y z)

  pub remove_kind : op ≡ L.Remove → call_rows N op c x y z ≡ call_rows N L.Remove c x y none
  remove_kind e = rw e (third-rows x y z none N c)

  -- ---- how much

  pub plain-total : (u : Unary) (m : ℕ) → op ≡ L.Plain u → m ≡ length (flat (plain_rows N u c)) → made m ≡ call_measure N op c x y z
  unfolding call_measure table
  plain-total u m e l = rw (e, l) (sym (plain_measure N u c x y z))

  pub slice-total : {m : Outcome ℕ} → is_slice op ≡ true → m ≡ rows_measure N op c x y z → m ≡ call_measure N op c x y z
  unfolding call_measure
  slice-total e h = rw (no_resize op e) h

  pub resize-total : {m : Outcome ℕ} → is_resize op ≡ true → m ≡ resize_measure N c.rows x (row_count c.offsets) → m ≡ call_measure N op c x y z
  unfolding call_measure
  resize-total e h = rw e h

  pub replace-total : (m : ℕ) → op ≡ L.Replace → m ≡ length (flat (call_rows N L.Replace c x y z)) → made m ≡ call_measure N op c x y z
  unfolding call_measure table
  replace-total m e l = rw (e, l) (sym (replace-measured N c x y z))

  pub remove-total : (m : ℕ) → op ≡ L.Remove → m ≡ length (flat (call_rows N L.Remove c x y none)) → made m ≡ call_measure N op c x y z
  unfolding call_measure table
  remove-total m e l = rw (e, l) (sym (remove-measured N c x y z ∙ rw (third-rows x y z none N c)))

-- ---- the arguments that are taken

pub remove_takes : {op : ListOp} {n : ℕ} {x y z : Arguments} → op ≡ L.Remove → Served op n x y z → Served L.Remove n x y none
remove_takes {x = x} {y = y} {z = z} e s = third-served x y z none (rw e at s)
