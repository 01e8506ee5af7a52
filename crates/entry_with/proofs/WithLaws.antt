-- The operations on decoded slices.
use mathlib.Core.Path.{◌≡◌}
use mathlib.Core.List.{List}
use Prim.Native.Nat.{ℕ}
use lib.IntN.{ℤ}
use Rattle.model.specs.Bitmap.{Bits}
use Rattle.model.specs.Column.{column, arguments}
use Rattle.model.specs.Limits.{narrow}
use Rattle.model.specs.Outcome.{list_outcome}
use Rattle.model.specs.Contract.{room}
use Rattle.ops.specs.Ops.{call_of}
use Rattle.ops.specs.declared.ListOp.{ListOp}

pub with_decoded : (k : ListOp) (r e f g h : Bits) (lr le : ℕ) {o o' v v' x x' y y' z z' : List ℤ} {lo lo' lv lv' : ℕ} → o ≡ o' → v ≡ v' → x ≡ x' → y ≡ y' → z ≡ z' → lo ≡ lo' → lv ≡ lv'
    → list_outcome narrow (call_of k (column o' r v' e) (arguments x' f) (arguments y' g) (arguments z' h)) (room lo' lr lv' le) ≡ list_outcome narrow (call_of k (column o r v e) (arguments x f) (arguments y g) (arguments z h)) (room lo lr lv le)
with_decoded k r e f g h lr le p q a b d s t = rw (p, q, a, b, d, s, t)
