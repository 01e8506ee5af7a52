-- Laws of an entry's outcome: the code, the sizes, and then the operation on decoded slices.
use mathlib.Core.Path.{◌≡◌, refl}
use mathlib.Core.List.{List}
use Prim.Native.Nat.{ℕ}
use borrow.Author.Tests.{ne_eqb}
use lib.IntN.{ℤ}
use Rattle.model.specs.Basics.{Lent, absent, given}
use Rattle.model.specs.Bitmap.{Bits}
use Rattle.model.specs.Column.{Elem, Row, column, arguments}
use Rattle.model.specs.Limits.{narrow}
use Rattle.model.specs.Rows.{unary, set_op_call}
use Rattle.model.specs.Outcome.{Outcome, refused, gate, list_outcome, any_value_outcome, element_outcome}
use Rattle.model.specs.Call.{written}
use Rattle.model.specs.Contract.{room, value_room}
use Rattle.model.specs.declared.Unary.{Unary}
use Rattle.model.specs.declared.SetOp.{SetOp}
use Rattle.model.proofs.OutcomeLaws.{gate_open}
use Rattle.entry.specs.Entry.{ListReturns, ValueReturns, entered, number_of}

-- ---- no operation, a refusal of the sizes, or the operation

module _ {A L : Type 0} {f : Lent (L → Outcome A)} (k : ℕ) (l : L) where
  pub no_operation : f ≡ absent → entered f k l ≡ refused 102
  unfolding entered
  no_operation h = rw h

  -- r is what the code found k to be
  pub size-refused : {g : L → Outcome A} {r : ℕ} → f ≡ given g → r ≡ k → (r ≡ 0 → ⊥) → entered f k l ≡ refused r
  unfolding entered gate
  size-refused h e n = rw (h, ← e, ne_eqb _ 0 n)

  pub called : {g : L → Outcome A} {r : ℕ} → f ≡ given g → r ≡ k → r ≡ 0 → entered f k l ≡ g l
  unfolding entered
  called {g} h e z = rw (h, ← e) (gate_open _ (g l) z)

-- ---- the operations on decoded slices

module _ (r e : Bits) (lr : ℕ) {o o' v v' : List ℤ} {lv lv' : ℕ} (p : o ≡ o') (q : v ≡ v') (t : lv ≡ lv') where
  pub unary_decoded : (u : Unary) (le : ℕ) {lo lo' : ℕ} → lo ≡ lo' → list_outcome narrow (unary u (column o' r v' e)) (room lo' lr lv' le) ≡ list_outcome narrow (unary u (column o r v e)) (room lo lr lv le)
  unary_decoded u le s = rw (p, q, s, t)

  pub set_decoded : (u : SetOp) (le : ℕ) {lo lo' : ℕ} (s f : Bits) {x x' w w' : List ℤ} → x ≡ x' → w ≡ w' → lo ≡ lo'
      → list_outcome narrow (set_op_call u (column o' r v' e) (column x' s w' f)) (room lo' lr lv' le) ≡ list_outcome narrow (set_op_call u (column o r v e) (column x s w f)) (room lo lr lv le)
  set_decoded u le s f hx hw hl = rw (p, q, t, hx, hw, hl)

  pub any_value_decoded : any_value_outcome (column o' r v' e) (value_room lv' lr) ≡ any_value_outcome (column o r v e) (value_room lv lr)
  any_value_decoded = rw (p, q, t)

  pub element_decoded : (b : Bits) {i i' : List ℤ} → i ≡ i' → element_outcome narrow (column o' r v' e) (arguments i' b) (value_room lv' lr) ≡ element_outcome narrow (column o r v e) (arguments i b) (value_room lv lr)
  element_decoded b s = rw (p, q, s, t)

-- ---- what is returned

pub list-refused : {x : Outcome (List Row)} (k : ℕ) {o r v e c : List ℕ} → x ≡ refused k → ListReturns x k o o r r v v e e c c
unfolding number_of written
list-refused k q = rw q (record { number = refl; offsets = refl; rows = refl; values = refl; elements = refl; counts = refl })

pub list_as : {x y : Outcome (List Row)} {n : ℕ} {o o' r r' v v' e e' c c' : List ℕ} → y ≡ x → ListReturns x n o o' r r' v v' e e' c c' → ListReturns y n o o' r r' v v' e e' c c'
list_as h m = rw h m

pub value_refused : {x : Outcome (List Elem)} (k : ℕ) {v r c : List ℕ} → x ≡ refused k → ValueReturns x k v v r r c c
unfolding number_of written
value_refused k q = rw q (record { number = refl; values = refl; rows = refl; counts = refl })

pub value_as : {x y : Outcome (List Elem)} {n : ℕ} {v v' r r' c c' : List ℕ} → y ≡ x → ValueReturns x n v v' r r' c c' → ValueReturns y n v v' r r' c c'
value_as h m = rw h m
