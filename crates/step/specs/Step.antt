-- One step of a recipe: what it does, the rows that it takes, and the column that a tray holds at its front.
use Rattle.std.specs.Prelude.{ℕ, ◌≡◌, List, eqb, ℤ, length, Option, Some, None}
use Rattle.model.specs.Basics.{pick}
use Rattle.model.specs.Column.{Elem, Row, Column, Arguments, row_count, rows_of}
use Rattle.model.specs.Recipe.{Step}
use Rattle.model.specs.Rows.{ListCall, unary, set_op_call}
use Rattle.model.specs.declared.Unary.TheVariants.{Reverse}
use Rattle.bitmap.specs.Push.{Covers}
use Rattle.column.specs.Front.{front, AtFront}
use Rattle.column.specs.Put.{Readable}
use Rattle.column.specs.declared.lists.ListOutput.{ListOutput}
use Rattle.ops.specs.Ops.{call_of}
use Rattle.one_list.specs.Uses.{Uses}
use Rattle.codes.specs.Codes.{operation_of}
use Rattle.codes.specs.declared.Operation.{Operation}
use Rattle.codes.specs.declared.Operation.TheVariants as S

-- the call that it makes of the carried rows, the second list's rows and three argument columns (a code that names none is refused before)
unfoldable pub op_call : Option Operation → List Row → List Row → List Elem → List Elem → List Elem → ListCall (List Row) (List Elem)
op_call (Some (S.One op)) ws rs a b c = call_of op ws a b c
op_call (Some (S.Two op)) ws rs a b c = set_op_call op ws rs
op_call None ws rs a b c = unary Reverse ws

-- the column at the front of a tray: n rows of m elements; numbers are those of its offsets
abbrev pub front_in : {A : Type 0} → (List A → List ℤ) → ℕ → ℕ → ListOutput A → Column
front_in numbers n m t = front (numbers t.offsets.now) t.rows.now t.elements.now.values.now t.elements.now.bits.now n m

-- a step has an operation, and the columns that it uses are there
unfoldable pub op_uses : Option Operation → Step → ℕ → ℕ → ℕ → Type 0
op_uses (Some (S.One op)) s pitch n len = Uses op pitch n s.first s.second s.third len
op_uses (Some (S.Two op)) s pitch n len = Unit
op_uses None s pitch n len = ⊥

pub record StepFits (s : Step) (pitch n len : ℕ) : Type 0 where
  pub uses : op_uses (operation_of s.code) s pitch n len

-- what a call brings beside the carried rows: a second list of n rows, and arguments
pub record Beside (n : ℕ) (d : Column) (a : Arguments) : Type 0 where
  pub second : Readable d
  pub rows : row_count d.offsets ≡ n
  pub bits : Covers a.bits (length a.values)

-- the rows that step k takes: the list's if it is the first, else those at the front of a tray
unfoldable pub rows_taken : ℕ → Column → Column → List Row
rows_taken k list tray = pick (eqb k 0) (rows_of list) (rows_of tray)

-- step k takes n rows, and can read them
pub record Taken (k n m : ℕ) (list : Column) (o : List ℤ) (r : List ℕ) (v : List ℤ) (e : List ℕ) : Type 0 where
  pub first : k ≡ 0 → Readable list
  pub rows : k ≡ 0 → row_count list.offsets ≡ n
  pub later : (k ≡ 0 → ⊥) → AtFront n m o r v e

-- the same, said of a tray
abbrev pub TakenIn : {A : Type 0} → (List A → List ℤ) → ℕ → ℕ → ℕ → Column → ListOutput A → Type 0
TakenIn numbers k n m list t = Taken k n m list (numbers t.offsets.now) t.rows.now t.elements.now.values.now t.elements.now.bits.now
