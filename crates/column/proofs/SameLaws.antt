-- Outputs that are the same slices as before: what is written into them, and one writing after another.
use mathlib.Core.Path.{◌≡◌, refl, ◌∙◌}
use mathlib.Core.List.{List}
use Prim.Native.Nat.{ℕ}
use lib.IntN.{ℤ}
use Rattle.model.specs.Column.{Elem, Row}
use Rattle.column.specs.Put.{Writesˡ, FillsValuesˡ, Fillsˡ}
use Rattle.column.specs.Rows.{WritesRowˡ}
use Rattle.column.specs.Outputs.{Writes, WritesRow, Fills, FillsValues, SameValues, SameLists, SameOuters}
use Rattle.column.specs.declared.elements.ValueOutput.{ValueOutput}
use Rattle.column.specs.declared.lists.ListOutput.{ListOutput}
use Rattle.column.specs.declared.lists.OuterOutput.{OuterOutput}

pub wrote : {es : List Elem} {k : ℕ} {o o' : ValueOutput} {r : ℕ} → Writesˡ es k o.values.now o'.values.now o.bits.now o'.bits.now r → o'.values.ghost_name ≡ o.values.ghost_name → o'.bits.ghost_name ≡ o.bits.ghost_name → Writes es k o o' r
wrote w v b = record { written = w; same = record { values = v; bits = b } }

pub filled_values : {es : List Elem} {o o' : ValueOutput} → FillsValuesˡ es o.values.now o'.values.now o.bits.now o'.bits.now → o'.values.ghost_name ≡ o.values.ghost_name → o'.bits.ghost_name ≡ o.bits.ghost_name → FillsValues es o o'
filled_values w v b = record { filled = w; same = record { values = v; bits = b } }

-- the same after two writings
pub values_on : {o p q : ValueOutput} → SameValues o p → SameValues p q → SameValues o q
values_on a b = record { values = b.values ∙ a.values; bits = b.bits ∙ a.bits }

pub lists_on : {A : Type 0} {o p q : ListOutput A} → SameLists o p → SameLists p q → SameLists o q
lists_on a b = record { offsets = b.offsets ∙ a.offsets; rows = b.rows ∙ a.rows; elements = b.elements ∙ a.elements; values = b.values ∙ a.values; bits = b.bits ∙ a.bits }

pub outers_on : {A : Type 0} {o p q : OuterOutput A} → SameOuters o p → SameOuters p q → SameOuters o q
outers_on a b = record { offsets = b.offsets ∙ a.offsets; rows = b.rows ∙ a.rows }
