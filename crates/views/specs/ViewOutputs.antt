-- What writing a view asks and does, said of its output: a `requires` speaks of it as it is then, `out.old`, an `ensures` of it at entry and at
-- exit, `out.old` and `out.new`.
use Rattle.std.specs.Prelude.{ℕ, ◌≤◌, ◌≡◌, List, ℤ, length}
use Rattle.model.specs.Answers.{ListAnswer}
use Rattle.model.specs.Bitmap.{bytes_for}
use Rattle.model.specs.Column.{Row}
use Rattle.model.specs.Contract.{ViewMeets}
use Rattle.model.specs.Form.{flat, over, form_rows, form_values, form_elements}
use Rattle.model.specs.Outcome.{Outcome}
use Rattle.model.specs.View.{ViewRoom, view_offsets, view_sizes}
use Rattle.view_checks.specs.Views.{view_room_in}
use Rattle.view_checks.specs.declared.ViewOutput.{ViewOutput}

-- the numbers of 32-bit offsets
abbrev pub itself : List ℤ → List ℤ
itself l = l

-- room in outputs of these lengths for n rows and k elements
pub record ViewRoomInˡ (n k lo ls lr lv le : ℕ) : Type 0 where
  pub offsets : n ≤ lo
  pub sizes : n ≤ ls
  pub rows : bytes_for n ≤ lr
  pub values : k ≤ lv
  pub elements : bytes_for k ≤ le

-- the outputs hold the rows ws as a view, over what was there before
pub record FillsViewˡ (ws : List Row) (oo oo' so so' : List ℤ) (ro ro' : List ℕ) (vo vo' : List ℤ) (eo eo' : List ℕ) : Type 0 where
  pub offsets : oo' ≡ over (view_offsets ws) oo
  pub sizes : so' ≡ over (view_sizes ws) so
  pub rows : ro' ≡ over (form_rows ws) ro
  pub values : vo' ≡ over (form_values (flat ws)) vo
  pub elements : eo' ≡ over (form_elements (flat ws)) eo

-- the slices are those that they were, whatever they hold
pub record SameViews (o o' : ViewOutput) : Type 0 where
  pub offsets : o'.offsets.ghost_name ≡ o.offsets.ghost_name
  pub sizes : o'.sizes.ghost_name ≡ o.sizes.ghost_name
  pub rows : o'.rows.ghost_name ≡ o.rows.ghost_name
  pub elements : o'.elements.ghost_name ≡ o.elements.ghost_name
  pub values : o'.elements.now.values.ghost_name ≡ o.elements.now.values.ghost_name
  pub bits : o'.elements.now.bits.ghost_name ≡ o.elements.now.bits.ghost_name

-- there is room for n rows and k elements
abbrev pub ViewRoomFor : ℕ → ℕ → ViewOutput → Type 0
ViewRoomFor n k o = ViewRoomInˡ n k (length o.offsets.now) (length o.sizes.now) (length o.rows.now) (length o.elements.now.values.now) (length o.elements.now.bits.now)

-- the rows ws are written as a view, over what was there
pub record FillsView (ws : List Row) (o o' : ViewOutput) : Type 0 where
  pub filled : FillsViewˡ ws o.offsets.now o'.offsets.now o.sizes.now o'.sizes.now o.rows.now o'.rows.now o.elements.now.values.now o'.elements.now.values.now o.elements.now.bits.now o'.elements.now.bits.now
  pub same : SameViews o o'

-- the contract of export: the answer and the outputs are what f gives for the lengths lent
pub record ViewAnswers (f : ViewRoom → Outcome (List Row)) (a : ListAnswer) (o o' : ViewOutput) : Type 0 where
  pub meets : ViewMeets (f (view_room_in o)) a o.offsets.now o'.offsets.now o.sizes.now o'.sizes.now o.rows.now o'.rows.now o.elements.now.values.now o'.elements.now.values.now o.elements.now.bits.now o'.elements.now.bits.now
  pub same : SameViews o o'
