-- How a clause names what a ListView column holds, and what reading one asks: a `requires` says `view_in v`, an `ensures` says `view_in v.entry`.
use Rattle.std.specs.Prelude.{ℕ, ◌+◌, ◌<◌, ◌≤◌, ◌≡◌, List, ltb, length, Option, None, Some}
use Rattle.model.specs.Basics.{pick}
use Rattle.model.specs.Column.{Row, offset_at}
use Rattle.model.specs.Contract.{view_room}
use Rattle.model.specs.Form.{flat}
use Rattle.model.specs.View.{View, ViewRoom, view, size_at}
use Rattle.bitmap.specs.Push.{Covers}
use Rattle.bitmap.specs.Reads.{bits_in}
use Rattle.view_checks.specs.declared.ViewColumn.{ViewColumn}
use Rattle.view_checks.specs.declared.ViewOutput.{ViewOutput}

abbrev pub view_in : ViewColumn → View
view_in v = view v.offsets.now v.sizes.now (bits_in v.rows) v.elements.values.now (bits_in v.elements.bits)

-- the lengths of the slices
abbrev pub view_room_in : ViewOutput → ViewRoom
view_room_in o = view_room (length o.offsets.now) (length o.sizes.now) (length o.rows.now) (length o.elements.now.values.now) (length o.elements.now.bits.now)

-- a view that refusals 13, 2, 3 and 11 don't apply to
pub record ReadableView (c : View) : Type 0 where
  pub many : length c.sizes ≡ length c.offsets
  pub inside : (r : ℕ) → r < length c.offsets → offset_at c.offsets r + size_at c r ≤ length c.values
  pub rows : Covers c.rows (length c.offsets)
  pub elements : Covers c.elements (length c.values)

-- the number of elements of the rows, unless they are more than top
abbrev pub counted_within : ℕ → List Row → Option ℕ
counted_within top ws = pick (ltb top (length (flat ws))) None (Some (length (flat ws)))
