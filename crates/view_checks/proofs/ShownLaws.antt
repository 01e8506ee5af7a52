-- Laws of the rows that a view shows: one row between two counts, how long it is, and how many elements there are in all.
use mathlib.Core.Path.{◌≡◌, refl, sym, ap, ◌∙◌}
use mathlib.Core.Bool.{Bool, true, false}
use Prim.Native.Nat.{ℕ, ◌+◌, ◌-◌, ◌≤◌, ◌<◌}
use native.Mathlib.Omega.{arith}
use borrow.Author.Tests.{lt-ltb, le-ltb}
use lib.ListN.{length}
use Rattle.std.specs.Prelude.{None, Some}
use Rattle.model.specs.Basics.{tab, pick}
use Rattle.model.specs.Bitmap.{valid_at}
use Rattle.model.specs.Column.{Elem, Row, null_row, list_row, offset_at, elem_at}
use Rattle.model.specs.Form.{elems_of, flat}
use Rattle.model.specs.View.{View, view_at, view_rows, size_at}
use Rattle.model.proofs.TabLaws.{length-tab}
use Rattle.column.specs.Rows.{len_from}
use Rattle.column.proofs.RowLaws.{length-step}
use Rattle.column.proofs.WalkLaws.{Summing}
use Rattle.view_checks.specs.Views.{counted_within}

-- ---- one row

row_length : (b : Bool) (f : ℕ → Elem) (a n : ℕ) → pick b (n - 0) 0 ≡ length (elems_of (pick b (list_row (tab f a n)) null_row))
unfolding elems_of
row_length true f a n = let e : n - 0 ≡ n = omega arith in e ∙ sym (length-tab f a n)
row_length false f a n = refl

pub view-length : (c : View) (r k size : ℕ) → size ≡ size_at c r → k ≡ len_from c.rows r 0 size → k ≡ length (elems_of (view_at c r))
unfolding view_at len_from
view-length c r k size es e = e ∙ rw es (row_length (valid_at c.rows r) (elem_at c.values c.elements) (offset_at c.offsets r) (size_at c r))

-- ---- in all

-- one more row would pass top
pub counted_past : (W : ℕ → Row) (n top : ℕ) {low found r left : ℕ} (k : ℕ) → Summing W n low top found r left → 0 < left → k ≡ length (elems_of (W r)) → top < found + k → None ≡ counted_within top (tab W 0 n)
counted_past W n top {low} {found} {r} {left} k s h e p = rw (lt-ltb top (length (flat (tab W 0 n))) (omega (arith, s.sum, length-step W r left h)))

-- all rows are within it
pub counted_all : (W : ℕ → Row) (n top found : ℕ) → found ≡ length (flat (tab W 0 n)) → found ≤ top → Some found ≡ counted_within top (tab W 0 n)
counted_all W n top found e h = rw (le-ltb top (length (flat (tab W 0 n))) (omega arith)) (ap Some e)

pub shown-rows : (c : View) (n : ℕ) → n ≡ length c.offsets → tab (view_at c) 0 n ≡ view_rows c
unfolding view_rows
shown-rows c n e = rw e
