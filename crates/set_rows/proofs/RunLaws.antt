-- Laws of runs: the longer of two, cut out of its column, and what intersect makes of it and the other.
use mathlib.Core.Path.{◌≡◌, refl, sym, ◌∙◌}
use mathlib.Core.Bool.{Bool, true, false}
use mathlib.Core.List.{List, []}
use Prim.Native.Nat.{ℕ, ◌≤◌, ◌<◌}
use native.Mathlib.Omega.{arith}
use borrow.Author.Tests.{lt-ltb, le-ltb, ltb-true, ltb-false}
use lib.Dec.{ltb}
use lib.IntN.{ℤ}
use lib.ListN.{length, take, drop}
use Rattle.bitmap.specs.Push.{bits_from}
use Rattle.bitmap.specs.Reads.{bits_in}
use Rattle.model.specs.Basics.{pick, tab}
use Rattle.model.specs.Bitmap.{Bits}
use Rattle.model.specs.Column.{Column, elem_at, offset_at, length_at}
use Rattle.model.specs.Elements.{set_elems}
use Rattle.model.specs.declared.SetOp.TheVariants.{Intersect}
use Rattle.model.proofs.TabLaws.{length-tab}
use Rattle.column.specs.Put.{ReadableElemsˡ}
use Rattle.set_elements.specs.Pairs.{kept}
use Rattle.set_elements.proofs.PartLaws.{length_part, row_from_lem, source_from}
use Rattle.set_rows.specs.Runs.{run_elems, ReadableRun, row_elems}
use Rattle.set_rows.specs.declared.runs.Run.{Run}
use Rattle.set_rows.proofs.SetLaws.{intersect_right, intersect_left}

pub length_run : (s : Run) → length (run_elems s) ≡ s.count
length_run s = length-tab (elem_at s.column.values.now (bits_in s.column.bits)) s.from s.count

pub length_row : (c : Column) (r : ℕ) → length (row_elems c r) ≡ length_at c r
length_row c r = length-tab (elem_at c.values c.elements) (offset_at c.offsets r) (length_at c r)

-- the values of a run, and its bits, by themselves
abbrev part : Run → List ℤ
part s = take s.count (drop s.from s.column.values.now)

module _ (s : Run) (h : ReadableRun s) {w : List ℤ} {b : Bits} (v : w ≡ part s) (q : b ≡ bits_from (bits_in s.column.bits) s.from) where
  cut_readable : ReadableElemsˡ w b 0 s.count
  cut_readable = rw (v, q) (source_from s.column.values.now (bits_in s.column.bits) s.from s.count h)

  cut_elems : tab (elem_at w b) 0 s.count ≡ run_elems s
  cut_elems = rw (v, q) (sym (row_from_lem s.column.values.now (bits_in s.column.bits) s.from s.count h))

-- lv and rv are the values of both, w what `longer` hands back, and b the bits of the row that goes with it
module _ (l r row : Run) (s : ReadableRun l) (t : ReadableRun r) {lv rv w : List ℤ} {b : Bits} (p : lv ≡ part l) (q : rv ≡ part r) (e : w ≡ pick (ltb (length lv) (length rv)) rv lv) (f : b ≡ bits_from (bits_in row.column.bits) row.from) where
  length_left : length lv ≡ l.count
  length_left = rw p (length_part l.column.values.now (bits_in l.column.bits) l.from l.count s)

  length_right : length rv ≡ r.count
  length_right = rw q (length_part r.column.values.now (bits_in r.column.bits) r.from r.count t)

  module _ (h : l.count < r.count) (k : row ≡ r) where
    part_right : w ≡ part r
    part_right = e ∙ rw (length_left, length_right, lt-ltb l.count r.count h) q

    pub readable_right : ReadableElemsˡ w b 0 row.count
    readable_right = rw k (cut_readable r t part_right (rw k at f))

    pub walked_right : tab (elem_at w b) 0 row.count ≡ pick (ltb l.count r.count) (run_elems r) (run_elems l)
    walked_right = rw (lt-ltb l.count r.count h, k) (cut_elems r t part_right (rw k at f))

  module _ (h : r.count ≤ l.count) (k : row ≡ l) where
    part_left : w ≡ part l
    part_left = e ∙ rw (length_left, length_right, le-ltb l.count r.count h) p

    pub readable_left : ReadableElemsˡ w b 0 row.count
    readable_left = rw k (cut_readable l s part_left (rw k at f))

    pub walked_left : tab (elem_at w b) 0 row.count ≡ pick (ltb l.count r.count) (run_elems r) (run_elems l)
    walked_left = rw (le-ltb l.count r.count h, k) (cut_elems l s part_left (rw k at f))

-- the longer of both is walked, and the other looked in
module _ (l r : Run) where
  pub right_longer : l.count < r.count → set_elems Intersect (run_elems l) (run_elems r) ≡ kept true (run_elems l) [] (run_elems r)
  right_longer h = intersect_right (run_elems l) (run_elems r) (omega (arith, length_run l, length_run r))

  pub left_longer : r.count ≤ l.count → set_elems Intersect (run_elems l) (run_elems r) ≡ kept true (run_elems r) [] (run_elems l)
  left_longer h = intersect_left (run_elems l) (run_elems r) (omega (arith, length_run l, length_run r))

  module _ (w o : Run) (p : run_elems w ≡ pick (ltb l.count r.count) (run_elems r) (run_elems l)) (q : run_elems o ≡ pick (ltb l.count r.count) (run_elems l) (run_elems r)) where
    pub intersect_runs : set_elems Intersect (run_elems l) (run_elems r) ≡ kept true (run_elems o) [] (run_elems w)
    intersect_runs = by (ltb l.count r.count) refl
      where
        by : (t : Bool) → ltb l.count r.count ≡ t → set_elems Intersect (run_elems l) (run_elems r) ≡ kept true (run_elems o) [] (run_elems w)
        by true z = right_longer (ltb-true _ _ z) ∙ rw (p, q, z)
        by false z = left_longer (ltb-false _ _ z) ∙ rw (p, q, z)
