-- Laws of a row by itself: its values cut out of the column's, and its bitmap from the byte on that holds the first of its bits.
use mathlib.Core.Path.{◌≡◌, ◌∙◌}
use mathlib.Core.List.{List}
use Prim.Native.Nat.{ℕ, ◌+◌, ◌-◌, ◌%◌, ◌≤◌, ◌<◌}
use native.Mathlib.Omega.{arith}
use borrow.Author.Tests.{lt-ltb, le-ltb}
use lib.Dec.{ltb}
use lib.IntN.{ℤ}
use lib.ListN.{length, take, drop, length-drop}
use lib.Seq.{get_or-take, get_or-drop, length-take-le}
use Rattle.bitmap.specs.Push.{Covers, bits_from}
use Rattle.bitmap.proofs.PartLaws.{covers_from, valid_from}
use Rattle.model.specs.Basics.{pick, tab}
use Rattle.model.specs.Bitmap.{Bits, from}
use Rattle.model.specs.Column.{elem_at}
use Rattle.model.proofs.TabLaws.{tab_ext}
use Rattle.column.specs.Put.{ReadableElemsˡ}

elem_from : (eb : Bits) (a n N : ℕ) → Covers eb N → a + n ≤ N → (i : ℕ) → i < n → (vs : List ℤ) → elem_at (take n (drop a vs)) (bits_from eb a) i ≡ elem_at vs eb (a + i)
unfolding elem_at
elem_from eb a n N g h i k vs = rw (valid_from eb a n N g h i k, get_or-take n (drop a vs) i, get_or-drop)

module _ (vs : List ℤ) (eb : Bits) (a n : ℕ) (s : ReadableElemsˡ vs eb a n) where
  pub length_part : length (take n (drop a vs)) ≡ n
  length_part = length-take-le n (drop a vs) (omega (arith, length-drop a vs, s.inside))

  -- a row by itself shows what it shows in its column
  pub row_from_lem : tab (elem_at vs eb) a n ≡ tab (elem_at (take n (drop a vs)) (bits_from eb a)) 0 n
  row_from_lem =
      tab_ext (elem_at vs eb) (elem_at (take n (drop a vs)) (bits_from eb a)) a 0 n
      (λ i k. let z : 0 + i ≡ i = omega arith in rw (z, elem_from eb a n (length vs) s.bits s.inside i k vs))

  pub source_from : ReadableElemsˡ (take n (drop a vs)) (bits_from eb a) 0 n
  source_from = record {
    inside = omega (arith, length_part);
    bits = rw length_part (covers_from eb a n (length vs) s.bits s.inside);
  }

-- a row by itself in the code's terms: its values w, and the place x of its first bit in the bytes bs
module _ (vs : List ℤ) (eb : Bits) (a n : ℕ) (s : ReadableElemsˡ vs eb a n) {w : List ℤ} {x : ℕ} {bs : List ℕ} (v : w ≡ take n (drop a vs)) (p : x ≡ (eb.start + a) % 8) (q : bs ≡ (bits_from eb a).bytes) where
  bits-from : from x bs ≡ bits_from eb a
  unfolding bits_from
  bits-from = rw (p, q)

  pub cut_source : ReadableElemsˡ w (from x bs) 0 n
  cut_source = rw (v, bits-from) (source_from vs eb a n s)

  pub cut_row : tab (elem_at vs eb) a n ≡ tab (elem_at w (from x bs)) 0 n
  cut_row = rw (v, bits-from) (row_from_lem vs eb a n s)

-- the longer of two rows' values
abbrev pub Longer : List ℤ → List ℤ → ℕ → ℕ → ℕ → ℕ → List ℤ → Type 0
Longer lv rv a n b m w =
    w ≡ pick (ltb (length (take (a + n - a) (drop a lv))) (length (take (b + m - b) (drop b rv)))) (take (b + m - b) (drop b rv)) (take (a + n - a) (drop a lv))

module _ (lv rv : List ℤ) (a n b m : ℕ) (l : a + n ≤ length lv) (r : b + m ≤ length rv) {w : List ℤ} (e : Longer lv rv a n b m w) where
  cut_left : take (a + n - a) (drop a lv) ≡ take n (drop a lv)
  cut_left = let e : a + n - a ≡ n = omega arith in rw e

  cut_right : take (b + m - b) (drop b rv) ≡ take m (drop b rv)
  cut_right = let e : b + m - b ≡ m = omega arith in rw e

  length-left : length (take n (drop a lv)) ≡ n
  length-left = length-take-le n (drop a lv) (omega (arith, length-drop a lv))

  length-right : length (take m (drop b rv)) ≡ m
  length-right = length-take-le m (drop b rv) (omega (arith, length-drop b rv))

  pub longer_right : n < m → w ≡ take m (drop b rv)
  longer_right h = e ∙ rw (cut_left, cut_right, length-left, length-right, lt-ltb n m h)

  pub longer_left : m ≤ n → w ≡ take n (drop a lv)
  longer_left h = e ∙ rw (cut_left, cut_right, length-left, length-right, le-ltb n m h)
