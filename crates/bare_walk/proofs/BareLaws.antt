-- The walk that writes offsets and values alone, and the bits that are set after it.
use Prim.Native.Nat.{ℕ, zero, suc, ◌+◌, ◌-◌, ◌≤◌, ◌<◌}
use mathlib.Core.Path.{◌≡◌, refl, sym, ap, ◌∙◌}
use mathlib.Core.Bool.{Bool, true, false, ◌&&◌}
use mathlib.Core.List.{List, [], map, map-append, reverse}
use native.Mathlib.Omega.{arith}
use borrow.Author.Tests.{eqb-true}
use lib.Dec.{eqb}
use lib.IntN.{ℤ, pos}
use lib.ListN.{length, get_or, set, replicate, length-append, length-replicate, replicate-append-replicate}
use lib.Seq.{sets}
use Rattle.bitmap.specs.Push.{push_bit, push_bits}
use Rattle.bitmap.proofs.BitLaws.{pushes_pack}
use Rattle.column.specs.Put.{put_elements, RoomInˡ, Fillsˡ}
use Rattle.column.proofs.OffsetLaws.{mono, top}
use Rattle.column.proofs.RowLaws.{length-step, length_none}
use Rattle.column.proofs.WalkLaws.{Walking, walk_begun, walk_more, walk_done}
use Rattle.model.specs.Basics.{tab}
use Rattle.model.specs.Bitmap.{pack, pack_n, bytes_for}
use Rattle.model.specs.Column.{Elem, Row, list_row, bad_offsets, offset_at, row_count}
use Rattle.model.specs.Elements.{unary_elems}
use Rattle.model.specs.Form.{is_val, value_of, is_row, elems_of, flat, over}
use Rattle.model.specs.declared.Unary.{Unary}
use Rattle.model.specs.declared.Unary.TheVariants.{Reverse, Distinct, PopFront, PopBack}
use Rattle.model.proofs.BoolLaws.{never_true, and_true}
use Rattle.model.proofs.TabLaws.{length-tab, map-tab}
use Rattle.set_elements.proofs.ElementLaws.{pop_front, pop_back}
use Rattle.stores.proofs.StoreLaws.{length_back}
use Rattle.runs.proofs.PlainLaws.{map_back, back_same, tab_same}
use Rattle.bare_walk.specs.Bare.{copies, is_bare, bare_elem, bare_elems, bare_at, bare_rows, WritesBare, WritesFormˡ}

-- ---- the test

pub bare_is : (u : Unary) (rows elements : List ℕ) → is_bare u rows elements ≡ true → (length rows ≡ 0) × (length elements ≡ 0) × (copies u ≡ true)
unfolding is_bare
bare_is u rows elements h =
    let a = and_true (eqb (length rows) 0) (eqb (length elements) 0 && copies u) h in
    let b = and_true (eqb (length elements) 0) (copies u) a.1 in
    (eqb-true (length rows) 0 a.0, eqb-true (length elements) 0 b.0, b.1)

-- ---- one row, of which the operation u makes another

module _ (u : Unary) (vs : List ℤ) (a n : ℕ) where
  pub back_length : u ≡ Reverse → length (unary_elems u (bare_elems vs a n)) ≡ n
  unfolding unary_elems
  back_length e = rw e (length_back (bare_elem vs) a n)

  pub front_length : u ≡ PopFront → length (unary_elems u (bare_elems vs a n)) ≡ n - 1
  front_length e = rw (e, pop_front (bare_elem vs) a n) (length-tab (bare_elem vs) (a + (n - (n - 1))) (n - 1))

  pub last-length : u ≡ PopBack → length (unary_elems u (bare_elems vs a n)) ≡ n - 1
  last-length e = rw (e, pop_back (bare_elem vs) a n) (length-tab (bare_elem vs) a (n - 1))

module _ (vs : List ℤ) (at : ℕ) {vo vo' : List ℤ} where
  forward_written : (a n : ℕ) → vo' ≡ sets vo at (tab (λ i. get_or vs i (pos 0)) a n) → WritesBare (bare_elems vs a n) at vo vo' (at + n)
  unfolding value_of
  forward_written a n v = record {
    values = v ∙ ap (λ (l : List ℤ). sets vo at l) (sym (map-tab value_of (bare_elem vs) a n));
    next = ap (λ (l : ℕ). at + l) (sym (length-tab (bare_elem vs) a n));
  }

  module _ (u : Unary) (a n : ℕ) where
    pub back_written : u ≡ Reverse → vo' ≡ sets vo at (reverse (tab (λ i. get_or vs i (pos 0)) a n)) → WritesBare (unary_elems u (bare_elems vs a n)) at vo vo' (at + n)
    unfolding unary_elems value_of
    back_written e v = rw e (record {
      values = v ∙ ap (λ (l : List ℤ). sets vo at l) (sym (map_back value_of (bare_elem vs) (λ i. get_or vs i (pos 0)) a n (λ i. refl)));
      next = ap (λ (l : ℕ). at + l) (sym (length_back (bare_elem vs) a n));
    })

    module _ (k : ℕ) (less : k ≡ n - 1) where
      pub front-written : u ≡ PopFront → vo' ≡ sets vo at (tab (λ i. get_or vs i (pos 0)) (a + (n - k)) k) → WritesBare (unary_elems u (bare_elems vs a n)) at vo vo' (at + k)
      front-written e v = rw (e, pop_front (bare_elem vs) a n, ← less) (forward_written (a + (n - k)) k v)

      pub last_written : u ≡ PopBack → vo' ≡ sets vo at (tab (λ i. get_or vs i (pos 0)) a k) → WritesBare (unary_elems u (bare_elems vs a n)) at vo vo' (at + k)
      last_written e v = rw (e, pop_back (bare_elem vs) a n, ← less) (forward_written a k v)

pub not_distinct : {A : Type 0} (u : Unary) → u ≡ Distinct → copies u ≡ true → A
unfolding copies
not_distinct u e h = never_true (sym (rw e at h))

-- no element is null
elems_set : (u : Unary) (vs : List ℤ) (a n : ℕ) → copies u ≡ true → map is_val (unary_elems u (bare_elems vs a n)) ≡ replicate (length (unary_elems u (bare_elems vs a n))) true
unfolding copies unary_elems is_val
elems_set Reverse vs a n h = rw (length_back (bare_elem vs) a n) (back_same is_val (bare_elem vs) true a n (λ i. refl))
elems_set Distinct vs a n h = not_distinct Distinct refl h
elems_set PopFront vs a n h = rw (front_length PopFront vs a n refl, pop_front (bare_elem vs) a n) (tab_same is_val (bare_elem vs) true (a + (n - (n - 1))) (n - 1) (λ i. refl))
elems_set PopBack vs a n h = rw (last-length PopBack vs a n refl, pop_back (bare_elem vs) a n) (tab_same is_val (bare_elem vs) true a (n - 1) (λ i. refl))

-- ---- the walk: bitmaps are written beside it that nobody lends

pub record Baring (W : ℕ → Row) (o : List ℤ) (n : ℕ) (o₀ d oo v : List ℤ) (a r at left : ℕ) : Type 0 where
  pub rows : List ℕ
  pub elements : List ℕ
  pub walk : Walking W n o₀ (replicate (bytes_for n) 0) d (replicate (bytes_for (length (flat (tab W 0 n)))) 0) oo rows v elements r at left
  pub first : a ≡ offset_at o r

module _ (u : Unary) (o vs : List ℤ) (n : ℕ) where
  abbrev W : ℕ → Row
  W = bare_at u o vs

  pub bare_begun : (o₀ d : List ℤ) {a : ℕ} → a ≡ offset_at o 0 → Baring W o n o₀ d o₀ d a 0 0 n
  bare_begun o₀ d e = record { rows = _; elements = _; walk = walk_begun W n o₀ _ d _; first = e }

  -- a turn, which reads the offset b
  module _ {o₀ d oo v : List ℤ} {a r at left : ℕ} (s : Baring W o n o₀ d oo v a r at left) (h : 0 < left) (b : ℕ) (eb : b ≡ offset_at o (r + 1)) where
    abbrev es : List Elem
    es = unary_elems u (bare_elems vs a (b - a))

    bare_next : n ≡ row_count o → r + 1 < length o
    bare_next e = omega (arith, s.walk.rows)

    pub bare_reads : n ≡ row_count o → bad_offsets o (length vs) ≡ false → (a ≤ b) × (b ≤ length vs)
    bare_reads e w = rw (s.first, eb) (mono o (length vs) r w (bare_next e), top o (length vs) (r + 1) w (bare_next e))

    same_row : list_row es ≡ W r
    same_row = rw (s.first, eb)

    turn : length (flat (tab W r left)) ≡ length es + length (flat (tab W (r + 1) (left - 1)))
    unfolding elems_of
    turn = length-step W r left h ∙ rw (s.first, eb)

    pub bare_room : length (flat (tab W 0 n)) ≤ length d → at + length es ≤ length v
    bare_room m = omega (arith, s.walk.sum, s.walk.lv, turn)

    module _ {v' : List ℤ} {k : ℕ} (p : WritesBare es at v v' k) where
      pub bare_small : k ≤ length (flat (tab W 0 n))
      bare_small = omega (arith, s.walk.sum, p.next, turn)

      pub bare_more : {oo' : List ℤ} → oo' ≡ set oo (r + 1) (pos k) → Baring W o n o₀ d oo' v' b (r + 1) k (left - 1)
      unfolding elems_of is_row
      bare_more q = record {
        rows = push_bit s.rows r true;
        elements = put_elements s.elements at es;
        walk = walk_more W n (list_row es) h same_row s.walk (record { rows = refl; values = p.values; elements = refl; place = p.next }) q;
        first = eb;
      }

  pub bare_done : (d₁ : List ℤ) {o₀ d oo v : List ℤ} {a r at left : ℕ} → Baring W o n o₀ d oo v a r at left → left ≤ 0 → o₀ ≡ set d₁ 0 (pos 0) → n + 1 ≤ length d₁ → length (flat (tab W 0 n)) ≤ length d → WritesFormˡ (tab W 0 n) d₁ oo d v at
  bare_done d₁ {r = r} {left = left} s h q lo lv =
      let x = length-replicate {A = ℕ} (bytes_for n) 0 in
      let y = length-replicate {A = ℕ} (bytes_for (length (flat (tab W 0 n)))) 0 in
      let f = walk_done W n d₁ s.walk h q (record { offsets = lo; rows = omega arith; values = lv; elements = omega arith }) in
      record { offsets = f.offsets; values = f.values; count = omega (arith, s.walk.sum, length_none W r left h) }

  pub bare_rows_lem : n ≡ row_count o → tab W 0 n ≡ bare_rows u o vs
  unfolding bare_rows
  bare_rows_lem e = rw e

-- ---- the bits

-- bits that are all set, at once
all_pushed : (d : List ℕ) (bs : List Bool) (n : ℕ) → bs ≡ replicate n true → bytes_for n ≤ length d → push_bits d 0 (replicate n true) ≡ over (pack bs) d
unfolding pack pack_n
all_pushed d bs n e h = rw e (pushes_pack [] (replicate n true) d (omega (arith, length-replicate n true)))

flat-set : (W : ℕ → Row) → ((i : ℕ) → map is_val (elems_of (W i)) ≡ replicate (length (elems_of (W i))) true) → (a n : ℕ) → map is_val (flat (tab W a n)) ≡ replicate (length (flat (tab W a n))) true
unfolding tab flat
flat-set W h a zero = refl
flat-set W h a (suc n) = rw (map-append, h a, flat-set W h (suc a) n, length-append) (replicate-append-replicate (length (elems_of (W a))) (length (flat (tab W (suc a) n))) true)

module _ (u : Unary) (o vs : List ℤ) (c : copies u ≡ true) where
  rows-set : map is_row (bare_rows u o vs) ≡ replicate (row_count o) true
  unfolding bare_rows is_row
  rows-set = tab_same is_row (bare_at u o vs) true 0 (row_count o) (λ i. refl)

  flat_all : map is_val (flat (bare_rows u o vs)) ≡ replicate (length (flat (bare_rows u o vs))) true
  unfolding bare_rows elems_of
  flat_all = flat-set (bare_at u o vs) (λ i. elems_set u vs (offset_at o i) (offset_at o (i + 1) - offset_at o i) c) 0 (row_count o)

  pub bare_filled : {n m lo : ℕ} {oo oo' vo vo' : List ℤ} {ro ro' eo eo' : List ℕ} → n ≡ row_count o → RoomInˡ (row_count o) (length (flat (bare_rows u o vs))) lo (length ro) (length vo) (length eo) → WritesFormˡ (bare_rows u o vs) oo oo' vo vo' m
      → ro' ≡ push_bits ro 0 (replicate n true) → eo' ≡ push_bits eo 0 (replicate m true) → Fillsˡ (bare_rows u o vs) oo oo' ro ro' vo vo' eo eo'
  bare_filled {n} {m} {ro = ro} {eo = eo} e room w r s = record {
    offsets = w.offsets;
    rows = r ∙ rw e (all_pushed ro (map is_row (bare_rows u o vs)) (row_count o) rows-set room.rows);
    values = w.values;
    elements = s ∙ rw w.count (all_pushed eo (map is_val (flat (bare_rows u o vs))) (length (flat (bare_rows u o vs))) flat_all room.elements);
  }
