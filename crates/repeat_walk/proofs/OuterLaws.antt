-- Laws of writing outer rows: the copies of one row, and the walk.
use mathlib.Core.Path.{◌≡◌, refl, ap, ◌∙◌}
use mathlib.Core.Bool.{Bool}
use mathlib.Core.List.{List, [], ◌∷◌, ◌++◌, map, map-append, append_assoc, append-nil}
use Prim.Native.Nat.{ℕ, zero, suc, ◌+◌, ◌-◌, ◌/◌, ◌≤◌, ◌<◌}
use native.Mathlib.Omega.{arith}
use lib.IntN.{ℤ, pos}
use lib.ListN.{length, set, replicate, length-append, length-replicate, length-set}
use lib.Seq.{length-sets}
use Rattle.model.specs.Basics.{tab}
use Rattle.model.specs.Bitmap.{bytes_for, pack, pack_n}
use Rattle.model.specs.Column.{Elem, Row}
use Rattle.model.specs.Form.{value_of, is_val, is_row, elems_of, flat, over, offsets_from, Outer, is_outer, inner_of, inner, outer_length}
use Rattle.model.specs.Limits.{Limits}
use Rattle.model.proofs.TabLaws.{length-map, length-tab, tab-step, tab-none}
use Rattle.model.proofs.FormLaws.{length-offsets}
use Rattle.bitmap.specs.Push.{push_bit}
use Rattle.bitmap.proofs.BitLaws.{push_pack, length-push_bit, length-push_bits}
use Rattle.column.specs.Put.{Outs, outs, put_row, put_rows, RoomForElemsˡ, Writesˡ}
use Rattle.column.proofs.RowLaws.{flat_append}
use Rattle.column.proofs.PutLaws.{set-over, rows_more, formed, Roomy, put_all, start-formed}
use Rattle.repeat_walk.specs.Outers.{Outers, outers, put_outer, put_outers, RoomForRowsˡ, RoomForOutersˡ, FillsOutersˡ}

-- ---- rows that are all one row

replicate-step : {A : Type 0} (n : ℕ) (w : A) → 0 < n → replicate n w ≡ w ∷ replicate (n - 1) w
replicate-step zero w h = let z : ⊥ = omega arith in absurd z
replicate-step (suc n) w h = let e : suc n - 1 ≡ n = omega arith in rw e

replicate-none : {A : Type 0} (n : ℕ) (w : A) → n ≤ 0 → replicate n w ≡ []
replicate-none zero w h = refl
replicate-none (suc n) w h = let z : ⊥ = omega arith in absurd z

-- ---- how many elements are then written

put_at : (s : Outs) (ws : List Row) → (put_rows s ws).at ≡ s.at + length (flat ws)
unfolding put_rows flat
put_at s [] = omega arith
put_at s (w ∷ ws) = let e = put_at (put_row s w) ws in omega (arith, length-append (elems_of w) (flat ws))

-- writing rows keeps the lengths
record SameLengths (s t : Outs) : Type 0 where
  offsets : length t.offsets ≡ length s.offsets
  rows : length t.rows ≡ length s.rows
  values : length t.values ≡ length s.values
  elements : length t.elements ≡ length s.elements

lengths_kept : (s : Outs) (ws : List Row) → SameLengths s (put_rows s ws)
unfolding put_rows
lengths_kept s [] = record { offsets = refl; rows = refl; values = refl; elements = refl }
lengths_kept s (w ∷ ws) =
    let e = lengths_kept (put_row s w) ws in
    record {
      offsets = e.offsets ∙ length-set s.offsets (s.r + 1) (pos (s.at + length (elems_of w)));
      rows = e.rows ∙ length-push_bit s.rows s.r (is_row w);
      values = e.values ∙ length-sets s.values s.at (map value_of (elems_of w));
      elements = e.elements ∙ length-push_bits s.elements s.at (map is_val (elems_of w));
    }

-- ---- room, row by row

module _ {L : Limits} {ws : List Row} {i at lo lr lv le : ℕ} (f : RoomForRowsˡ L ws i at lo lr lv le) where
  -- as many rows and elements from another place
  fits_as : {vs : List Row} {j k lo' lr' lv' le' : ℕ} → j + length vs ≤ i + length ws → k + length (flat vs) ≤ at + length (flat ws) → lo' ≡ lo → lr' ≡ lr → lv' ≡ lv → le' ≡ le → RoomForRowsˡ L vs j k lo' lr' lv' le'
  fits_as n m eo er ev ee = record {
    few = omega (arith, f.few);
    small = omega (arith, f.small);
    room = record {
      offsets = omega (arith, f.room.offsets);
      rows = omega (arith, f.room.rows);
      values = omega (arith, f.room.values);
      elements = omega (arith, f.room.elements);
    };
  }

-- as much room by the lengths of the numbers
pub room_as : {L : Limits} {os : List Outer} {lo lo' lr li li' lj lv le : ℕ} → RoomForOutersˡ L os lo lr li lj lv le → lo' ≡ lo → li' ≡ li → RoomForOutersˡ L os lo' lr li' lj lv le
room_as h p q = rw (p, q) h

-- ---- the copies of one row: those in left are still to be written

pub record Copying (L : Limits) (w : Row) (first place times : ℕ) (io₀ : List ℤ) (ir₀ : List ℕ) (v₀ : List ℤ) (e₀ : List ℕ) (io : List ℤ) (ir : List ℕ) (v : List ℤ) (e : List ℕ) (i at left : ℕ) : Type 0 where
  pub same : put_rows (outs io ir v e i at) (replicate left w) ≡ put_rows (outs io₀ ir₀ v₀ e₀ first place) (replicate times w)
  pub rows : i + left ≡ first + times
  pub fits : RoomForRowsˡ L (replicate left w) i at (length io) (length ir) (length v) (length e)
  pub lo : length io ≡ length io₀
  pub lr : length ir ≡ length ir₀
  pub lv : length v ≡ length v₀
  pub le : length e ≡ length e₀

module _ (L : Limits) (w : Row) (first place times : ℕ) where
  pub copy_begun : {io : List ℤ} {ir : List ℕ} {v : List ℤ} {e : List ℕ} → RoomForRowsˡ L (replicate times w) first place (length io) (length ir) (length v) (length e) → Copying L w first place times io ir v e io ir v e first place times
  copy_begun f = record { same = refl; rows = refl; fits = f; lo = refl; lr = refl; lv = refl; le = refl }

  pub copy_done : {io₀ : List ℤ} {ir₀ : List ℕ} {v₀ : List ℤ} {e₀ : List ℕ} {io : List ℤ} {ir : List ℕ} {v : List ℤ} {e : List ℕ} {i at left : ℕ} → Copying L w first place times io₀ ir₀ v₀ e₀ io ir v e i at left → left ≤ 0
      → outs io ir v e (first + length (replicate times w)) at ≡ put_rows (outs io₀ ir₀ v₀ e₀ first place) (replicate times w)
  unfolding put_rows
  copy_done {io = io} {ir = ir} {v = v} {e = e} {i = i} {at = at} {left = left} s h =
      let q : first + length (replicate times w) ≡ i = omega (arith, s.rows, length-replicate times w) in
      rw q (rw (replicate-none left w h) at s.same)

  -- a turn that writes one copy, the elements es
  module _ {io₀ : List ℤ} {ir₀ : List ℕ} {v₀ : List ℤ} {e₀ : List ℕ} {io : List ℤ} {ir : List ℕ} {v : List ℤ} {e : List ℕ} {i at left : ℕ} (es : List Elem) (h : 0 < left) (elems : elems_of w ≡ es) (s : Copying L w first place times io₀ ir₀ v₀ e₀ io ir v e i at left) where
    turn : length (flat (replicate left w)) ≡ length es + length (flat (replicate (left - 1) w))
    unfolding flat
    turn = rw (replicate-step left w h, length-append, elems)

    count : length (replicate left w) ≡ left
    count = length-replicate left w

    pub copy_place : RoomForElemsˡ es at (length v) (length e)
    copy_place = record { values = omega (arith, s.fits.room.values, turn); elements = omega (arith, s.fits.room.elements, turn) }

    pub copy_bit : i / 8 < length ir
    copy_bit = omega (arith, s.fits.room.rows, count)

    pub copy_slot : i + 1 < length io
    copy_slot = omega (arith, s.fits.room.offsets, count)

    pub copy_few : i + left ≤ L.outer
    copy_few = omega (arith, s.fits.few, count)

    module _ {v' : List ℤ} {e' : List ℕ} {k : ℕ} (p : Writesˡ es at v v' e e' k) where
      pub copy_small : k ≤ L.offset
      copy_small = omega (arith, s.fits.small, turn, p.next)

      put_same : (on : Bool) (io' : List ℤ) (ir' : List ℕ) → is_row w ≡ on → ir' ≡ push_bit ir i on → io' ≡ set io (i + 1) (pos k) → outs io' ir' v' e' (i + 1) k ≡ put_row (outs io ir v e i at) w
      put_same on io' ir' b q t = rw (t, q, elems, b, p.values, p.elements, p.next)

      pub copy_more : (on : Bool) {io' : List ℤ} {ir' : List ℕ} → is_row w ≡ on → ir' ≡ push_bit ir i on → io' ≡ set io (i + 1) (pos k) → Copying L w first place times io₀ ir₀ v₀ e₀ io' ir' v' e' (i + 1) k (left - 1)
      copy_more on {io'} {ir'} b q t =
          let lo = ap length t ∙ length-set io (i + 1) (pos k) in
          let lr = ap length q ∙ length-push_bit ir i on in
          let lv = ap length p.values ∙ length-sets v at (map value_of es) in
          let le = ap length p.elements ∙ length-push_bits e at (map is_val es) in
          let n = length-replicate (left - 1) w in
          record {
            same = rows_more _ _ w (outs io ir v e i at) _ _ (replicate-step left w h) (put_same on io' ir' b q t) s.same;
            rows = omega (arith, s.rows);
            fits = fits_as s.fits (omega (arith, count)) (omega (arith, turn, p.next)) lo lr lv le;
            lo = lo ∙ s.lo;
            lr = lr ∙ s.lr;
            lv = lv ∙ s.lv;
            le = le ∙ s.le;
          }

-- ---- the walk writes the result form

inner-append : (os ps : List Outer) → inner (os ++ ps) ≡ inner os ++ inner ps
unfolding inner
inner-append [] ps = refl
inner-append (o ∷ os) ps = rw (inner-append os ps, append_assoc)

inner_snoc : (ps : List Outer) (o : Outer) → inner (ps ++ (o ∷ [])) ≡ inner ps ++ inner_of o
unfolding inner
inner_snoc ps o = rw (inner-append ps (o ∷ []), append-nil)

offsets_snoc : (a : ℕ) (ps : List Outer) (o : Outer) → offsets_from a (map outer_length (ps ++ (o ∷ []))) ≡ offsets_from a (map outer_length ps) ++ (pos (a + length (inner ps) + outer_length o) ∷ [])
unfolding offsets_from inner
offsets_snoc a [] o = let e : a + 0 ≡ a = omega arith in rw e
offsets_snoc a (p ∷ ps) o =
    let e : a + outer_length p + length (inner ps) ≡ a + length (inner_of p ++ inner ps) = omega (arith, length-append (inner_of p) (inner ps)) in
    rw (offsets_snoc (a + outer_length p) ps o, e)

module _ (d₁ : List ℤ) (d₂ : List ℕ) (d₃ : List ℤ) (d₄ : List ℕ) (d₅ : List ℤ) (d₆ : List ℕ) where
  abbrev whole : List Outer → Outers
  whole os = outers (over (offsets_from 0 (map outer_length os)) d₁) (over (pack (map is_outer os)) d₂) (length os) (formed d₃ d₄ d₅ d₆ (inner os))

  record Wide (os : List Outer) : Type 0 where
    pub offsets : length os + 1 ≤ length d₁
    pub rows : bytes_for (length os) ≤ length d₂
    pub lists : Roomy d₃ d₄ d₅ d₆ (inner os)

  module _ (ps : List Outer) (o : Outer) (h : Wide (ps ++ (o ∷ []))) where
    rows_then : length (ps ++ (o ∷ [])) ≡ length ps + 1
    rows_then = length-append ps (o ∷ [])

    one-offset : set (over (offsets_from 0 (map outer_length ps)) d₁) (length ps + 1) (pos (length (inner ps) + outer_length o)) ≡ over (offsets_from 0 (map outer_length (ps ++ (o ∷ [])))) d₁
    one-offset =
        let e : length ps + 1 ≡ length (offsets_from 0 (map outer_length ps)) = omega (arith, length-offsets 0 (map outer_length ps), length-map outer_length ps) in
        let z : 0 + length (inner ps) + outer_length o ≡ length (inner ps) + outer_length o = omega arith in
        rw e (set-over (offsets_from 0 (map outer_length ps)) d₁ (pos (length (inner ps) + outer_length o)) (omega (arith, h.offsets, rows_then)) ∙ rw (offsets_snoc 0 ps o, z))

    one_bit : push_bit (over (pack (map is_outer ps)) d₂) (length ps) (is_outer o) ≡ over (pack (map is_outer (ps ++ (o ∷ [])))) d₂
    one_bit =
        rw (← length-map is_outer ps)
        (push_pack (map is_outer ps) (is_outer o) d₂ (omega (arith, h.rows, rows_then, length-map is_outer ps)) ∙ rw map-append)

    one-lists : put_rows (formed d₃ d₄ d₅ d₆ (inner ps)) (inner_of o) ≡ formed d₃ d₄ d₅ d₆ (inner (ps ++ (o ∷ [])))
    one-lists = rw (inner_snoc ps o) (put_all d₃ d₄ d₅ d₆ (inner_of o) (inner ps) (rw (inner_snoc ps o) at h.lists))

    put_one : put_outer (whole ps) o ≡ whole (ps ++ (o ∷ []))
    put_one = rw (one-offset, one_bit, one-lists, rows_then)

  wide-front : (ps os : List Outer) → Wide (ps ++ os) → Wide ps
  wide-front ps os h =
      let a = length-append ps os in
      let b : length (inner (ps ++ os)) ≡ length (inner ps) + length (inner os) = rw (inner-append ps os, length-append) in
      let c : length (flat (inner (ps ++ os))) ≡ length (flat (inner ps)) + length (flat (inner os)) = rw (inner-append ps os, flat_append (inner ps) (inner os), length-append) in
      record {
        offsets = omega (arith, h.offsets);
        rows = omega (arith, h.rows);
        lists = record { offsets = omega (arith, h.lists.offsets); rows = omega (arith, h.lists.rows); values = omega (arith, h.lists.values); elements = omega (arith, h.lists.elements) };
      }

  outers_all : (os ps : List Outer) → Wide (ps ++ os) → put_outers (whole ps) os ≡ whole (ps ++ os)
  unfolding put_outers
  outers_all [] ps h = rw append-nil
  outers_all (o ∷ os) ps h =
      rw (put_one ps o (wide-front (ps ++ (o ∷ [])) os (rw append_assoc h)))
      (outers_all os (ps ++ (o ∷ [])) (rw append_assoc h) ∙ rw (append_assoc ps (o ∷ []) os))

  starts : 0 < length d₁ → 0 < length d₃ → outers (set d₁ 0 (pos 0)) d₂ 0 (outs (set d₃ 0 (pos 0)) d₄ d₅ d₆ 0 0) ≡ whole []
  unfolding pack pack_n inner offsets_from
  starts h k = rw (start-formed d₃ d₄ d₅ d₆ k) (first d₁ h)
    where
      first : (l : List ℤ) → 0 < length l → outers (set l 0 (pos 0)) d₂ 0 (formed d₃ d₄ d₅ d₆ []) ≡ outers (over (offsets_from 0 []) l) d₂ 0 (formed d₃ d₄ d₅ d₆ [])
      first [] h = let z : ⊥ = omega arith in absurd z
      first (x ∷ l) h = refl

  walked : (os : List Outer) → Wide os → put_outers (outers (set d₁ 0 (pos 0)) d₂ 0 (outs (set d₃ 0 (pos 0)) d₄ d₅ d₆ 0 0)) os ≡ whole os
  walked os h = rw (starts (omega (arith, h.offsets)) (omega (arith, h.lists.offsets))) (outers_all os [] h)

  wide : {L : Limits} (os : List Outer) → RoomForOutersˡ L os (length d₁) (length d₂) (length d₃) (length d₄) (length d₅) (length d₆) → Wide os
  wide os h =
      let r = h.lists.room in
      record {
        offsets = h.offsets;
        rows = h.rows;
        lists = record { offsets = omega (arith, r.offsets); rows = omega (arith, r.rows); values = omega (arith, r.values); elements = omega (arith, r.elements) };
      }

-- ---- the walk: O r is the outer row that is made for row r, of n

pub record Repeating (L : Limits) (O : ℕ → Outer) (n : ℕ) (oo₀ : List ℤ) (ob₀ : List ℕ) (io₀ : List ℤ) (ir₀ : List ℕ) (v₀ : List ℤ) (e₀ : List ℕ) (oo : List ℤ) (ob : List ℕ) (io : List ℤ) (ir : List ℕ) (v : List ℤ) (e : List ℕ) (r i at left : ℕ) : Type 0 where
  pub same : put_outers (outers oo ob r (outs io ir v e i at)) (tab O r left) ≡ put_outers (outers oo₀ ob₀ 0 (outs io₀ ir₀ v₀ e₀ 0 0)) (tab O 0 n)
  pub rows : r + left ≡ n
  pub fits : RoomForRowsˡ L (inner (tab O r left)) i at (length io) (length ir) (length v) (length e)
  pub lo : length oo ≡ length oo₀
  pub lr : length ob ≡ length ob₀
  pub li : length io ≡ length io₀
  pub lj : length ir ≡ length ir₀
  pub lv : length v ≡ length v₀
  pub le : length e ≡ length e₀

outers-more : (os os' : List Outer) (x : Outer) (a a' G : Outers) → os ≡ x ∷ os' → a' ≡ put_outer a x → put_outers a os ≡ G → put_outers a' os' ≡ G
unfolding put_outers
outers-more os os' x a a' G n p h = rw p (rw n at h)

module _ (L : Limits) (O : ℕ → Outer) (n : ℕ) where
  pub outer_begun : {oo : List ℤ} {ob : List ℕ} {io : List ℤ} {ir : List ℕ} {v : List ℤ} {e : List ℕ} → RoomForRowsˡ L (inner (tab O 0 n)) 0 0 (length io) (length ir) (length v) (length e) → Repeating L O n oo ob io ir v e oo ob io ir v e 0 0 0 n
  outer_begun f = record { same = refl; rows = omega arith; fits = f; lo = refl; lr = refl; li = refl; lj = refl; lv = refl; le = refl }

  -- a turn that writes outer row r, the rows ws
  module _ {oo₀ : List ℤ} {ob₀ : List ℕ} {io₀ : List ℤ} {ir₀ : List ℕ} {v₀ : List ℤ} {e₀ : List ℕ} {oo : List ℤ} {ob : List ℕ} {io : List ℤ} {ir : List ℕ} {v : List ℤ} {e : List ℕ} {r i at left : ℕ} (ws : List Row) (h : 0 < left) (same_rows : inner_of (O r) ≡ ws) (s : Repeating L O n oo₀ ob₀ io₀ ir₀ v₀ e₀ oo ob io ir v e r i at left) where
    rows_turn : length (inner (tab O r left)) ≡ length ws + length (inner (tab O (r + 1) (left - 1)))
    unfolding inner
    rows_turn = rw (tab-step O r left h, length-append, same_rows)

    elems_turn : length (flat (inner (tab O r left))) ≡ length (flat ws) + length (flat (inner (tab O (r + 1) (left - 1))))
    unfolding inner
    elems_turn = rw (tab-step O r left h, flat_append (inner_of (O r)) (inner (tab O (r + 1) (left - 1))), length-append, same_rows)

    pub outer-fits : RoomForRowsˡ L ws i at (length io) (length ir) (length v) (length e)
    outer-fits = fits_as s.fits (omega (arith, rows_turn)) (omega (arith, elems_turn)) refl refl refl refl

    pub outer-few : i + length ws ≤ L.outer
    outer-few = outer-fits.few

    module _ (m : RoomForOutersˡ L (tab O 0 n) (length oo₀) (length ob₀) (length io₀) (length ir₀) (length v₀) (length e₀)) where
      pub outer-bit : r / 8 < length ob
      outer-bit = omega (arith, s.rows, s.lr, m.rows, length-tab O 0 n)

      pub outer_slot : r + 1 < length oo
      outer_slot = omega (arith, s.rows, s.lo, m.offsets, length-tab O 0 n)

    module _ {io' : List ℤ} {ir' : List ℕ} {v' : List ℤ} {e' : List ℕ} (t k : ℕ) (eq : t ≡ length ws) (p : outs io' ir' v' e' (i + length ws) k ≡ put_rows (outs io ir v e i at) ws) where
      place : k ≡ at + length (flat ws)
      place = ap (λ (x : Outs). x.at) p ∙ put_at (outs io ir v e i at) ws

      kept : SameLengths (outs io ir v e i at) (outs io' ir' v' e' (i + length ws) k)
      kept = rw p (lengths_kept (outs io ir v e i at) ws)

      outer_same : (on : Bool) (oo' : List ℤ) (ob' : List ℕ) → is_outer (O r) ≡ on → ob' ≡ push_bit ob r on → oo' ≡ set oo (r + 1) (pos (i + t)) → outers oo' ob' (r + 1) (outs io' ir' v' e' (i + t) k) ≡ put_outer (outers oo ob r (outs io ir v e i at)) (O r)
      outer_same on oo' ob' b q o = rw (eq, p, q, o, b, same_rows, eq)

      pub outer-more : (on : Bool) {oo' : List ℤ} {ob' : List ℕ} → is_outer (O r) ≡ on → ob' ≡ push_bit ob r on → oo' ≡ set oo (r + 1) (pos (i + t)) → Repeating L O n oo₀ ob₀ io₀ ir₀ v₀ e₀ oo' ob' io' ir' v' e' (r + 1) (i + t) k (left - 1)
      outer-more on {oo'} {ob'} b q o = record {
        same = outers-more _ _ (O r) _ _ _ (tab-step O r left h) (outer_same on oo' ob' b q o) s.same;
        rows = omega (arith, s.rows);
        fits = fits_as s.fits (omega (arith, rows_turn)) (omega (arith, elems_turn, place)) kept.offsets kept.rows kept.values kept.elements;
        lo = ap length o ∙ length-set oo (r + 1) (pos (i + t)) ∙ s.lo;
        lr = ap length q ∙ length-push_bit ob r on ∙ s.lr;
        li = kept.offsets ∙ s.li;
        lj = kept.rows ∙ s.lj;
        lv = kept.values ∙ s.lv;
        le = kept.elements ∙ s.le;
      }

  -- the end
  pub outer_done : (d₁ : List ℤ) (d₃ : List ℤ) {oo₀ : List ℤ} {ob₀ : List ℕ} {io₀ : List ℤ} {ir₀ : List ℕ} {v₀ : List ℤ} {e₀ : List ℕ} {oo : List ℤ} {ob : List ℕ} {io : List ℤ} {ir : List ℕ} {v : List ℤ} {e : List ℕ} {r i at left : ℕ}
      → Repeating L O n oo₀ ob₀ io₀ ir₀ v₀ e₀ oo ob io ir v e r i at left → left ≤ 0 → oo₀ ≡ set d₁ 0 (pos 0) → io₀ ≡ set d₃ 0 (pos 0)
      → RoomForOutersˡ L (tab O 0 n) (length d₁) (length ob₀) (length d₃) (length ir₀) (length v₀) (length e₀) → FillsOutersˡ (tab O 0 n) d₁ oo ob₀ ob d₃ io ir₀ ir v₀ v e₀ e
  unfolding put_outers
  outer_done d₁ d₃ {ob₀ = ob₀} {ir₀ = ir₀} {v₀ = v₀} {e₀ = e₀} {r = r} {left = left} s h q t m =
      let w = walked d₁ ob₀ d₃ ir₀ v₀ e₀ (tab O 0 n) (wide d₁ ob₀ d₃ ir₀ v₀ e₀ (tab O 0 n) m) in
      let z = (rw (tab-none O r left h, q, t) at s.same) ∙ w in
      record {
        offsets = ap (λ (x : Outers). x.offsets) z;
        rows = ap (λ (x : Outers). x.rows) z;
        lists = record {
          offsets = ap (λ (x : Outers). x.lists.offsets) z;
          rows = ap (λ (x : Outers). x.lists.rows) z;
          values = ap (λ (x : Outers). x.lists.values) z;
          elements = ap (λ (x : Outers). x.lists.elements) z;
        };
      }
