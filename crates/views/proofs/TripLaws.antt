-- "Import shows the same rows", and "export then import gives the result form".
use mathlib.Core.Path.{◌≡◌, refl, sym, ap, ◌∙◌}
use mathlib.Core.Bool.{Bool, true, false}
use mathlib.Core.List.{List, [], ◌∷◌, ◌++◌, map, append_assoc}
use Prim.Native.Nat.{ℕ, zero, suc, ◌+◌, ◌-◌, ◌≤◌, ◌<◌}
use native.Mathlib.Omega.{arith}
use borrow.Author.Tests.{le-ltb, eq-eqb}
use lib.Dec.{ltb}
use lib.IntN.{ℤ, pos}
use lib.ListN.{length, get_or, take, drop, length-append}
use lib.Seq.{take_at}
use Rattle.model.specs.Basics.{none, more, pick, tab, any}
use Rattle.model.specs.Bitmap.{from, bytes_for}
use Rattle.model.specs.Call.{written}
use Rattle.model.specs.Column.{Elem, Row, null_row, list_row, Column, count, offset_at, elem_at, row_at, rows_of}
use Rattle.model.specs.Contract.{ViewMeets}
use Rattle.model.specs.Form.{Room, is_val, value_of, is_row, elems_of, length_of, flat, fits_in, form_rows, form_values, form_elements}
use Rattle.model.specs.Limits.{Limits, narrow}
use Rattle.model.specs.Outcome.{Outcome, refused, made, gate, fitted, columns_refusal}
use Rattle.model.specs.Answers.{ListAnswer}
use Rattle.model.specs.View.{View, view, ViewRoom, view_at, view_rows, view_outside, refusal13ᵛ, refusal2ᵛ, refusal3ᵛ, refusal11, view_refusal, WellFormedᵛ, view_offsets_from, view_offsets, view_sizes, fits_view, import_shown, import_outcome, export_shown, export_outcome}
use Rattle.model.proofs.BoolLaws.{never}
use Rattle.model.proofs.FormLaws.{length-pack}
use Rattle.model.proofs.OutcomeLaws.{gate_open, gate_shut}
use Rattle.model.proofs.TabLaws.{length-map, length-tab, tab-last}
use Rattle.model.proofs.ViewLaws.{formed-view, length-view}
use Rattle.column.specs.Put.{Readable}
use Rattle.column.specs.Rows.{len_from}
use Rattle.column.proofs.AnswerLaws.{fitted-made}
use Rattle.column.proofs.OffsetLaws.{mono}
use Rattle.column.proofs.PutLaws.{flat_snoc}
use Rattle.column.proofs.ReadLaws.{formed, shows, row_again, valid_seam, part_seam, short-pack}
use Rattle.column.proofs.RowLaws.{flat_append, elems_from, len_from_le, length_none}
use Rattle.column.proofs.WalkLaws.{readable, row_from_lem}

-- ---- what an accepted call made

gate-made : {A : Type 0} (k : ℕ) (o : Outcome A) (a : A) → gate k o ≡ made a → (k ≡ 0) × (o ≡ made a)
unfolding gate
gate-made zero o a h = (refl, h)
gate-made (suc k) o a h = let q = sym (gate_shut (suc k) o (λ e. omega arith)) ∙ h in never cc

test_made : {A : Type 0} (t : Bool) (k : ℕ) (a b : A) → pick t (made a) (refused k) ≡ made b → b ≡ a
test_made true k a b h = cc
test_made false k a b h = never cc

-- an accepted import makes the rows that the view shows, and the column in result form that it writes shows them
pub import_shows : (K : Limits) (c : View) (l : Room) (ws : List Row) → import_outcome K c l ≡ made ws → (ws ≡ view_rows c) × (rows_of (formed ws) ≡ view_rows c)
unfolding import_outcome import_shown fitted
import_shows K c l ws h =
    let a = gate-made (view_refusal c) (import_shown K (view_rows c) l) ws h in
    let b = gate-made (pick (ltb K.offset (length (flat (view_rows c)))) 8 0) (fitted (view_rows c) l) ws a.1 in
    let e = test_made (fits_in (length (view_rows c)) (length (flat (view_rows c))) l) 9 (view_rows c) ws b.1 in
    (e, shows ws ∙ e)

-- an accepted export makes the rows of the column
pub export_shows : (c : Column) (l : ViewRoom) (ws : List Row) → export_outcome c l ≡ made ws → (columns_refusal (c ∷ []) [] ≡ 0) × (ws ≡ rows_of c)
unfolding export_outcome export_shown
export_shows c l ws h =
    let a = gate-made (columns_refusal (c ∷ []) []) (export_shown (rows_of c) l) ws h in
    (a.0, test_made (fits_view (length (rows_of c)) (length (flat (rows_of c))) l) 9 (rows_of c) ws a.1)

-- ---- the view that an export writes for the rows ws

abbrev pub viewed : List Row → View
viewed ws = view (view_offsets ws) (view_sizes ws) (from 0 (form_rows ws)) (form_values (flat ws)) (from 0 (form_elements (flat ws)))

begin_seam : (at : ℕ) (ps : List Row) (w : Row) (qs : List Row) → get_or (view_offsets_from at (ps ++ w ∷ qs)) (length ps) (pos 0) ≡ pos (pick (is_row w) (at + length (flat ps)) 0)
unfolding view_offsets_from flat
begin_seam at [] w qs = let e : at + 0 ≡ at = omega arith in rw e
begin_seam at (p ∷ ps) w qs =
    let e : at + length (elems_of p) + length (flat ps) ≡ at + length (elems_of p ++ flat ps) = omega (arith, length-append (elems_of p) (flat ps)) in
    begin_seam (at + length_of p) ps w qs ∙ rw e

size_seam : (ps : List Row) (w : Row) (qs : List Row) → get_or (view_sizes (ps ++ w ∷ qs)) (length ps) (pos 0) ≡ pos (length_of w)
size_seam [] w qs = refl
size_seam (p ∷ ps) w qs = size_seam ps w qs

-- where a null row begins is not looked at
pick_begin : {A : Type 0} (b : Bool) (n : ℕ) (f : ℕ → A) (z : A) → pick b (f (pick b n 0)) z ≡ pick b (f n) z
pick_begin true n f z = refl
pick_begin false n f z = refl

pick_within : (b : Bool) (n : ℕ) → pick b n 0 ≤ n
pick_within true n = omega arith
pick_within false n = omega arith

module _ (ps : List Row) (w : Row) (qs : List Row) where
  abbrev all : List Row
  all = ps ++ w ∷ qs

  abbrev E : ℕ → Elem
  E = elem_at (form_values (flat all)) (from 0 (form_elements (flat all)))

  view_seam : view_at (viewed all) (length ps) ≡ w
  unfolding view_at count
  view_seam =
      let z : 0 + length (flat ps) ≡ length (flat ps) = omega arith in
      rw (valid_seam ps w qs, begin_seam 0 ps w qs, size_seam ps w qs, z)
      (pick_begin (is_row w) (length (flat ps)) (λ a. list_row (tab E a (length_of w))) null_row ∙ rw (part_seam ps w qs) (row_again w))

  total : length (form_values (flat all)) ≡ length (flat ps) + (length_of w + length (flat qs))
  unfolding flat
  total = length-map value_of (flat all) ∙ rw (flat_append ps (w ∷ qs), length-append (flat ps) (elems_of w ++ flat qs), length-append (elems_of w) (flat qs))

  inside_seam : view_outside (viewed all) (length ps) ≡ false
  unfolding view_outside count
  inside_seam =
      let n = length (form_values (flat all)) in
      let a = pick (is_row w) (0 + length (flat ps)) 0 in
      let s = length_of w in
      let p : a ≤ 0 + length (flat ps) = pick_within (is_row w) (0 + length (flat ps)) in
      rw (begin_seam 0 ps w qs, size_seam ps w qs, le-ltb a 0 (omega arith), le-ltb s 0 (omega arith), le-ltb n a (omega (arith, total)), le-ltb n s (omega (arith, total)), le-ltb n (a + s) (omega (arith, total)))

-- what is said of the rows from the next one on, said of those after the rows before with this one among them
module _ (q : Row) (qs ps : List Row) where
  longer : suc (length ps) ≡ length (ps ++ (q ∷ []))
  longer = omega (arith, length-append ps (q ∷ []))

  joined : (ps ++ (q ∷ [])) ++ qs ≡ ps ++ (q ∷ qs)
  joined = append_assoc ps (q ∷ []) qs

  next_rows : tab (view_at (viewed ((ps ++ (q ∷ [])) ++ qs))) (length (ps ++ (q ∷ []))) (length qs) ≡ qs → tab (view_at (viewed (ps ++ (q ∷ qs)))) (suc (length ps)) (length qs) ≡ qs
  next_rows h = rw (longer, ← joined) h

  next_none : any (view_outside (viewed ((ps ++ (q ∷ [])) ++ qs))) (tab (λ r. r) (length (ps ++ (q ∷ []))) (length qs)) ≡ false → any (view_outside (viewed (ps ++ (q ∷ qs)))) (tab (λ r. r) (suc (length ps)) (length qs)) ≡ false
  next_none h = rw (longer, ← joined) h

rows_seam : (qs ps : List Row) → tab (view_at (viewed (ps ++ qs))) (length ps) (length qs) ≡ qs
unfolding tab
rows_seam [] ps = refl
rows_seam (q ∷ qs) ps = rw (view_seam ps q qs) (ap (λ (r : List Row). q ∷ r) (next_rows q qs ps (rows_seam qs (ps ++ (q ∷ [])))))

none_seam : (qs ps : List Row) → any (view_outside (viewed (ps ++ qs))) (tab (λ r. r) (length ps) (length qs)) ≡ false
unfolding any tab
none_seam [] ps = refl
none_seam (q ∷ qs) ps = rw (inside_seam ps q qs) (next_none q qs ps (none_seam qs (ps ++ (q ∷ []))))

-- it shows them
pub viewed_shows : (ws : List Row) → view_rows (viewed ws) ≡ ws
unfolding view_rows
viewed_shows ws = rw (length-view 0 ws) (rows_seam ws [])

-- and is well-formed
pub viewed_formed : (ws : List Row) → WellFormedᵛ (viewed ws)
unfolding refusal13ᵛ refusal2ᵛ refusal3ᵛ refusal11
viewed_formed ws =
    let n = length-view 0 ws in
    let s = length-map (λ w. pos (length_of w)) ws in
    record {
      not13 = refl;
      not2 = rw (short-pack (map is_row ws) (length (view_offsets ws)) (n ∙ sym (length-map is_row ws)), short-pack (map is_val (flat ws)) (length (form_values (flat ws))) (length-map value_of (flat ws) ∙ sym (length-map is_val (flat ws))));
      not3 = rw (eq-eqb (length (view_sizes ws)) (length (view_offsets ws)) (s ∙ sym n));
      not11 = rw n (none_seam ws []);
    }

-- so that an import of it makes them again, in outputs that are long enough
pub viewed_made : (K : Limits) (ws : List Row) (l : Room) → length (flat ws) ≤ K.offset → fits_in (length ws) (length (flat ws)) l ≡ true → import_outcome K (viewed ws) l ≡ made ws
unfolding import_outcome import_shown
viewed_made K ws l h f =
    gate_open (view_refusal (viewed ws)) _ (formed-view (more (viewed_formed ws) none))
    ∙ rw (viewed_shows ws, le-ltb K.offset (length (flat ws)) h) (gate_open 0 _ refl ∙ fitted-made ws l f)

-- ---- a column with such offsets shows no more elements than its last offset

module _ (c : Column) (w : Readable c) where
  elems_within : (r : ℕ) → r + 1 < length c.offsets → offset_at c.offsets r + length (elems_of (row_at c r)) ≤ offset_at c.offsets (r + 1)
  elems_within r h =
      let a = offset_at c.offsets r in
      let b = offset_at c.offsets (r + 1) in
      let E = elem_at c.values c.elements in
      let e : length (elems_of (row_at c r)) ≡ len_from c.rows r a b = rw (← row_from_lem c r a b refl refl, elems_from c.rows r a b E) (length-tab E a (len_from c.rows r a b)) in
      omega (arith, len_from_le c.rows r a b (mono c.offsets (length c.values) r w.offsets h))

  flat_within : (n : ℕ) → n < length c.offsets → length (flat (tab (row_at c) 0 n)) ≤ offset_at c.offsets n
  flat_within zero h = omega (arith, length_none (row_at c) 0 0 (omega arith))
  flat_within (suc n) h =
      let e : n + 1 ≡ suc n = omega arith in
      let z : 0 + n ≡ n = omega arith in
      let i = flat_within n (omega arith) in
      let s = rw e at (elems_within n (omega arith)) in
      rw (tab-last (row_at c) 0 n, z, flat_snoc (tab (row_at c) 0 n) (row_at c n), length-append (flat (tab (row_at c) 0 n)) (elems_of (row_at c n))) (omega arith)

  pub rows_within : (L : ℕ) → ((r : ℕ) → offset_at c.offsets r ≤ L) → length (flat (rows_of c)) ≤ L
  unfolding rows_of
  rows_within L h = go (length c.offsets) refl
    where
      go : (n : ℕ) → length c.offsets ≡ n → length (flat (tab (row_at c) 0 (n - 1))) ≤ L
      go zero e = omega (arith, length_none (row_at c) 0 (0 - 1) (omega arith))
      go (suc n) e =
          let d : suc n - 1 ≡ n = omega arith in
          let i = flat_within n (omega arith) in
          rw d (omega (arith, h n))

-- ---- the whole trip

-- the view that the slots before an answer's counts hold
abbrev pub front_view : ℕ → ℕ → List ℤ → List ℤ → List ℕ → List ℤ → List ℕ → View
front_view n k o s r v e = view (take n o) (take n s) (from 0 (take (bytes_for n) r)) (take k v) (from 0 (take (bytes_for k) e))

module _ {x : Outcome (List Row)} (ws : List Row) {a : ListAnswer} {o o' s s' : List ℤ} {r r' : List ℕ} {v v' : List ℤ} {e e' : List ℕ} (q : x ≡ made ws) (h : ViewMeets x a o o' s s' r r' v v' e e') where
  told-made : ViewMeets (made ws) a o o' s s' r r' v v' e e'
  told-made = rw q at h

  -- an accepted export wrote the view of the rows made
  pub front_viewed : front_view (length ws) (length (flat ws)) o' s' r' v' e' ≡ viewed ws
  unfolding written
  front_viewed =
      rw (
        told-made.offsets,
        told-made.sizes,
        told-made.rows,
        told-made.values,
        told-made.elements,
        take_at (view_offsets ws) (drop (length (view_offsets ws)) o) (length ws) (length-view 0 ws),
        take_at (view_sizes ws) (drop (length (view_sizes ws)) s) (length ws) (length-map (λ w. pos (length_of w)) ws),
        take_at (form_rows ws) (drop (length (form_rows ws)) r) (bytes_for (length ws)) (length-pack (map is_row ws) ∙ ap bytes_for (length-map is_row ws)),
        take_at (form_values (flat ws)) (drop (length (form_values (flat ws))) v) (length (flat ws)) (length-map value_of (flat ws)),
        take_at (form_elements (flat ws)) (drop (length (form_elements (flat ws))) e) (bytes_for (length (flat ws))) (length-pack (map is_val (flat ws)) ∙ ap bytes_for (length-map is_val (flat ws))),
      )

-- "export then import gives the result form": an accepted export of a column with 32-bit offsets, and an import of what it wrote into outputs
-- that are long enough for the column's rows, make the column's rows
pub export_import : (c : Column) (l : ViewRoom) (ws : List Row) {a : ListAnswer} {o o' s s' : List ℤ} {r r' : List ℕ} {v v' : List ℤ} {e e' : List ℕ}
    → ((i : ℕ) → offset_at c.offsets i ≤ narrow.offset) → export_outcome c l ≡ made ws → ViewMeets (export_outcome c l) a o o' s s' r r' v v' e e'
    → (m : Room) → fits_in (length (rows_of c)) (length (flat (rows_of c))) m ≡ true
    → import_outcome narrow (front_view (length ws) (length (flat ws)) o' s' r' v' e') m ≡ made (rows_of c)
export_import c l ws b q h m f =
    let p = export_shows c l ws q in
    rw (front_viewed ws q h, p.1) (viewed_made narrow (rows_of c) m (rows_within c (readable c p.0) narrow.offset b) f)
