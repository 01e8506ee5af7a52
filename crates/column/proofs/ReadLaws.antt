-- Laws of reading what was written in result form: elements, a row among others, its bitmaps, and the column, which shows the rows that it
-- was written from.
use mathlib.Core.Path.{◌≡◌, refl, sym, ap, ◌∙◌}
use mathlib.Core.Bool.{Bool, true, false, not, ◌&&◌}
use mathlib.Core.List.{List, [], ◌∷◌, ◌++◌, map, append_assoc}
use Prim.Native.Nat.{ℕ, zero, suc, ◌+◌, ◌-◌, ◌≤◌, ◌<◌}
use native.Mathlib.Omega.{arith}
use borrow.Author.Tests.{le-ltb}
use lib.Dec.{ltb, eqb}
use lib.IntN.{pos}
use lib.ListN.{length, get_or, length-append, get_or-append}
use lib.Seq.{get_or-append-add, get_or-append_seam}
use Rattle.model.specs.Basics.{pick, tab}
use Rattle.model.specs.Bitmap.{from, pack, bytes_for, valid_at, short_bits}
use Rattle.model.specs.Column.{Elem, nul, val, Row, null_row, list_row, Column, column, count, offset_at, elem_at, row_at, rows_of, row_count, falls, bad_offsets}
use Rattle.model.specs.Form.{is_val, value_of, is_row, elems_of, length_of, flat, offsets_from, form_offsets, form_rows, form_values, form_elements}
use Rattle.model.proofs.TabLaws.{length-map, tab-get_or}
use Rattle.model.proofs.FormLaws.{length-pack, length-offsets}
use Rattle.bitmap.proofs.PackLaws.{valid_pack}
use Rattle.column.specs.Put.{Readable}
use Rattle.column.proofs.RowLaws.{flat_append}
use Rattle.column.proofs.PutLaws.{flat_snoc}

-- ---- elements

get_or_within : {A B : Type 0} (f : A → B) (l : List A) (i : ℕ) (a : A) (b : B) → i < length l → get_or (map f l) i b ≡ f (get_or l i a)
get_or_within f [] i a b h = let z : ⊥ = omega arith in absurd z
get_or_within f (x ∷ l) zero a b h = refl
get_or_within f (x ∷ l) (suc i) a b h = get_or_within f l i a b (omega arith)

elem_again : (e : Elem) → pick (is_val e) (val (value_of e)) nul ≡ e
unfolding is_val value_of
elem_again nul = refl
elem_again (val v) = refl

pub elem_form : (es : List Elem) (i : ℕ) → i < length es → elem_at (map value_of es) (from 0 (pack (map is_val es))) i ≡ get_or es i nul
unfolding elem_at
elem_form es i h =
    rw (valid_pack (map is_val es) i (omega (arith, length-map is_val es)), get_or_within is_val es i nul false h, get_or_within value_of es i nul (pos 0) h)
    (elem_again (get_or es i nul))

-- elements in the middle
pub part_form : (xs ys zs : List Elem) → let es = xs ++ (ys ++ zs) in tab (elem_at (map value_of es) (from 0 (pack (map is_val es)))) (length xs) (length ys) ≡ ys
part_form xs ys zs = tab-get_or _ (length xs) ys nul at
  where
    at : (i : ℕ) → i < length ys → elem_at (map value_of (xs ++ (ys ++ zs))) (from 0 (pack (map is_val (xs ++ (ys ++ zs))))) (length xs + i) ≡ get_or ys i nul
    at i h =
        elem_form (xs ++ (ys ++ zs)) (length xs + i) (omega (arith, length-append xs (ys ++ zs), length-append ys zs))
        ∙ get_or-append-add xs (ys ++ zs) i nul
        ∙ get_or-append ys zs nul i h

-- ---- rows

pub row_again : (w : Row) → pick (is_row w) (list_row (elems_of w)) null_row ≡ w
unfolding is_row elems_of
row_again null_row = refl
row_again (list_row es) = refl

flat_cons : (w : Row) (qs : List Row) → flat (w ∷ qs) ≡ elems_of w ++ flat qs
unfolding flat
flat_cons w qs = refl

module _ (ps : List Row) (w : Row) (qs : List Row) where
  pub valid_seam : valid_at (from 0 (form_rows (ps ++ w ∷ qs))) (length ps) ≡ is_row w
  valid_seam =
      valid_pack (map is_row (ps ++ w ∷ qs)) (length ps) (omega (arith, length-map is_row (ps ++ w ∷ qs), length-append ps (w ∷ qs)))
      ∙ get_or_within is_row (ps ++ w ∷ qs) (length ps) w false (omega (arith, length-append ps (w ∷ qs)))
      ∙ ap is_row (get_or-append_seam ps w qs w)

  pub part_seam : tab (elem_at (form_values (flat (ps ++ w ∷ qs))) (from 0 (form_elements (flat (ps ++ w ∷ qs))))) (length (flat ps)) (length (elems_of w)) ≡ elems_of w
  part_seam = rw (flat_append ps (w ∷ qs), flat_cons w qs) (part_form (flat ps) (elems_of w) (flat qs))

-- ---- bitmaps

and_false : (b : Bool) → b && false ≡ false
and_false true = refl
and_false false = refl

pub short-pack : (fs : List Bool) (n : ℕ) → n ≡ length fs → short_bits (from 0 (pack fs)) n ≡ false
unfolding short_bits
short-pack fs n e =
    let l : ltb (length (pack fs)) (bytes_for (0 + n)) ≡ false = le-ltb (length (pack fs)) (bytes_for (0 + n)) (omega (arith, length-pack fs)) in
    rw l (and_false (not (eqb (length (pack fs)) 0)))

-- ---- a column

offset-first : (a : ℕ) (ns : List ℕ) → offset_at (offsets_from a ns) 0 ≡ a
unfolding offsets_from count
offset-first a [] = refl
offset-first a (n ∷ ns) = refl

offset_seam : (a : ℕ) (ps qs : List Row) → offset_at (offsets_from a (map length_of (ps ++ qs))) (length ps) ≡ a + length (flat ps)
unfolding offsets_from flat
offset_seam a [] qs = offset-first a (map length_of qs) ∙ omega arith
offset_seam a (p ∷ ps) qs = offset_seam (a + length (elems_of p)) ps qs ∙ omega (arith, length-append (elems_of p) (flat ps))

abbrev pub formed : List Row → Column
formed ws = column (form_offsets ws) (from 0 (form_rows ws)) (form_values (flat ws)) (from 0 (form_elements (flat ws)))

module _ (ps : List Row) (w : Row) (qs : List Row) where
  next_seam : offset_at (form_offsets (ps ++ w ∷ qs)) (length ps + 1) ≡ length (flat ps) + length (elems_of w)
  next_seam =
      let e : length ps + 1 ≡ length (ps ++ (w ∷ [])) = omega (arith, length-append ps (w ∷ [])) in
      let s : length (flat (ps ++ (w ∷ []))) ≡ length (flat ps) + length (elems_of w) = rw (flat_snoc ps w, length-append) in
      let j : (ps ++ (w ∷ [])) ++ qs ≡ ps ++ (w ∷ qs) = append_assoc ps (w ∷ []) qs in
      rw (e, ← j) (offset_seam 0 (ps ++ (w ∷ [])) qs ∙ omega arith)

  row_seam : row_at (formed (ps ++ w ∷ qs)) (length ps) ≡ w
  unfolding row_at
  row_seam =
      let a : offset_at (form_offsets (ps ++ w ∷ qs)) (length ps) ≡ length (flat ps) = offset_seam 0 ps (w ∷ qs) ∙ omega arith in
      let n : length (flat ps) + length (elems_of w) - length (flat ps) ≡ length (elems_of w) = omega arith in
      rw (valid_seam ps w qs, a, next_seam, n, part_seam ps w qs) (row_again w)

-- the rows from the next one on, as those of the rows before with this one among them
next_rows : (q : Row) (qs ps : List Row) → tab (row_at (formed ((ps ++ (q ∷ [])) ++ qs))) (length (ps ++ (q ∷ []))) (length qs) ≡ qs → tab (row_at (formed (ps ++ q ∷ qs))) (suc (length ps)) (length qs) ≡ qs
next_rows q qs ps h =
    let e : suc (length ps) ≡ length (ps ++ (q ∷ [])) = omega (arith, length-append ps (q ∷ [])) in
    let j : (ps ++ (q ∷ [])) ++ qs ≡ ps ++ (q ∷ qs) = append_assoc ps (q ∷ []) qs in
    rw (e, ← j) h

rows_seam : (qs ps : List Row) → tab (row_at (formed (ps ++ qs))) (length ps) (length qs) ≡ qs
unfolding tab
rows_seam [] ps = refl
rows_seam (q ∷ qs) ps = rw (row_seam ps q qs) (ap (λ (r : List Row). q ∷ r) (next_rows q qs ps (rows_seam qs (ps ++ (q ∷ [])))))

-- the round trip
pub shows : (ws : List Row) → rows_of (formed ws) ≡ ws
unfolding rows_of
shows ws =
    let e : row_count (form_offsets ws) ≡ length ws = omega (arith, length-offsets 0 (map length_of ws), length-map length_of ws) in
    rw e (rows_seam ws [])

-- ---- what was written is read

falls_form : (a n : ℕ) (ws : List Row) → a + length (flat ws) ≤ n → (b : ℕ) → b ≤ a → falls (pos b) (offsets_from a (map length_of ws)) n ≡ false
unfolding falls offsets_from flat
falls_form a n [] h b k = rw (le-ltb a b k, le-ltb n a (omega arith))
falls_form a n (w ∷ ws) h b k = rw (le-ltb a b k) (falls_form (a + length (elems_of w)) n ws (omega (arith, length-append (elems_of w) (flat ws))) a (omega arith))

bad_form : (ws : List Row) (n : ℕ) → length (flat ws) ≤ n → bad_offsets (form_offsets ws) n ≡ false
unfolding bad_offsets offsets_from falls flat
bad_form [] n h = rw (le-ltb 0 0 (omega arith), le-ltb n 0 (omega arith))
bad_form (w ∷ ws) n h = rw (le-ltb 0 0 (omega arith)) (falls_form (0 + length (elems_of w)) n ws (omega (arith, length-append (elems_of w) (flat ws))) 0 (omega arith))

pub formed_readable : (ws : List Row) → Readable (formed ws)
formed_readable ws = record {
  offsets = bad_form ws (length (form_values (flat ws))) (omega (arith, length-map value_of (flat ws)));
  rows = record { small = omega arith; long = short-pack (map is_row ws) (row_count (form_offsets ws)) (omega (arith, length-offsets 0 (map length_of ws), length-map length_of ws, length-map is_row ws)) };
  elements = record { small = omega arith; long = short-pack (map is_val (flat ws)) (length (form_values (flat ws))) (length-map value_of (flat ws) ∙ sym (length-map is_val (flat ws))) };
}
