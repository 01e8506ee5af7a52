-- A run that meets its contract ends in what the definitions say of its call.
use mathlib.Core.Path.{◌≡◌, refl, sym, ap}
use Rattle.std.specs.Prelude.{Ok, Err}
use mathlib.Core.List.{List, map}
use Prim.Native.Nat.{ℕ, ◌+◌}
use native.Mathlib.Omega.{arith}
use lib.ListN.{length, take, drop}
use lib.Seq.{take_at}
use lib.IntN.{ℤ, pos}
use Rattle.model.specs.Basics.{Lent, given}
use Rattle.model.specs.Bitmap.{bytes_for, pack}
use Rattle.model.specs.Limits.{Limits}
use Rattle.model.specs.Column.{Elem, Row, Column, Arguments}
use Rattle.model.specs.View.{View, view_offsets, view_sizes}
use Rattle.model.specs.Grade.{grade_of, grades_of, graded, graded_move}
use Rattle.model.specs.Tally.{Tally, moved, move_of, tallied}
use Rattle.model.specs.Form.{Room, is_val, is_row, value_of, Outer, is_outer, outer_length, inner, flat, length_of, over, offsets_from, form_offsets, form_rows, form_values, form_elements}
use Rattle.model.specs.Outcome.{Outcome, refused, made}
use Rattle.model.specs.Call.{Call, answer_of, written, End, list_numbers, list_bitmaps, list_end, value_end, repeat_end, trays_end, recipe_end, window_end, view_end, measure_end, end, grade_end, graded_end, hashed_end}
use Rattle.model.specs.Contract.{told, told_value, told_repeat, ListMeets, ViewMeets, ValueMeets, RepeatMeets, Zeroed, told_grade, GradeMeets, Grades, HashMeets}
use Rattle.model.specs.Run.{list_run_end, value_run_end, repeat_run_end, recipe_run_end, Run, list_run, any_value_run, element_run, repeat_run, recipe_run, measure_list_run, measure_any_value_run, measure_element_run, measure_repeat_run, limit_recipe_run, window_run, view_run_end, import_run, export_run, grade_run_end, grades_taken, graded_run_end, grade_column_run, grade_recipe_run, hashed_run_end, hashed_run}
use Rattle.model.specs.Answers.{ListAnswer, GradeAnswer, RepeatAnswer, ValueAnswer}
use Rattle.model.proofs.TabLaws.{length-map}
use Rattle.model.proofs.FormLaws.{length-pack, length-offsets}
use Rattle.model.proofs.ViewLaws.{length-view}
use Rattle.model.proofs.BoolLaws.{never}

-- the slots that were written, taken from the slice
taken : {A : Type 0} (w d d' : List A) (n : ℕ) → d' ≡ over w d → n ≡ length w → take n d' ≡ w
taken w d d' n e k = rw e (take_at w (drop (length w) d) n (sym k))

-- ---- a list answer

module _ {o o' : List ℤ} {r r' : List ℕ} {v v' : List ℤ} {e e' : List ℕ} where
  list_run_lem : (x : Outcome (List Row)) (a : ListAnswer) → ListMeets x a o o' r r' v v' e e' → list_run_end a o' r' v' e' ≡ list_end x
  unfolding list_run_end list_end list_numbers list_bitmaps told answer_of written
  list_run_lem (refused k) (Err j) h = let q = h.answer in cc
  list_run_lem (refused k) (Ok c) h = let z = h.answer in never cc
  list_run_lem (made ws) (Err j) h = let z = h.answer in never cc
  list_run_lem (made ws) (Ok c) h =
      let z = h.answer in
      let en : c.rows ≡ length ws = cc in
      let em : c.elements ≡ length (flat ws) = cc in
      let offsets = taken (form_offsets ws) o o' (c.rows + 1) h.offsets (omega (arith, length-offsets 0 (map length_of ws), length-map length_of ws)) in
      let rows = taken (form_rows ws) r r' (bytes_for c.rows) h.rows (omega (arith, length-pack (map is_row ws), length-map is_row ws)) in
      let values = taken (form_values (flat ws)) v v' c.elements h.values (omega (arith, length-map value_of (flat ws))) in
      let elements = taken (form_elements (flat ws)) e e' (bytes_for c.elements) h.elements (omega (arith, length-pack (map is_val (flat ws)), length-map is_val (flat ws))) in
      cc

-- ---- a value answer

module _ {v v' : List ℤ} {r r' : List ℕ} where
  value_run : (x : Outcome (List Elem)) (a : ValueAnswer) → ValueMeets x a v v' r r' → value_run_end a v' r' ≡ value_end x
  unfolding value_run_end value_end told_value answer_of written
  value_run (refused k) (Err j) h = let q = h.answer in cc
  value_run (refused k) (Ok c) h = let z = h.answer in never cc
  value_run (made es) (Err j) h = let z = h.answer in never cc
  value_run (made es) (Ok c) h =
      let z = h.answer in
      let en : c.rows ≡ length es = cc in
      let values = taken (form_values es) v v' c.rows h.values (omega (arith, length-map value_of es)) in
      let rows = taken (form_elements es) r r' (bytes_for c.rows) h.rows (omega (arith, length-pack (map is_val es), length-map is_val es)) in
      cc

-- ---- list-repeat's answer

module _ {o o' : List ℤ} {r r' : List ℕ} {io io' : List ℤ} {ir ir' : List ℕ} {v v' : List ℤ} {e e' : List ℕ} where
  repeat_run_lem : (x : Outcome (List Outer)) (a : RepeatAnswer) → RepeatMeets x a o o' r r' io io' ir ir' v v' e e' → repeat_run_end a o' r' io' ir' v' e' ≡ repeat_end x
  unfolding repeat_run_end repeat_end told_repeat answer_of written
  repeat_run_lem (refused k) (Err j) h = let q = h.answer in cc
  repeat_run_lem (refused k) (Ok c) h = let z = h.answer in never cc
  repeat_run_lem (made os) (Err j) h = let z = h.answer in never cc
  repeat_run_lem (made os) (Ok c) h =
      let z = h.answer in
      let en : c.rows ≡ length os = cc in
      let em : c.elements ≡ length (flat (inner os)) = cc in
      let ei : c.inner_rows ≡ length (inner os) = cc in
      let offsets = taken (offsets_from 0 (map outer_length os)) o o' (c.rows + 1) h.offsets (omega (arith, length-offsets 0 (map outer_length os), length-map outer_length os)) in
      let rows = taken (pack (map is_outer os)) r r' (bytes_for c.rows) h.rows (omega (arith, length-pack (map is_outer os), length-map is_outer os)) in
      let inner-offsets = taken (form_offsets (inner os)) io io' (c.inner_rows + 1) h.inner-offsets (omega (arith, length-offsets 0 (map length_of (inner os)), length-map length_of (inner os))) in
      let inner-rows = taken (form_rows (inner os)) ir ir' (bytes_for c.inner_rows) h.inner-rows (omega (arith, length-pack (map is_row (inner os)), length-map is_row (inner os))) in
      let values = taken (form_values (flat (inner os))) v v' c.elements h.values (omega (arith, length-map value_of (flat (inner os)))) in
      let elements = taken (form_elements (flat (inner os))) e e' (bytes_for c.elements) h.elements (omega (arith, length-pack (map is_val (flat (inner os))), length-map is_val (flat (inner os)))) in
      cc

-- ---- a view's answer

module _ {o o' s s' : List ℤ} {r r' : List ℕ} {v v' : List ℤ} {e e' : List ℕ} where
  view_run : (x : Outcome (List Row)) (a : ListAnswer) → ViewMeets x a o o' s s' r r' v v' e e' → view_run_end a o' s' r' v' e' ≡ view_end x
  unfolding view_run_end view_end list_bitmaps told answer_of written
  view_run (refused k) (Err j) h = let q = h.answer in cc
  view_run (refused k) (Ok c) h = let z = h.answer in never cc
  view_run (made ws) (Err j) h = let z = h.answer in never cc
  view_run (made ws) (Ok c) h =
      let z = h.answer in
      let en : c.rows ≡ length ws = cc in
      let em : c.elements ≡ length (flat ws) = cc in
      let offsets = taken (view_offsets ws) o o' c.rows h.offsets (omega (arith, length-view 0 ws)) in
      let sizes = taken (view_sizes ws) s s' c.rows h.sizes (omega (arith, length-map (λ w. pos (length_of w)) ws)) in
      let rows = taken (form_rows ws) r r' (bytes_for c.rows) h.rows (omega (arith, length-pack (map is_row ws), length-map is_row ws)) in
      let values = taken (form_values (flat ws)) v v' c.elements h.values (omega (arith, length-map value_of (flat ws))) in
      let elements = taken (form_elements (flat ws)) e e' (bytes_for c.elements) h.elements (omega (arith, length-pack (map is_val (flat ws)), length-map is_val (flat ws))) in
      cc

-- ---- an answer with a work area

module _ {o o' : List ℤ} {r r' : List ℕ} {v v' : List ℤ} {e e' w : List ℕ} where
  hashed_run_lem : (x : Outcome (List Row)) (n : ℕ) (a : ListAnswer) → HashMeets x n a o o' r r' v v' e e' w → hashed_run_end a o' r' v' e' w ≡ hashed_end x n
  unfolding hashed_run_end hashed_end list_end
  hashed_run_lem x n a h = rw (list_run_lem x a h.list, h.area)

-- ---- a recipe's answer, trays and tally

module _ {o o' : List ℤ} {r r' : List ℕ} {v v' : List ℤ} {e e' : List ℕ} {ao : List ℤ} {ar : List ℕ} {av : List ℤ} {ae : List ℕ} {bo : List ℤ} {br : List ℕ} {bv : List ℤ} {be : List ℕ} where
  trays_run : (x : Outcome (List Row)) (a : ListAnswer) (l m : Room) (t t' : Lent Tally) → ListMeets x a o o' r r' v v' e e' → Zeroed l ao ar av ae → Zeroed m bo br bv be → t' ≡ t
      → recipe_run_end a o' r' v' e' ao ar av ae bo br bv be t' ≡ trays_end x l m t
  unfolding recipe_run_end trays_end list_end
  trays_run x a l m t t' h y z q = rw (list_run_lem x a h, y.offsets, y.rows, y.values, y.elements, z.offsets, z.rows, z.values, z.elements, q)

-- ---- grades: of a column, and of a recipe

module _ {g g' : List ℕ} where
  grade_run : (k : ℕ) (x : Outcome (List Row)) (a : GradeAnswer) → GradeMeets k x a g g' → grade_run_end a g' ≡ grade_end k x
  unfolding grade_run_end grade_end told_grade answer_of written
  grade_run k (refused j) (Err i) h = let q = h.answer in cc
  grade_run k (refused j) (Ok n) h = let z = h.answer in never cc
  grade_run k (made ws) (Err i) h = let z = h.answer in never cc
  grade_run k (made ws) (Ok n) h =
      let z = h.answer in
      let en : n ≡ length ws = cc in
      let grades = taken (grades_of k ws) g g' n h.grades (omega (arith, length-map (grade_of k) ws)) in
      cc

  module _ {o o' : List ℤ} {r r' : List ℕ} {v v' : List ℤ} {e e' : List ℕ} where
    grades-taken : (k : ℕ) (x : Outcome (List Row)) (a : ListAnswer) → ListMeets x a o o' r r' v v' e e' → Grades k x g g' → grades_taken a g' ≡ written (grades_of k) x
    unfolding grades_taken told answer_of written
    grades-taken k (refused j) (Err i) h w = refl
    grades-taken k (refused j) (Ok c) h w = let z = h.answer in never cc
    grades-taken k (made ws) (Err i) h w = let z = h.answer in never cc
    grades-taken k (made ws) (Ok c) h w =
        let z = h.answer in
        let en : c.rows ≡ length ws = cc in
        taken (grades_of k ws) g g' c.rows w.grades (omega (arith, length-map (grade_of k) ws))

    module _ {ao : List ℤ} {ar : List ℕ} {av : List ℤ} {ae : List ℕ} {bo : List ℤ} {br : List ℕ} {bv : List ℤ} {be : List ℕ} where
      graded_run : (k : ℕ) (ws : List Row) (j s : ℕ) (x : Outcome (List Row)) (a : ListAnswer) (l m : Room) (t t' : Tally) → ListMeets (graded k ws j x) a o o' r r' v v' e e' → Zeroed l ao ar av ae → Zeroed m bo br bv be
          → t' ≡ moved (graded_move k ws j (move_of s x)) t → Grades k (graded k ws j x) g g'
          → graded_run_end a o' r' v' e' ao ar av ae bo br bv be t' g' ≡ graded_end k ws j s x l m t
      unfolding graded_run_end graded_end recipe_run_end recipe_end trays_end list_end
      graded_run k ws j s x a l m t t' h y z q w =
          rw (list_run_lem (graded k ws j x) a h, y.offsets, y.rows, y.values, y.elements, z.offsets, z.rows, z.values, z.elements, q, grades-taken k (graded k ws j x) a h w)

pub run_ends : (L : Limits) {q : Call Column Arguments View} {e : End} → Run L q e → e ≡ end L q
unfolding end recipe_end window_end
run_ends L (list_run h) = list_run_lem _ _ h
run_ends L (any_value_run h) = value_run _ _ h
run_ends L (element_run h) = value_run _ _ h
run_ends L (repeat_run h) = repeat_run_lem _ _ h
run_ends L (recipe_run h y z q) = trays_run _ _ _ _ _ _ h y z (ap given q)
run_ends L (measure_list_run h) = ap measure_end h.answer
run_ends L (measure_any_value_run h) = ap measure_end h.answer
run_ends L (measure_element_run h) = ap measure_end h.answer
run_ends L (measure_repeat_run h) = ap measure_end h.answer
run_ends L (limit_recipe_run h) = ap measure_end h.answer
run_ends L (window_run h y z) = trays_run _ _ _ _ _ _ h y z refl
run_ends L (import_run h) = list_run_lem _ _ h
run_ends L (export_run h) = view_run _ _ h
run_ends L (grade_column_run h) = grade_run _ _ _ h
run_ends L (grade_recipe_run h y z q w) = graded_run _ _ _ _ _ _ _ _ _ _ h y z q w
run_ends L (hashed_run h) = hashed_run_lem _ _ _ h
