-- From outputs written in result form, and nulls counted in them, to what a contract says of a call.
use mathlib.Core.Path.{◌≡◌, refl, sym, ◌∙◌, subst}
use Rattle.std.specs.Prelude.{Err}
use mathlib.Core.Bool.{Bool, true, false, ◌&&◌}
use mathlib.Core.List.{List, map}
use Prim.Native.Nat.{ℕ, ◌+◌, ◌≤◌}
use native.Mathlib.Omega.{arith}
use borrow.Author.Tests.{leb-true}
use lib.Dec.{T, leb}
use lib.IntN.{ℤ}
use lib.ListN.{length}
use Rattle.model.specs.Bitmap.{bytes_for}
use Rattle.model.specs.Column.{Elem, Row}
use Rattle.model.specs.Form.{is_val, is_row, flat, over, fits_in, fits_values, form_rows, form_values, form_elements, null_rows, null_elems, Room, ValueRoom}
use Rattle.model.specs.Outcome.{Outcome, refused, made, fitted, fitted_values}
use Rattle.model.specs.Call.{answer_of, written}
use Rattle.model.specs.Contract.{told, told_value, ListMeets, ValueMeets, room, value_room}
use Rattle.model.specs.declared.Refusal.{Refusal}
use Rattle.model.specs.Answers.{number_of, ListAnswer, ValueAnswer}
use Rattle.model.proofs.TabLaws.{length-map}
use Rattle.bitmap.proofs.PackLaws.{counted-nulls}
use Rattle.column.specs.Put.{RoomInˡ, Fillsˡ}
use Rattle.column.specs.Answers.{unset, list_answer_from, value_answer_from}
use Rattle.model.proofs.BoolLaws.{and_true}

-- ---- a refusal changes no output

pub list-refused : {x : Outcome (List Row)} (k : Refusal) {o : List ℤ} {r : List ℕ} {v : List ℤ} {e : List ℕ} → x ≡ refused (number_of k) → ListMeets x (Err k) o o r r v v e e
unfolding told answer_of written
list-refused k q = rw q (record { answer = refl; offsets = refl; rows = refl; values = refl; elements = refl })

pub value_refused : {x : Outcome (List Elem)} (k : Refusal) {v : List ℤ} {r : List ℕ} → x ≡ refused (number_of k) → ValueMeets x (Err k) v v r r
unfolding told_value answer_of written
value_refused k q = rw q (record { answer = refl; values = refl; rows = refl })

-- ---- room

pub has_room : (n m lo lr lv le : ℕ) → fits_in n m (room lo lr lv le) ≡ true → RoomInˡ n m lo lr lv le
has_room n m lo lr lv le h =
    let a = and_true (leb (n + 1) lo && leb (bytes_for n) lr && leb m lv) (leb (bytes_for m) le) h in
    let b = and_true (leb (n + 1) lo && leb (bytes_for n) lr) (leb m lv) a.0 in
    let c = and_true (leb (n + 1) lo) (leb (bytes_for n) lr) b.0 in
    record { offsets = leb-true _ _ c.0; rows = leb-true _ _ c.1; values = leb-true _ _ b.1; elements = leb-true _ _ a.1 }

pub has_value_room : (n lv lr : ℕ) → fits_values n (value_room lv lr) ≡ true → (n ≤ lv) × (bytes_for n ≤ lr)
has_value_room n lv lr h =
    let a = and_true (leb n lv) (leb (bytes_for n) lr) h in
    (leb-true _ _ a.0, leb-true _ _ a.1)

-- counts that are equal fit alike
pub same_fit : (l : Room) {n n' m m' : ℕ} → n ≡ n' → m ≡ m' → fits_in n m l ≡ fits_in n' m' l
same_fit l e d = rw (e, d)

pub same_value_fit : (l : ValueRoom) {n n' : ℕ} → n ≡ n' → fits_values n l ≡ fits_values n' l
same_value_fit l e = rw e

pub fitted-made : (ws : List Row) (l : Room) → fits_in (length ws) (length (flat ws)) l ≡ true → fitted ws l ≡ made ws
unfolding fitted
fitted-made ws l h = rw h

pub fitted_short : (ws : List Row) (l : Room) → fits_in (length ws) (length (flat ws)) l ≡ false → fitted ws l ≡ refused 9
unfolding fitted
fitted_short ws l h = rw h

pub values-made : (es : List Elem) (l : ValueRoom) → fits_values (length es) l ≡ true → fitted_values es l ≡ made es
unfolding fitted_values
values-made es l h = rw h

pub values-short : (es : List Elem) (l : ValueRoom) → fits_values (length es) l ≡ false → fitted_values es l ≡ refused 9
unfolding fitted_values
values-short es l h = rw h

-- ---- nulls counted in what was written

counted_elems : (es : List Elem) (d : List ℕ) (n : ℕ) → n ≡ length es → unset (over (form_elements es) d) n ≡ null_elems es
counted_elems es d n e = let p = counted-nulls (map is_val es) d n (e ∙ sym (length-map is_val es)) in omega arith

counted-rows : (ws : List Row) (d : List ℕ) (n : ℕ) → n ≡ length ws → unset (over (form_rows ws) d) n ≡ null_rows ws
counted-rows ws d n e = let p = counted-nulls (map is_row ws) d n (e ∙ sym (length-map is_row ws)) in omega arith

pub list-made : {x : Outcome (List Row)} (ws : List Row) (n m : ℕ) {o o' : List ℤ} {r r' : List ℕ} {v v' : List ℤ} {e e' : List ℕ} {a : ListAnswer}
    → x ≡ made ws → n ≡ length ws → m ≡ length (flat ws) → Fillsˡ ws o o' r r' v v' e e' → a ≡ list_answer_from r' n e' m → ListMeets x a o o' r r' v v' e e'
unfolding told answer_of written list_answer_from
list-made ws n m {r = r} {e = e} q en em h p = rw (q, p) (record {
  answer = rw (h.rows, h.elements, counted-rows ws r n en, counted_elems (flat ws) e m em, en, em);
  offsets = h.offsets;
  rows = h.rows;
  values = h.values;
  elements = h.elements;
})

pub value_made_lem : {x : Outcome (List Elem)} (es : List Elem) (n : ℕ) {v v' : List ℤ} {r r' : List ℕ} {a : ValueAnswer}
    → x ≡ made es → n ≡ length es → v' ≡ over (form_values es) v → r' ≡ over (form_elements es) r → a ≡ value_answer_from r' n → ValueMeets x a v v' r r'
unfolding told_value answer_of written value_answer_from
value_made_lem es n {r = r} q en hv hr p = rw (q, p) (record { answer = rw (hr, counted_elems es r n en, en); values = hv; rows = hr })
