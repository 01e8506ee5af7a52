-- From outer rows written in result form, and nulls counted in them, to what list-repeat's contract says of a call.
use mathlib.Core.Path.{◌≡◌, refl, sym, ◌∙◌}
use mathlib.Core.Bool.{Bool, true, false, ◌&&◌}
use mathlib.Core.List.{List, map}
use Prim.Native.Nat.{ℕ, ◌+◌, ◌≤◌}
use native.Mathlib.Omega.{arith}
use borrow.Author.Tests.{leb-true}
use lib.Dec.{leb}
use lib.IntN.{ℤ}
use lib.ListN.{length}
use Rattle.model.specs.Bitmap.{bytes_for, pack, nulls}
use Rattle.model.specs.Form.{RepeatRoom, Outer, is_outer, is_row, is_val, inner, flat, over, fits_in, fits_repeat}
use Rattle.model.specs.Limits.{Limits}
use Rattle.model.specs.Outcome.{Outcome, refused, made, fitted_repeat}
use Rattle.model.specs.Call.{answer_of, written}
use Rattle.model.specs.Contract.{told_repeat, RepeatMeets, room, repeat_room}
use Rattle.std.specs.Prelude.{Err}
use Rattle.model.specs.Answers.{number_of, RepeatAnswer}
use Rattle.model.specs.declared.Refusal.{Refusal}
use Rattle.model.proofs.TabLaws.{length-map}
use Rattle.bitmap.proofs.PackLaws.{counted-nulls}
use Rattle.column.specs.Answers.{unset}
use Rattle.column.proofs.AnswerLaws.{has_room}
use Rattle.column.specs.Outputs.{fits_counts}
use Rattle.repeat_walk.specs.Outers.{RoomForOutersˡ, FillsOutersˡ}
use Rattle.repeat_walk.specs.Repeats.{repeat_answer_from}
use Rattle.model.proofs.BoolLaws.{and_true}

-- a refusal changes no output
pub repeat_refused : {x : Outcome (List Outer)} (k : Refusal) {o : List ℤ} {r : List ℕ} {io : List ℤ} {ir : List ℕ} {v : List ℤ} {e : List ℕ} → x ≡ refused (number_of k) → RepeatMeets x (Err k) o o r r io io ir ir v v e e
unfolding told_repeat answer_of written
repeat_refused k q = rw q (record { answer = refl; offsets = refl; rows = refl; inner-offsets = refl; inner-rows = refl; values = refl; elements = refl })

-- ---- room

-- counts that are the rows' fit as the rows do
pub same_fit : (os : List Outer) (l : RepeatRoom) {n t m : ℕ} → n ≡ length os → t ≡ length (inner os) → m ≡ length (flat (inner os)) → fits_counts n t m l ≡ fits_repeat os l
same_fit os l e f g = rw (e, f, g)

pub fitted-made : (os : List Outer) (l : RepeatRoom) → fits_repeat os l ≡ true → fitted_repeat os l ≡ made os
unfolding fitted_repeat
fitted-made os l h = rw h

pub fitted_short : (os : List Outer) (l : RepeatRoom) → fits_repeat os l ≡ false → fitted_repeat os l ≡ refused 9
unfolding fitted_repeat
fitted_short os l h = rw h

pub outer-room : (L : Limits) (os : List Outer) (lo lr li lj lv le : ℕ) → fits_repeat os (repeat_room lo lr li lj lv le) ≡ true → length (inner os) ≤ L.outer → length (flat (inner os)) ≤ L.offset → RoomForOutersˡ L os lo lr li lj lv le
outer-room L os lo lr li lj lv le h f g =
    let a = and_true (leb (length os + 1) lo && leb (bytes_for (length os)) lr) (fits_in (length (inner os)) (length (flat (inner os))) (room li lj lv le)) h in
    let b = and_true (leb (length os + 1) lo) (leb (bytes_for (length os)) lr) a.0 in
    let r = has_room (length (inner os)) (length (flat (inner os))) li lj lv le a.1 in
    record {
      offsets = leb-true _ _ b.0;
      rows = leb-true _ _ b.1;
      lists = record {
        few = omega arith;
        small = omega arith;
        room = record { offsets = omega (arith, r.offsets); rows = omega (arith, r.rows); values = omega (arith, r.values); elements = omega (arith, r.elements) };
      };
    }

-- ---- nulls counted in what was written

counted : {A : Type 0} (f : A → Bool) (xs : List A) (d : List ℕ) (n : ℕ) → n ≡ length xs → unset (over (pack (map f xs)) d) n ≡ nulls (map f xs)
counted f xs d n e = let p = counted-nulls (map f xs) d n (e ∙ sym (length-map f xs)) in omega arith

pub repeat_made : {x : Outcome (List Outer)} (os : List Outer) (n t m : ℕ) {o o' : List ℤ} {r r' : List ℕ} {io io' : List ℤ} {ir ir' : List ℕ} {v v' : List ℤ} {e e' : List ℕ} {a : RepeatAnswer}
    → x ≡ made os → n ≡ length os → t ≡ length (inner os) → m ≡ length (flat (inner os)) → FillsOutersˡ os o o' r r' io io' ir ir' v v' e e' → a ≡ repeat_answer_from r' n ir' t e' m → RepeatMeets x a o o' r r' io io' ir ir' v v' e e'
unfolding told_repeat answer_of written repeat_answer_from
repeat_made os n t m {r = r} {ir = ir} {e = e} q en et em h p = rw (q, p) (record {
  answer = rw (h.rows, h.lists.rows, h.lists.elements, counted is_outer os r n en, counted is_row (inner os) ir t et, counted is_val (flat (inner os)) e m em, en, et, em);
  offsets = h.offsets;
  rows = h.rows;
  inner-offsets = h.lists.offsets;
  inner-rows = h.lists.rows;
  values = h.lists.values;
  elements = h.lists.elements;
})
