-- From the tests of an import and of an export to what a contract says of the call.
use mathlib.Core.Path.{◌≡◌, refl, sym, ◌∙◌}
use mathlib.Core.Bool.{Bool, true, false, ◌&&◌}
use mathlib.Core.List.{List, [], ◌∷◌}
use Prim.Native.Nat.{ℕ}
use borrow.Author.Tests.{leb-true}
use lib.Dec.{leb, ltb}
use lib.IntN.{ℤ}
use lib.ListN.{length}
use Rattle.model.specs.Basics.{pick}
use Rattle.model.specs.Bitmap.{bytes_for}
use Rattle.model.specs.Call.{answer_of, written}
use Rattle.model.specs.Column.{Row, Column, rows_of}
use Rattle.model.specs.Contract.{told, ViewMeets, view_room}
use Rattle.model.specs.Form.{Room, flat, form_offsets, over}
use Rattle.model.specs.Limits.{Limits}
use Rattle.model.specs.Outcome.{Outcome, refused, made, gate, fitted, columns_refusal}
use Rattle.model.specs.View.{View, ViewRoom, fits_view, export_shown, export_outcome, import_shown, import_outcome, view_refusal, view_rows}
use Rattle.model.specs.Answers.{ListAnswer, number_of}
use Rattle.model.specs.declared.Refusal.{Refusal}
use Rattle.std.specs.Prelude.{None, Some, Err}
use Rattle.model.proofs.BoolLaws.{never, and_true}
use Rattle.model.proofs.OutcomeLaws.{gate_open, gate_shut}
use Rattle.model.proofs.TabLaws.{length-tab}
use Rattle.column.specs.Answers.{list_answer_from}
use Rattle.column.specs.Put.{Fillsˡ}
use Rattle.column.proofs.AnswerLaws.{list-made}
use Rattle.view_checks.specs.Views.{counted_within}
use Rattle.views.specs.ViewOutputs.{ViewRoomInˡ, FillsViewˡ}

-- ---- the refusals that come first

module _ {k : ℕ} where
  pub import_refused : (K : Limits) (c : View) (l : Room) → k ≡ view_refusal c → (k ≡ 0 → ⊥) → import_outcome K c l ≡ refused k
  unfolding import_outcome
  import_refused K c l e h = rw (← e) (gate_shut k _ h)

  pub import_open : (K : Limits) (c : View) (l : Room) → k ≡ view_refusal c → k ≡ 0 → import_outcome K c l ≡ import_shown K (view_rows c) l
  unfolding import_outcome
  import_open K c l e h = gate_open (view_refusal c) _ (sym e ∙ h)

  pub export_refused : (c : Column) (l : ViewRoom) → k ≡ columns_refusal (c ∷ []) [] → (k ≡ 0 → ⊥) → export_outcome c l ≡ refused k
  unfolding export_outcome
  export_refused c l e h = rw (← e) (gate_shut k _ h)

  pub export_open : (c : Column) (l : ViewRoom) → k ≡ columns_refusal (c ∷ []) [] → k ≡ 0 → export_outcome c l ≡ export_shown (rows_of c) l
  unfolding export_outcome
  export_open c l e h = gate_open (columns_refusal (c ∷ []) []) _ (sym e ∙ h)

-- ---- import: 8

module _ (K : Limits) (ws : List Row) where
  pub too_many : (l : Room) → None ≡ counted_within K.offset ws → import_shown K ws l ≡ refused 8
  unfolding import_shown gate
  too_many l e = go (ltb K.offset (length (flat ws))) refl e
    where
      go : (t : Bool) → ltb K.offset (length (flat ws)) ≡ t → None ≡ pick t None (Some (length (flat ws))) → import_shown K ws l ≡ refused 8
      go true q d = rw q
      go false q d = never cc

  pub not_many : (m : ℕ) → Some m ≡ counted_within K.offset ws → (m ≡ length (flat ws)) × ((l : Room) → import_shown K ws l ≡ fitted ws l)
  unfolding import_shown gate
  not_many m e = go (ltb K.offset (length (flat ws))) refl e
    where
      go : (t : Bool) → ltb K.offset (length (flat ws)) ≡ t → Some m ≡ pick t None (Some (length (flat ws))) → (m ≡ length (flat ws)) × ((l : Room) → import_shown K ws l ≡ fitted ws l)
      go true q d = never cc
      go false q d = (cc, λ l. rw q)

pub length-shown-rows : (c : View) → length (view_rows c) ≡ length c.offsets
unfolding view_rows
length-shown-rows c = length-tab _ 0 (length c.offsets)

-- ---- export: 9

pub has_view-room : (n m lo ls lr lv le : ℕ) → fits_view n m (view_room lo ls lr lv le) ≡ true → ViewRoomInˡ n m lo ls lr lv le
has_view-room n m lo ls lr lv le h =
    let a = and_true (leb n lo && leb n ls && leb (bytes_for n) lr && leb m lv) (leb (bytes_for m) le) h in
    let b = and_true (leb n lo && leb n ls && leb (bytes_for n) lr) (leb m lv) a.0 in
    let c = and_true (leb n lo && leb n ls) (leb (bytes_for n) lr) b.0 in
    let d = and_true (leb n lo) (leb n ls) c.0 in
    record { offsets = leb-true _ _ d.0; sizes = leb-true _ _ d.1; rows = leb-true _ _ c.1; values = leb-true _ _ b.1; elements = leb-true _ _ a.1 }

pub same_view-fit : (l : ViewRoom) {n n' m m' : ℕ} → n ≡ n' → m ≡ m' → fits_view n m l ≡ fits_view n' m' l
same_view-fit l e d = rw (e, d)

pub export_made : (ws : List Row) (l : ViewRoom) → fits_view (length ws) (length (flat ws)) l ≡ true → export_shown ws l ≡ made ws
unfolding export_shown
export_made ws l h = rw h

pub export_short : (ws : List Row) (l : ViewRoom) → fits_view (length ws) (length (flat ws)) l ≡ false → export_shown ws l ≡ refused 9
unfolding export_shown
export_short ws l h = rw h

-- ---- the answer of an export

pub view-refused : {x : Outcome (List Row)} (k : Refusal) {o s : List ℤ} {r : List ℕ} {v : List ℤ} {e : List ℕ} → x ≡ refused (number_of k) → ViewMeets x (Err k) o o s s r r v v e e
unfolding told answer_of written
view-refused k q = rw q (record { answer = refl; offsets = refl; sizes = refl; rows = refl; values = refl; elements = refl })

pub view_made : {x : Outcome (List Row)} (ws : List Row) (n m : ℕ) {o o' s s' : List ℤ} {r r' : List ℕ} {v v' : List ℤ} {e e' : List ℕ} {a : ListAnswer}
    → x ≡ made ws → n ≡ length ws → m ≡ length (flat ws) → FillsViewˡ ws o o' s s' r r' v v' e e' → a ≡ list_answer_from r' n e' m → ViewMeets x a o o' s s' r r' v v' e e'
unfolding written
view_made ws n m {r = r} {r' = r'} {v = v} {v' = v'} {e = e} {e' = e'} q en em h p =
    let f : Fillsˡ ws [] (over (form_offsets ws) []) r r' v v' e e' = record { offsets = refl; rows = h.rows; values = h.values; elements = h.elements } in
    let l = list-made ws n m {o = []} {o' = over (form_offsets ws) []} q en em f p in
    record {
      answer = l.answer;
      offsets = rw q h.offsets;
      sizes = rw q h.sizes;
      rows = l.rows;
      values = l.values;
      elements = l.elements;
    }
