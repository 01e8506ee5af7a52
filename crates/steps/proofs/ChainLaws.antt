-- Laws of a chain of steps: what an answer tells of its outcome, and what a step leaves for the next.
use Prim.Native.Nat.{ℕ, ◌+◌, ◌-◌, ◌*◌, ◌≤◌, ◌<◌}
use mathlib.Core.Path.{◌≡◌, refl, sym, ap, ◌∙◌}
use mathlib.Core.Bool.{Bool, true, false}
use mathlib.Core.List.{List, [], ◌∷◌, map}
use native.Mathlib.Omega.{arith}
use borrow.Author.Tests.{eqb-true, eqb-false}
use lib.Dec.{eqb}
use lib.IntN.{ℤ}
use lib.ListN.{length, drop, length-append, length-drop}
use lib.Seq.{length-take-le}
use Rattle.model.specs.Bitmap.{bytes_for}
use Rattle.model.specs.Basics.{pick, tab}
use Rattle.model.specs.Column.{Elem, Row, Column, rows_of}
use Rattle.model.specs.Contract.{ListMeets, told, room}
use Rattle.model.specs.Call.{answer_of, written, list_counts}
use Rattle.model.specs.Form.{Room, is_val, value_of, is_row, length_of, flat, over, form_offsets, form_rows, form_values, form_elements, fits_in}
use Rattle.model.specs.Limits.{Limits}
use Rattle.model.specs.Outcome.{Outcome, refused, made, gate, fitted, after_three}
use Rattle.model.specs.Recipe.{Step, step_at, step_call, then_on, carried}
use Rattle.model.specs.Refusals.{rows_refusal}
use Rattle.model.specs.Rows.{ListCall, rows_in, row_made, row_by_row, rows_made, made_of, at_row}
use Rattle.std.specs.Prelude.{Option, Some, None, Ok, Err}
use Rattle.model.specs.Answers.{number_of, ListAnswer}
use Rattle.model.specs.declared.Refusal.{Refusal}
use Rattle.model.specs.declared.ListCounts.{ListCounts}
use Rattle.model.proofs.ColumnLaws.{length-rows}
use Rattle.model.proofs.FormLaws.{length-pack, length-offsets}
use Rattle.model.proofs.TabLaws.{length-map, length-tab, tab-step, tab-none}
use Rattle.ops.specs.Ops.{call_of}
use Rattle.ops.specs.declared.ListOp.TheVariants as L
use Rattle.codes.specs.Codes.{operation_of}
use Rattle.column.specs.Front.{front, AtFront}
use Rattle.column.specs.Put.{RoomInˡ}
use Rattle.column.proofs.AnswerLaws.{has_room}
use Rattle.column.proofs.WalkLaws.{kept-room}
use Rattle.column.proofs.RoundLaws.{at-front-over, rows-over}
use Rattle.step.specs.Step.{StepFits, op_call, Taken, rows_taken}
use Rattle.steps.specs.Steps.{Steps}
use Rattle.codes.specs.declared.Operation.{Operation}
use Rattle.codes.specs.declared.Operation.TheVariants as S
use Rattle.step.proofs.StepLaws.{call_is, taken-later}
use Rattle.model.proofs.BoolLaws.{never}

-- ---- what an answer tells

pub answer-refused : (o : Outcome (List Row)) (a : ListAnswer) (k : Refusal) → a ≡ Err k → told a ≡ answer_of list_counts o → o ≡ refused (number_of k)
unfolding told answer_of
answer-refused (refused j) (Err i) k e h = let q : i ≡ k = cc in let p : j ≡ number_of i = cc in rw (p, q)
answer-refused (refused j) (Ok i) k e h = never cc
answer-refused (made ws) (Err i) k e h = never cc
answer-refused (made ws) (Ok i) k e h = never cc

pub record Made (o : Outcome (List Row)) (n m : ℕ) : Type 0 where
  pub rows : List Row
  pub is : o ≡ made rows
  pub many : n ≡ length rows
  pub elements : m ≡ length (flat rows)

pub answer-made : (o : Outcome (List Row)) (a : ListAnswer) (c : ListCounts) → a ≡ Ok c → told a ≡ answer_of list_counts o → Made o c.rows c.elements
unfolding told answer_of
answer-made (refused j) (Err k) c e h = never cc
answer-made (refused j) (Ok d) c e h = never cc
answer-made (made ws) (Err k) c e h = never cc
answer-made (made ws) (Ok d) c e h = let q : d ≡ c = cc in record { rows = ws; is = refl; many = sym (ap (λ (x : ListCounts). x.rows) q) ∙ cc; elements = sym (ap (λ (x : ListCounts). x.elements) q) ∙ cc }

-- ---- a step makes as many rows as it takes

rows_of_call : (o : Option Operation) (ws rs : List Row) (a b c : List Elem) → rows_in (op_call o ws rs a b c) ≡ length ws
unfolding op_call rows_in call_of
rows_of_call (Some (S.One (L.Plain u))) ws rs a b c = refl
rows_of_call (Some (S.One L.Slice)) ws rs a b c = refl
rows_of_call (Some (S.One L.SliceBy)) ws rs a b c = refl
rows_of_call (Some (S.One L.Resize)) ws rs a b c = refl
rows_of_call (Some (S.One L.ResizeWith)) ws rs a b c = refl
rows_of_call (Some (S.One L.Replace)) ws rs a b c = refl
rows_of_call (Some (S.One L.Remove)) ws rs a b c = refl
rows_of_call (Some (S.Two op)) ws rs a b c = refl
rows_of_call None ws rs a b c = refl

length-made : (N : Limits) (q : ListCall (List Row) (List Elem)) → length (rows_made N q) ≡ rows_in q
unfolding rows_made row_by_row
length-made N q = length-map row_made (tab (λ r. made_of N (at_row q r)) 0 (rows_in q)) ∙ length-tab (λ r. made_of N (at_row q r)) 0 (rows_in q)

gate-made : (t : Bool) (k : ℕ) (o : Outcome (List Row)) (ws : List Row) → pick t o (refused k) ≡ made ws → o ≡ made ws
gate-made true k o ws h = h
gate-made false k o ws h = never cc

fit-made : (t : Bool) (vs ws : List Row) → pick t (made vs) (refused 9) ≡ made ws → vs ≡ ws
fit-made true vs ws h = cc
fit-made false vs ws h = never cc

after-made : (N : Limits) (q : ListCall (List Row) (List Elem)) (l : Room) (ws : List Row) → after_three N q l ≡ made ws → rows_made N q ≡ ws
unfolding after_three gate fitted
after-made N q l ws h = fit-made (fits_in (length (rows_made N q)) (length (flat (rows_made N q))) l) (rows_made N q) ws (gate-made (eqb (rows_refusal N q) 0) (rows_refusal N q) _ ws h)

fit-true : (t : Bool) (vs ws : List Row) → pick t (made vs) (refused 9) ≡ made ws → t ≡ true
fit-true true vs ws h = refl
fit-true false vs ws h = never cc

-- it had room for the rows that it made
made-fits : (N : Limits) (q : ListCall (List Row) (List Elem)) (lo lr lv le : ℕ) (ws : List Row) → after_three N q (room lo lr lv le) ≡ made ws → RoomInˡ (length ws) (length (flat ws)) lo lr lv le
unfolding after_three gate fitted
made-fits N q lo lr lv le ws h =
    let l = room lo lr lv le in
    let g = gate-made (eqb (rows_refusal N q) 0) (rows_refusal N q) _ ws h in
    let t = fit-true (fits_in (length (rows_made N q)) (length (flat (rows_made N q))) l) (rows_made N q) ws g in
    let e = after-made N q l ws h in
    has_room (length ws) (length (flat ws)) lo lr lv le (rw e at t)

pub rows-kept : (N : Limits) (s : Step) (ws rs : List Row) (col : ℕ → List Elem) (l : Room) (ws' : List Row) → after_three N (step_call s ws rs col) l ≡ made ws' → length ws' ≡ length ws
rows-kept N s ws rs col l ws' h = ap length (sym (after-made N (step_call s ws rs col) l ws' h)) ∙ length-made N (step_call s ws rs col) ∙ ap rows_in (call_is s.code ws rs _ _ _) ∙ rows_of_call (operation_of s.code) ws rs _ _ _

-- ---- the chain

module _ (N : Limits) (s : Step) (ts : List Step) (ws rs : List Row) (col : ℕ → List Elem) (a b o : Room) where
  pub chain_last : ts ≡ [] → carried N s ts ws rs col a b o ≡ after_three N (step_call s ws rs col) o
  unfolding carried
  chain_last e = rw e

  pub chain_refused : (t : Step) (us : List Step) (k : ℕ) → ts ≡ t ∷ us → after_three N (step_call s ws rs col) a ≡ refused k → carried N s ts ws rs col a b o ≡ refused k
  unfolding carried then_on
  chain_refused t us k e h = rw (e, h)

  pub chain_made : (t : Step) (us : List Step) (ws' : List Row) → ts ≡ t ∷ us → after_three N (step_call s ws rs col) a ≡ made ws' → carried N s ts ws rs col a b o ≡ carried N t us ws' rs col b a o
  unfolding carried then_on
  chain_made t us ws' e h = rw (e, h)

  -- the steps after one that made rows, taken from the tray that shows them
  pub chain_on : (t : Step) (us : List Step) {ws' vs : List Row} {a' : Room} {x : ListAnswer} {oo oo' : List ℤ} {ro ro' : List ℕ} {vo vo' : List ℤ} {eo eo' : List ℕ}
      → ts ≡ t ∷ us → after_three N (step_call s ws rs col) a ≡ made ws' → vs ≡ ws' → a' ≡ a
      → ListMeets (carried N t us vs rs col b a' o) x oo oo' ro ro' vo vo' eo eo' → ListMeets (carried N s ts ws rs col a b o) x oo oo' ro ro' vo vo' eo eo'
  chain_on t us {ws'} e h v r m = rw (chain_made t us ws' e h) (rw (v, r) at m)

-- ---- a step that made rows leaves a column at the front of its tray that shows them, and the lengths of its slices

pub record Carried (o : Outcome (List Row)) (oo oo' : List ℤ) (ro ro' : List ℕ) (vo vo' : List ℤ) (eo eo' : List ℕ) (n m : ℕ) : Type 0 where
  pub rows : List Row
  pub is : o ≡ made rows
  pub at_front : AtFront n m oo' ro' vo' eo'
  pub shown : rows_of (front oo' ro' vo' eo' n m) ≡ rows
  pub lo : length oo' ≡ length oo
  pub lr : length ro' ≡ length ro
  pub lv : length vo' ≡ length vo
  pub le : length eo' ≡ length eo

length_over : {A : Type 0} (w d : List A) (k : ℕ) → length w ≡ k → k ≤ length d → length (over w d) ≡ length d
length_over w d k e h = omega (arith, length-append w (drop (length w) d), length-drop (length w) d)

carries : (o : Outcome (List Row)) (a : ListAnswer) (n : ℕ) (g : ListCounts) {oo oo' : List ℤ} {ro ro' : List ℕ} {vo vo' : List ℤ} {eo eo' : List ℕ}
    → ListMeets o a oo oo' ro ro' vo vo' eo eo' → a ≡ Ok g → ((ws : List Row) → o ≡ made ws → length ws ≡ n)
    → ((ws : List Row) → o ≡ made ws → RoomInˡ (length ws) (length (flat ws)) (length oo) (length ro) (length vo) (length eo)) → Carried o oo oo' ro ro' vo vo' eo eo' n g.elements
unfolding written
carries o a n g {oo} {oo'} {ro} {ro'} {vo} {vo'} {eo} {eo'} h e f l =
    let m = g.elements in
    let d = answer-made o a g e h.answer in
    let ws = d.rows in
    let x = rw d.is at h.offsets in
    let y = rw d.is at h.rows in
    let z = rw d.is at h.values in
    let w = rw d.is at h.elements in
    let k = sym (f ws d.is) in
    let r = l ws d.is in
    record {
      rows = ws;
      is = d.is;
      at_front = rw (x, y, z, w) (at-front-over ws oo ro vo eo n m k d.elements);
      shown = rw (x, y, z, w) (rows-over ws oo ro vo eo n m k d.elements);
      lo = rw x (length_over (form_offsets ws) oo (length ws + 1) (omega (arith, length-offsets 0 (map length_of ws), length-map length_of ws)) r.offsets);
      lr = rw y (length_over (form_rows ws) ro (bytes_for (length ws)) (length-pack (map is_row ws) ∙ ap bytes_for (length-map is_row ws)) r.rows);
      lv = rw z (length_over (form_values (flat ws)) vo (length (flat ws)) (length-map value_of (flat ws)) r.values);
      le = rw w (length_over (form_elements (flat ws)) eo (bytes_for (length (flat ws))) (length-pack (map is_val (flat ws)) ∙ ap bytes_for (length-map is_val (flat ws))) r.elements);
    }

pub tray_left : (N : Limits) (s : Step) (ws rs : List Row) (col : ℕ → List Elem) (lo n : ℕ) (g : ListCounts) {a : ListAnswer} {oo oo' : List ℤ} {ro ro' : List ℕ} {vo vo' : List ℤ} {eo eo' : List ℕ}
    → length oo ≡ lo → length ws ≡ n → ListMeets (after_three N (step_call s ws rs col) (room lo (length ro) (length vo) (length eo))) a oo oo' ro ro' vo vo' eo eo' → a ≡ Ok g
    → Carried (after_three N (step_call s ws rs col) (room lo (length ro) (length vo) (length eo))) oo oo' ro ro' vo vo' eo eo' n g.elements
tray_left N s ws rs col lo n g {ro = ro} {vo = vo} {eo = eo} k w h e =
    let l = room lo (length ro) (length vo) (length eo) in
    carries (after_three N (step_call s ws rs col) l) _ n g h e
    (λ us q. rows-kept N s ws rs col l us q ∙ w)
    (λ us q. kept-room (made-fits N (step_call s ws rs col) lo (length ro) (length vo) (length eo) us q) k)

-- a step that is refused leaves its tray as it was
pub left_alone : (o : Outcome (List Row)) {k : ℕ} {a : ListAnswer} {oo oo' : List ℤ} {ro ro' : List ℕ} {vo vo' : List ℤ} {eo eo' : List ℕ}
    → ListMeets o a oo oo' ro ro' vo vo' eo eo' → o ≡ refused k → room (length oo') (length ro') (length vo') (length eo') ≡ room (length oo) (length ro) (length vo) (length eo)
unfolding written
left_alone o h q =
    let x = rw q at h.offsets in
    let y = rw q at h.rows in
    let z = rw q at h.values in
    let w = rw q at h.elements in
    rw (x, y, z, w) refl

-- the rows at the front of a tray are as many as it holds
front-rows : {n m : ℕ} {o : List ℤ} {r : List ℕ} {v : List ℤ} {e : List ℕ} → AtFront n m o r v e → length (rows_of (front o r v e n m)) ≡ n
front-rows {n} {m} {o} {r} {v} {e} h = let l = length-take-le (n + 1) o h.offsets in length-rows (front o r v e n m) ∙ omega arith

-- ---- the rows that a step takes

pub taken-rows : {k n m : ℕ} {c : Column} {o : List ℤ} {r : List ℕ} {v : List ℤ} {e : List ℕ} → Taken k n m c o r v e → length (rows_taken k c (front o r v e n m)) ≡ n
unfolding rows_taken
taken-rows {k} {n} {m} {c} {o} {r} {v} {e} h = cases (eqb k 0) refl
  where
    cases : (t : Bool) → eqb k 0 ≡ t → length (pick t (rows_of c) (rows_of (front o r v e n m))) ≡ n
    cases true q = length-rows c ∙ h.rows (eqb-true k 0 q)
    cases false q = front-rows (h.later (eqb-false k 0 q))

later : (k : ℕ) → k + 1 ≡ 0 → ⊥
later k z = omega arith

pub taken_next : (k : ℕ) {n m : ℕ} (c : Column) {o : List ℤ} {r : List ℕ} {v : List ℤ} {e : List ℕ} → AtFront n m o r v e → Taken (k + 1) n m c o r v e
taken_next k c h = record { first = λ z. absurd (later k z); rows = λ z. absurd (later k z); later = λ _. h }

pub next-rows : (k : ℕ) (c t : Column) → rows_taken (k + 1) c t ≡ rows_of t
next-rows k c t = taken-later (k + 1) c t (later k)

pub same_room : {x x' y y' z z' w w' : ℕ} → x' ≡ x → y' ≡ y → z' ≡ z → w' ≡ w → room x' y' z' w' ≡ room x y z w
same_room a b c d = rw (a, b, c, d)

-- ---- the steps that are left

module _ {ns : List ℕ} {pitch n len k left : ℕ} (s : Steps ns pitch n len k left) where
  pub step_fits : StepFits (step_at ns k) pitch n len
  step_fits = let e : k + 0 ≡ k = omega arith in rw e at (s.fit 0 s.some)

  pub step-there : 4 * k + 4 ≤ length ns
  step-there = omega (arith, s.some, s.there)

  pub none_left : left ≡ 1 → tab (step_at ns) (k + 1) (left - 1) ≡ []
  none_left e = tab-none (step_at ns) (k + 1) (left - 1) (omega arith)

  module _ (h : left ≡ 1 → ⊥) where
    pub more_left : tab (step_at ns) (k + 1) (left - 1) ≡ step_at ns (k + 1) ∷ tab (step_at ns) (k + 1 + 1) (left - 1 - 1)
    more_left = tab-step (step_at ns) (k + 1) (left - 1) (some_left s.some h)
      where
        some_left : 0 < left → (left ≡ 1 → ⊥) → 0 < left - 1
        some_left p q = omega (arith, p)

    pub next_steps : Steps ns pitch n len (k + 1) (left - 1)
    next_steps = record {
      some = omega (arith, s.some);
      there = omega (arith, s.there, s.some);
      fit = λ j l. let e : k + 1 + j ≡ k + (j + 1) = omega arith in rw e (s.fit (j + 1) (omega (arith, s.some)));
    }
