-- What list-repeat leaves in its outputs, and what is sent of them, come to what its entry returns.
use Rattle.std.specs.Prelude.{Ok, Err}
use mathlib.Core.Path.{◌≡◌, refl, sym, ap, ◌∙◌}
use mathlib.Core.List.{List, ◌++◌, map}
use Prim.Native.Nat.{ℕ, ◌+◌, ◌*◌, ◌/◌, ◌≤◌}
use native.Mathlib.Numerals.{add-one}
use native.Mathlib.Omega.{arith}
use lib.IntN.{ℤ}
use lib.ListN.{length, take, drop}
use Rattle.model.specs.Basics.{All, none, more}
use Rattle.model.specs.Bitmap.{Bits}
use Rattle.model.specs.Column.{column, arguments}
use Rattle.model.specs.Form.{Outer, outer_length, inner, flat, over, length_of, value_of, offsets_from, form_offsets, form_values}
use Rattle.model.specs.Limits.{narrow}
use Rattle.model.specs.Outcome.{Outcome, refused, made, repeat_outcome}
use Rattle.model.specs.Call.{answer_of, written, repeat_counts}
use Rattle.model.specs.Contract.{told_repeat, RepeatMeets, repeat_room}
use Rattle.model.specs.Answers.{RepeatAnswer}
use Rattle.model.proofs.TabLaws.{length-map}
use Rattle.model.proofs.FormLaws.{length-offsets}
use Rattle.wire.specs.Bytes.{bytes_of4, bytes_of8, bytes_of_counts}
use Rattle.entry.specs.Entry.{number_of}
use Rattle.entry.specs.Inner.{number_in, counts_in}
use Rattle.entry.proofs.SizeLaws.{Fits}
use Rattle.entry.proofs.AnswerLaws.{number_of_lem, counts_of, bytes-written, none4, none8, no_counts, within, front}
use Rattle.model.proofs.BoolLaws.{never}
use Rattle.entry_repeat.specs.Repeat.{RepeatReturns, most_inner, inner_sizes}
use Rattle.repeat_bytes.specs.Inner.{outer_slots, inner_slots, value_slots, RepeatRan, RepeatReady, RepeatSent}

-- ---- sizes, and the operation on decoded slices

pub inner-fits : (i : ℕ) → All Fits (inner_sizes i) → i / 4 ≤ most_inner
inner-fits i (more p none) = p

pub repeat_decoded : (r e b : Bits) (lr lj le : ℕ) {o o' v v' t t' : List ℤ} {lo lo' li li' lv lv' : ℕ} → o ≡ o' → v ≡ v' → t ≡ t' → lo ≡ lo' → li ≡ li' → lv ≡ lv'
    → repeat_outcome narrow (column o' r v' e) (arguments t' b) (repeat_room lo' lr li' lj lv' le) ≡ repeat_outcome narrow (column o r v e) (arguments t b) (repeat_room lo lr li lj lv le)
repeat_decoded r e b lr lj le p q s f g h = rw (p, q, s, f, g, h)

-- ---- an answer after the operation

length-outer : (os : List Outer) → length (offsets_from 0 (map outer_length os)) ≡ length os + 1
length-outer os = length-offsets 0 (map outer_length os) ∙ rw (add-one, length-map outer_length os)

length-inner : (os : List Outer) → length (form_offsets (inner os)) ≡ length (inner os) + 1
length-inner os = length-offsets 0 (map length_of (inner os)) ∙ rw (add-one, length-map length_of (inner os))

outer_slots_lem : (x : Outcome (List Outer)) (a : RepeatAnswer) → told_repeat a ≡ answer_of repeat_counts x → outer_slots a ≡ length (written (λ os. offsets_from 0 (map outer_length os)) x)
unfolding told_repeat answer_of written outer_slots
outer_slots_lem (refused k) (Err l) h = refl
outer_slots_lem (refused k) (Ok c) h = never cc
outer_slots_lem (made os) (Err l) h = never cc
outer_slots_lem (made os) (Ok c) h = let z : c.rows ≡ length os = cc in rw z (sym (length-outer os))

inner-slots : (x : Outcome (List Outer)) (a : RepeatAnswer) → told_repeat a ≡ answer_of repeat_counts x → inner_slots a ≡ length (written (λ os. form_offsets (inner os)) x)
unfolding told_repeat answer_of written inner_slots
inner-slots (refused k) (Err l) h = refl
inner-slots (refused k) (Ok c) h = never cc
inner-slots (made os) (Err l) h = never cc
inner-slots (made os) (Ok c) h = let z : c.inner_rows ≡ length (inner os) = cc in rw z (sym (length-inner os))

value_slots_lem : (x : Outcome (List Outer)) (a : RepeatAnswer) → told_repeat a ≡ answer_of repeat_counts x → value_slots a ≡ length (written (λ os. form_values (flat (inner os))) x)
unfolding told_repeat answer_of written value_slots
value_slots_lem (refused k) (Err l) h = refl
value_slots_lem (refused k) (Ok c) h = never cc
value_slots_lem (made os) (Err l) h = never cc
value_slots_lem (made os) (Ok c) h = let z : c.elements ≡ length (flat (inner os)) = cc in z ∙ sym (length-map value_of (flat (inner os)))

-- the operation was lent the first m offsets of o, the first i of io and the first n values of v, which came back as p, s and q
pub repeat_ran : {x y : Outcome (List Outer)} {a : RepeatAnswer} (m i n : ℕ) (o io v : List ℤ) {p s q : List ℤ} {r r' ir ir' e e' : List ℕ} → RepeatMeets x a (take m o) p r r' (take i io) s ir ir' (take n v) q e e'
    → length p ≡ length (take m o) → length s ≡ length (take i io) → length q ≡ length (take n v) → m ≤ length o → i ≤ length io → n ≤ length v → y ≡ x → RepeatRan y a m i n (p ++ drop m o) (s ++ drop i io) (q ++ drop n v) r r' ir ir' e e'
repeat_ran {x = x} {a = a} m i n o io v {p = p} {s = s} {q = q} t h j k f g l z =
    let os = outer_slots_lem x a t.answer in
    let is = inner-slots x a t.answer in
    let vs = value_slots_lem x a t.answer in
    rw z (record {
      answer = t.answer;
      offset-room = rw os (within (written (λ ws. offsets_from 0 (map outer_length ws)) x) o p m t.offsets h f);
      inner_room = rw is (within (written (λ ws. form_offsets (inner ws)) x) io s i t.inner-offsets j g);
      value_room_lem = rw vs (within (written (λ ws. form_values (flat (inner ws))) x) v q n t.values k l);
      offsets = front (written (λ ws. offsets_from 0 (map outer_length ws)) x) o p m t.offsets h f (outer_slots a) os;
      inner-offsets = front (written (λ ws. form_offsets (inner ws)) x) io s i t.inner-offsets j g (inner_slots a) is;
      values = front (written (λ ws. form_values (flat (inner ws))) x) v q n t.values k l (value_slots a) vs;
      rows = t.rows;
      inner-rows = t.inner-rows;
      elements = t.elements;
    })

module _ {x : Outcome (List Outer)} {a : RepeatAnswer} {m i n : ℕ} {o io v : List ℤ} {r r' ir ir' e e' : List ℕ} (t : RepeatRan x a m i n o io v r r' ir ir' e e') where
  pub ready : {lo li lv lc : ℕ} → m ≤ length o → i ≤ length io → n ≤ length v → m ≡ lo / 4 → i ≡ li / 4 → n ≡ lv / 8 → 48 ≤ lc → RepeatReady a (length o) (length io) (length v) lo li lv lc
  ready f g h p q s k =
      record {
        offsets = omega (arith, t.offset-room);
        inner-offsets = omega (arith, t.inner_room);
        values = omega (arith, t.value_room_lem);
        offset-bytes = omega (arith, t.offset-room);
        inner-bytes = omega (arith, t.inner_room);
        value_bytes_lem = omega (arith, t.value_room_lem);
        count-bytes = k;
      }

  pub repeat_returns : {l : ℕ} {bo bo' bi bi' bv bv' c c' : List ℕ} → RepeatSent a l o io v bo bo' bi bi' bv bv' c c' → RepeatReturns x l bo bo' r r' bi bi' ir ir' bv bv' e e' c c'
  repeat_returns {bo = bo} {bi = bi} {bv = bv} {c = c} s =
      record {
        number = s.number ∙ ap number_in t.answer ∙ number_of_lem repeat_counts x;
        offsets = s.offsets ∙ ap (λ w. over w bo) (ap bytes_of4 t.offsets ∙ bytes-written bytes_of4 (λ os. offsets_from 0 (map outer_length os)) x none4);
        rows = t.rows;
        inner-offsets = s.inner-offsets ∙ ap (λ w. over w bi) (ap bytes_of4 t.inner-offsets ∙ bytes-written bytes_of4 (λ os. form_offsets (inner os)) x none4);
        inner-rows = t.inner-rows;
        values = s.values ∙ ap (λ w. over w bv) (ap bytes_of8 t.values ∙ bytes-written bytes_of8 (λ os. form_values (flat (inner os))) x none8);
        elements = t.elements;
        counts = s.counts ∙ ap (λ w. over w c) (ap bytes_of_counts (ap counts_in t.answer ∙ counts_of repeat_counts x) ∙ bytes-written bytes_of_counts repeat_counts x no_counts);
      }

-- ---- what is returned

pub repeat_refused : {x : Outcome (List Outer)} (k : ℕ) {o r io ir v e c : List ℕ} → x ≡ refused k → RepeatReturns x k o o r r io io ir ir v v e e c c
unfolding number_of written
repeat_refused k q =
    rw q (record { number = refl; offsets = refl; rows = refl; inner-offsets = refl; inner-rows = refl; values = refl; elements = refl; counts = refl })

pub repeat_as : {x y : Outcome (List Outer)} {n : ℕ} {o o' r r' io io' ir ir' v v' e e' c c' : List ℕ} → y ≡ x → RepeatReturns x n o o' r r' io io' ir ir' v v' e e' c c' → RepeatReturns y n o o' r r' io io' ir ir' v v' e e' c c'
repeat_as h m = rw h m
