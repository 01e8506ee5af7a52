-- What is read of bytes; and what an operation leaves in its outputs, and what is sent of them, come to what an entry returns.
use mathlib.Core.Path.{◌≡◌, refl, sym, ap, ◌∙◌}
use Rattle.std.specs.Prelude.{Ok, Err}
use mathlib.Core.List.{List, [], ◌∷◌, ◌++◌, map, flat_map, append_assoc}
use Prim.Native.Nat.{ℕ, ◌+◌, ◌*◌, ◌/◌, ◌≤◌}
use native.Mathlib.Numerals.{add-one}
use native.Mathlib.Omega.{arith}
use lib.IntN.{ℤ}
use lib.ListN.{length, take, drop, length-append, length-drop}
use lib.Seq.{take_at, length-take-le}
use Rattle.model.specs.Column.{Elem, Row}
use Rattle.model.specs.Form.{over, length_of, flat, value_of, form_offsets, form_values}
use Rattle.model.specs.Outcome.{Outcome, refused, made}
use Rattle.model.specs.Call.{answer_of, written, list_counts, value_counts}
use Rattle.model.specs.Contract.{told, told_value, ListMeets, ValueMeets}
use Rattle.model.specs.declared.Refusal.{Refusal}
use Rattle.model.specs.declared.ListCounts.{ListCounts}
use Rattle.model.specs.declared.ValueCounts.{ValueCounts}
use Rattle.model.specs.Answers.{number_of as refusal_number, ListAnswer, ValueAnswer}
use Rattle.model.proofs.TabLaws.{length-map}
use Rattle.model.proofs.FormLaws.{length-offsets}
use Rattle.wire.specs.Bytes.{bytes_of, bytes_of4, bytes_of8, bytes_of_counts}
use Rattle.entry.specs.Entry.{ListReturns, ValueReturns, number_of}
use Rattle.entry.specs.Inner.{number_in, counts_in, offset_slots, value_slots, slots, ListRan, Ready, Sent, ValueRan, ValueReady, ValueSent}
use Rattle.model.proofs.BoolLaws.{never}

-- ---- an outcome's number and counts, and the bytes of what it writes

pub number_of_lem : {A : Type 0} (f : A → List ℕ) (x : Outcome A) → number_in (answer_of f x) ≡ number_of x
unfolding number_in number_of answer_of
number_of_lem f (refused k) = refl
number_of_lem f (made a) = refl

pub counts_of : {A : Type 0} (f : A → List ℕ) (x : Outcome A) → counts_in (answer_of f x) ≡ written f x
unfolding counts_in answer_of written
counts_of f (refused k) = refl
counts_of f (made a) = refl

pub bytes-written : {A B : Type 0} (g : List B → List ℕ) (f : A → List B) (x : Outcome A) → g [] ≡ [] → g (written f x) ≡ written (λ a. g (f a)) x
unfolding written
bytes-written g f (refused k) h = h
bytes-written g f (made a) h = refl

-- no numbers, no bytes
pub none4 : bytes_of4 [] ≡ []
unfolding bytes_of flat_map
none4 = refl

pub none8 : bytes_of8 [] ≡ []
unfolding bytes_of flat_map
none8 = refl

pub no_counts : bytes_of_counts [] ≡ []
unfolding bytes_of_counts flat_map
no_counts = refl

-- ---- a slice whose front n was lent, to have w written over it

-- the numbers that were filled in, at its front
pub filled : {A : Type 0} (w d : List A) {d' : List A} (n : ℕ) → d' ≡ over w d → length w ≡ n → take n d' ≡ w
filled w d n h l = ap (take n) h ∙ take_at w (drop (length w) d) n l

-- p is the front as it came back: w is within it, and at the front of all
module _ {A : Type 0} (w d p : List A) (n : ℕ) (h : p ≡ over w (take n d)) (k : length p ≡ length (take n d)) (l : n ≤ length d) where
  pub within : length w ≤ n
  within = omega (arith, ap length h, length-append w (drop (length w) (take n d)), length-drop (length w) (take n d), length-take-le n d l)

  pub front : (s : ℕ) → s ≡ length w → take s (p ++ drop n d) ≡ w
  front s e = rw (h, append_assoc w (drop (length w) (take n d)) (drop n d)) (take_at w (drop (length w) (take n d) ++ drop n d) s (sym e))

-- ---- a list answer is sent

pub sent_refused : {a : ListAnswer} (k : Refusal) {o v : List ℤ} {bo bv c : List ℕ} → a ≡ Err k → Sent a (refusal_number k) o v bo bo bv bv c c
unfolding told number_in counts_in offset_slots value_slots bytes_of bytes_of_counts flat_map
sent_refused k q = rw q (record { number = refl; offsets = refl; values = refl; counts = refl })

module _ {a : ListAnswer} {k : ListCounts} (q : a ≡ Ok k) where
  pub sent_made : {o v : List ℤ} {bo bo' bv bv' c c' : List ℕ} → bo' ≡ over (bytes_of4 (take (k.rows + 1) o)) bo → bv' ≡ over (bytes_of8 (take k.elements v)) bv → c' ≡ over (bytes_of_counts (k.rows ∷ k.elements ∷ k.null_rows ∷ k.null_elements ∷ [])) c → Sent a 0 o v bo bo' bv bv' c c'
  unfolding told number_in counts_in offset_slots value_slots
  sent_made f g h = rw q (record { number = refl; offsets = f; values = g; counts = h })

  pub counted : {o v lo lv lc : ℕ} → Ready a o v lo lv lc → (k.rows + 1 ≤ o) × (k.elements ≤ v)
  unfolding offset_slots value_slots
  counted d = (rw q at d.offsets, rw q at d.values)

  pub counted-bytes : {o v lo lv lc : ℕ} → Ready a o v lo lv lc → ((k.rows + 1) * 4 ≤ lo) × (k.elements * 8 ≤ lv)
  unfolding offset_slots value_slots
  counted-bytes d = (rw q at d.offset-bytes, rw q at d.value_bytes_lem)

-- ---- a list answer after the operation

length_form : (ws : List Row) → length (form_offsets ws) ≡ length ws + 1
length_form ws = length-offsets 0 (map length_of ws) ∙ rw (add-one, length-map length_of ws)

offset-slots : (x : Outcome (List Row)) (a : ListAnswer) → told a ≡ answer_of list_counts x → offset_slots a ≡ length (written form_offsets x)
unfolding told answer_of written offset_slots
offset-slots (refused k) (Err j) h = refl
offset-slots (refused k) (Ok c) h = never cc
offset-slots (made ws) (Err j) h = never cc
offset-slots (made ws) (Ok c) h = let z : c.rows ≡ length ws = cc in rw z (sym (length_form ws))

value_slots_lem : (x : Outcome (List Row)) (a : ListAnswer) → told a ≡ answer_of list_counts x → value_slots a ≡ length (written (λ ws. form_values (flat ws)) x)
unfolding told answer_of written value_slots
value_slots_lem (refused k) (Err j) h = refl
value_slots_lem (refused k) (Ok c) h = never cc
value_slots_lem (made ws) (Err j) h = never cc
value_slots_lem (made ws) (Ok c) h = let z : c.elements ≡ length (flat ws) = cc in z ∙ sym (length-map value_of (flat ws))

-- the operation was lent the first m offsets of o and the first n values of v, which came back as p and q
pub list_ran : {x y : Outcome (List Row)} {a : ListAnswer} (m n : ℕ) (o v : List ℤ) {p q : List ℤ} {r r' e e' : List ℕ} → ListMeets x a (take m o) p r r' (take n v) q e e' → length p ≡ length (take m o) → length q ≡ length (take n v) → m ≤ length o → n ≤ length v
    → y ≡ x → ListRan y a m n (p ++ drop m o) (q ++ drop n v) r r' e e'
list_ran {x = x} {a = a} m n o v {p = p} {q = q} t h k f g z =
    let i = offset-slots x a t.answer in
    let j = value_slots_lem x a t.answer in
    rw z (record {
      answer = t.answer;
      offset-room = rw i (within (written form_offsets x) o p m t.offsets h f);
      value_room_lem = rw j (within (written (λ ws. form_values (flat ws)) x) v q n t.values k g);
      offsets = front (written form_offsets x) o p m t.offsets h f (offset_slots a) i;
      values = front (written (λ ws. form_values (flat ws)) x) v q n t.values k g (value_slots a) j;
      rows = t.rows;
      elements = t.elements;
    })

pub list_ran_as : {x y : Outcome (List Row)} {a : ListAnswer} {m n : ℕ} {o v : List ℤ} {r r' e e' : List ℕ} → y ≡ x → ListRan x a m n o v r r' e e' → ListRan y a m n o v r r' e e'
list_ran_as h t = rw h t

module _ {x : Outcome (List Row)} {a : ListAnswer} {m n : ℕ} {o v : List ℤ} {r r' e e' : List ℕ} (t : ListRan x a m n o v r r' e e') where
  pub ready : {lo lv lc : ℕ} → m ≤ length o → n ≤ length v → m ≡ lo / 4 → n ≡ lv / 8 → 32 ≤ lc → Ready a (length o) (length v) lo lv lc
  ready f g h k l =
      record {
        offsets = omega (arith, t.offset-room);
        values = omega (arith, t.value_room_lem);
        offset-bytes = omega (arith, t.offset-room);
        value_bytes_lem = omega (arith, t.value_room_lem);
        count-bytes = l;
      }

  pub list_returns : {i : ℕ} {bo bo' bv bv' c c' : List ℕ} → Sent a i o v bo bo' bv bv' c c' → ListReturns x i bo bo' r r' bv bv' e e' c c'
  list_returns {bo = bo} {bv = bv} {c = c} s =
      record {
        number = s.number ∙ ap number_in t.answer ∙ number_of_lem list_counts x;
        offsets = s.offsets ∙ ap (λ w. over w bo) (ap bytes_of4 t.offsets ∙ bytes-written bytes_of4 form_offsets x none4);
        rows = t.rows;
        values = s.values ∙ ap (λ w. over w bv) (ap bytes_of8 t.values ∙ bytes-written bytes_of8 (λ ws. form_values (flat ws)) x none8);
        elements = t.elements;
        counts = s.counts ∙ ap (λ w. over w c) (ap bytes_of_counts (ap counts_in t.answer ∙ counts_of list_counts x) ∙ bytes-written bytes_of_counts list_counts x no_counts);
      }

-- ---- the same of a value answer

pub values-refused : {a : ValueAnswer} (k : Refusal) {v : List ℤ} {bv c : List ℕ} → a ≡ Err k → ValueSent a (refusal_number k) v bv bv c c
unfolding told_value number_in counts_in slots bytes_of bytes_of_counts flat_map
values-refused k q = rw q (record { number = refl; values = refl; counts = refl })

module _ {a : ValueAnswer} {k : ValueCounts} (q : a ≡ Ok k) where
  pub values-made : {v : List ℤ} {bv bv' c c' : List ℕ} → bv' ≡ over (bytes_of8 (take k.rows v)) bv → c' ≡ over (bytes_of_counts (k.rows ∷ k.null_rows ∷ [])) c → ValueSent a 0 v bv bv' c c'
  unfolding told_value number_in counts_in slots
  values-made g h = rw q (record { number = refl; values = g; counts = h })

  pub counted-values : {v lv lc : ℕ} → ValueReady a v lv lc → k.rows ≤ v
  unfolding slots
  counted-values d = rw q at d.values

  pub counted_value_bytes : {v lv lc : ℕ} → ValueReady a v lv lc → k.rows * 8 ≤ lv
  unfolding slots
  counted_value_bytes d = rw q at d.value_bytes_lem

row_slots : (x : Outcome (List Elem)) (a : ValueAnswer) → told_value a ≡ answer_of value_counts x → slots a ≡ length (written form_values x)
unfolding told_value answer_of written slots
row_slots (refused k) (Err j) h = refl
row_slots (refused k) (Ok c) h = never cc
row_slots (made es) (Err j) h = never cc
row_slots (made es) (Ok c) h = let z : c.rows ≡ length es = cc in z ∙ sym (length-map value_of es)

pub value_ran : {x y : Outcome (List Elem)} {a : ValueAnswer} (n : ℕ) (v : List ℤ) {q : List ℤ} {r r' : List ℕ} → ValueMeets x a (take n v) q r r' → length q ≡ length (take n v) → n ≤ length v → y ≡ x → ValueRan y a n (q ++ drop n v) r r'
value_ran {x = x} {a = a} n v {q = q} t k g z =
    let j = row_slots x a t.answer in
    rw z (record {
      answer = t.answer;
      value_room_lem = rw j (within (written form_values x) v q n t.values k g);
      values = front (written form_values x) v q n t.values k g (slots a) j;
      rows = t.rows;
    })

module _ {x : Outcome (List Elem)} {a : ValueAnswer} {n : ℕ} {v : List ℤ} {r r' : List ℕ} (t : ValueRan x a n v r r') where
  pub values_ready : {lv lc : ℕ} → n ≤ length v → n ≡ lv / 8 → 16 ≤ lc → ValueReady a (length v) lv lc
  values_ready g h k =
      record { values = omega (arith, t.value_room_lem); value_bytes_lem = omega (arith, t.value_room_lem); count-bytes = k }

  pub value_returns : {i : ℕ} {bv bv' c c' : List ℕ} → ValueSent a i v bv bv' c c' → ValueReturns x i bv bv' r r' c c'
  value_returns {bv = bv} {c = c} s =
      record {
        number = s.number ∙ ap number_in t.answer ∙ number_of_lem value_counts x;
        values = s.values ∙ ap (λ w. over w bv) (ap bytes_of8 t.values ∙ bytes-written bytes_of8 form_values x none8);
        rows = t.rows;
        counts = s.counts ∙ ap (λ w. over w c) (ap bytes_of_counts (ap counts_in t.answer ∙ counts_of value_counts x) ∙ bytes-written bytes_of_counts value_counts x no_counts);
      }
