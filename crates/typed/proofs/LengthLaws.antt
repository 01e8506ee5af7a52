-- Lengths told through numbers, and what a typed entry returns by them.
use mathlib.Core.Path.{◌≡◌, refl}
use Rattle.std.specs.Prelude.{Ok, Err}
use mathlib.Core.Bool.{Bool, true, false}
use mathlib.Core.List.{List, [], ◌∷◌}
use Prim.Native.Nat.{ℕ}
use Rattle.model.specs.Asked.{asked_list, asked_values, asked_repeat, asked_recipe}
use Rattle.model.specs.Basics.{Lent, absent, given}
use Rattle.model.specs.Call.{room_counts, value_room_counts, repeat_room_counts, limit_counts, written}
use Rattle.model.specs.Form.{over}
use Rattle.model.specs.Outcome.{Outcome, refused, made, gate}
use Rattle.model.specs.declared.Refusal.{Refusal}
use Rattle.model.specs.declared.ListSlots.{ListSlots}
use Rattle.model.specs.declared.RepeatSlots.{RepeatSlots}
use Rattle.model.specs.declared.TrayElements.{TrayElements}
use Rattle.model.specs.declared.ValueSlots.{ValueSlots}
use Rattle.model.specs.Answers.{number_of as refusal_number, ListLengths, ValueLengths, RepeatLengths, RecipeLimits}
use Rattle.entry.specs.Entry.{number_of}
use Rattle.typed.specs.Typed.{measured, TypedLengths}

-- ---- an answer is told; y is the outcome that it stands for

refused-told : {A : Type 0} (f : A → List ℕ) {y : Outcome A} (k : ℕ) {c : List ℕ} → y ≡ refused k → TypedLengths f y k c c
unfolding number_of written
refused-told f k q = rw q (record { number = refl; lengths = refl })

made_told : {A : Type 0} (f : A → List ℕ) {y : Outcome A} (a : A) {c c' : List ℕ} → y ≡ made a → c' ≡ over (f a) c → TypedLengths f y 0 c c'
unfolding number_of written
made_told f a q h = rw q (record { number = refl; lengths = h })

pub list-refused : {a : ListLengths} (k : Refusal) {c : List ℕ} → a ≡ Err k → TypedLengths room_counts (asked_list a) (refusal_number k) c c
unfolding asked_list
list-refused k q = refused-told room_counts (refusal_number k) (rw q)

pub list-made : {a : ListLengths} {k : ListSlots} {c c' : List ℕ} → a ≡ Ok k → c' ≡ over (k.offsets ∷ k.rows ∷ k.values ∷ k.elements ∷ []) c → TypedLengths room_counts (asked_list a) 0 c c'
unfolding asked_list
list-made q h = made_told room_counts _ (rw q) h

pub value_refused : {a : ValueLengths} (k : Refusal) {c : List ℕ} → a ≡ Err k → TypedLengths value_room_counts (asked_values a) (refusal_number k) c c
unfolding asked_values
value_refused k q = refused-told value_room_counts (refusal_number k) (rw q)

pub value_made_lem : {a : ValueLengths} {k : ValueSlots} {c c' : List ℕ} → a ≡ Ok k → c' ≡ over (k.values ∷ k.rows ∷ []) c → TypedLengths value_room_counts (asked_values a) 0 c c'
unfolding asked_values
value_made_lem q h = made_told value_room_counts _ (rw q) h

pub repeat_refused : {a : RepeatLengths} (k : Refusal) {c : List ℕ} → a ≡ Err k → TypedLengths repeat_room_counts (asked_repeat a) (refusal_number k) c c
unfolding asked_repeat
repeat_refused k q = refused-told repeat_room_counts (refusal_number k) (rw q)

pub repeat_made : {a : RepeatLengths} {k : RepeatSlots} {c c' : List ℕ} → a ≡ Ok k → c' ≡ over (k.offsets ∷ k.rows ∷ k.inner_offsets ∷ k.inner_rows ∷ k.values ∷ k.elements ∷ []) c → TypedLengths repeat_room_counts (asked_repeat a) 0 c c'
unfolding asked_repeat
repeat_made q h = made_told repeat_room_counts _ (rw q) h

pub limit_refused : {a : RecipeLimits} (k : Refusal) {c : List ℕ} → a ≡ Err k → TypedLengths limit_counts (asked_recipe a) (refusal_number k) c c
unfolding asked_recipe
limit_refused k q = refused-told limit_counts (refusal_number k) (rw q)

pub limit_made : {a : RecipeLimits} {k : TrayElements} {c c' : List ℕ} → a ≡ Ok k → c' ≡ over (k.one ∷ k.two ∷ k.output ∷ []) c → TypedLengths limit_counts (asked_recipe a) 0 c c'
unfolding asked_recipe
limit_made q h = made_told limit_counts _ (rw q) h

-- ---- what an entry comes to: x is what it serves by its code, b whether the lengths have too few places

module _ {A : Type 0} (f : A → List ℕ) {x : Lent (Outcome A)} where
  pub no_such_lengths : (b : Bool) {c : List ℕ} → x ≡ absent → TypedLengths f (measured x b) 100 c c
  unfolding measured
  no_such_lengths b e = refused-told f 100 (rw e)

  pub short_lengths : (b : Bool) {y : Outcome A} {c : List ℕ} → x ≡ given y → b ≡ true → TypedLengths f (measured x b) 100 c c
  unfolding measured gate
  short_lengths b e t = refused-told f 100 (rw (e, t))

  -- z is what the code was answered
  pub own_lengths : (b : Bool) {y z : Outcome A} {n : ℕ} {c c' : List ℕ} → x ≡ given y → b ≡ false → z ≡ y → TypedLengths f z n c c' → TypedLengths f (measured x b) n c c'
  unfolding measured gate
  own_lengths b e t q h = rw (e, t, ← q) h
