-- Laws of what is sent of list-repeat's answer.
use mathlib.Core.Path.{◌≡◌, refl}
use Rattle.std.specs.Prelude.{Ok, Err}
use mathlib.Core.List.{List, [], ◌∷◌, flat_map}
use Prim.Native.Nat.{ℕ, ◌+◌, ◌*◌, ◌≤◌}
use lib.IntN.{ℤ}
use lib.ListN.{take}
use Rattle.model.specs.Form.{over}
use Rattle.model.specs.Contract.{told_repeat}
use Rattle.model.specs.declared.Refusal.{Refusal}
use Rattle.model.specs.declared.RepeatCounts.{RepeatCounts}
use Rattle.model.specs.Answers.{number_of, RepeatAnswer}
use Rattle.wire.specs.Bytes.{bytes_of, bytes_of4, bytes_of8, bytes_of_counts}
use Rattle.entry.specs.Inner.{number_in, counts_in}
use Rattle.repeat_bytes.specs.Inner.{outer_slots, inner_slots, value_slots, RepeatReady, RepeatSent}

pub sent_refused : {a : RepeatAnswer} (k : Refusal) {o io v : List ℤ} {bo bi bv c : List ℕ} → a ≡ Err k → RepeatSent a (number_of k) o io v bo bo bi bi bv bv c c
unfolding told_repeat number_in counts_in outer_slots inner_slots value_slots bytes_of bytes_of_counts flat_map
sent_refused k q = rw q (record { number = refl; offsets = refl; inner-offsets = refl; values = refl; counts = refl })

module _ {a : RepeatAnswer} {k : RepeatCounts} (q : a ≡ Ok k) where
  pub sent_made : {o io v : List ℤ} {bo bo' bi bi' bv bv' c c' : List ℕ}
      → bo' ≡ over (bytes_of4 (take (k.rows + 1) o)) bo → bi' ≡ over (bytes_of4 (take (k.inner_rows + 1) io)) bi → bv' ≡ over (bytes_of8 (take k.elements v)) bv → c' ≡ over (bytes_of_counts (k.rows ∷ k.elements ∷ k.null_rows ∷ k.null_elements ∷ k.inner_rows ∷ k.null_inner_rows ∷ [])) c
      → RepeatSent a 0 o io v bo bo' bi bi' bv bv' c c'
  unfolding told_repeat number_in counts_in outer_slots inner_slots value_slots
  sent_made f g h l = rw q (record { number = refl; offsets = f; inner-offsets = g; values = h; counts = l })

  pub counted : {o io v lo li lv lc : ℕ} → RepeatReady a o io v lo li lv lc → (k.rows + 1 ≤ o) × (k.inner_rows + 1 ≤ io) × (k.elements ≤ v)
  unfolding outer_slots inner_slots value_slots
  counted d = (rw q at d.offsets, rw q at d.inner-offsets, rw q at d.values)

  pub counted-bytes : {o io v lo li lv lc : ℕ} → RepeatReady a o io v lo li lv lc → ((k.rows + 1) * 4 ≤ lo) × ((k.inner_rows + 1) * 4 ≤ li) × (k.elements * 8 ≤ lv)
  unfolding outer_slots inner_slots value_slots
  counted-bytes d = (rw q at d.offset-bytes, rw q at d.inner-bytes, rw q at d.value_bytes_lem)
