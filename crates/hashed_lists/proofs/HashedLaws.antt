-- From a list answer and a clean work area to what a contract says of a call.
use mathlib.Core.Path.{◌≡◌, ap, ◌∙◌}
use mathlib.Core.List.{List}
use Prim.Native.Nat.{ℕ}
use lib.IntN.{ℤ}
use lib.ListN.{length, replicate}
use Rattle.model.specs.Column.{Row}
use Rattle.model.specs.Contract.{ListMeets, HashMeets}
use Rattle.model.specs.Outcome.{Outcome, refused}
use Rattle.std.specs.Prelude.{Err}
use Rattle.model.specs.Answers.{ListAnswer, number_of}
use Rattle.model.specs.declared.Refusal.{Refusal}
use Rattle.column.proofs.AnswerLaws.{list-refused}
use Rattle.hash_slots.specs.Slots.{CleanFrom}
use Rattle.hash_slots.proofs.SlotLaws.{clean_zeros, zeros_clean}

-- a refusal changes no output, and leaves the area as it was cleared
pub refused_cleared : {x : Outcome (List Row)} (k : Refusal) {n : ℕ} {o v : List ℤ} {r e w : List ℕ} → x ≡ refused (number_of k) → w ≡ replicate n 0 → HashMeets x n (Err k) o o r r v v e e w
refused_cleared k h z = record { list = list-refused k h; area = z }

-- what the walk gave; y is the call's own outcome, and n the length of the area as it was lent
pub walked : {x y : Outcome (List Row)} {n : ℕ} {a : ListAnswer} {o o' v v' : List ℤ} {r r' e e' w : List ℕ} → y ≡ x → ListMeets x a o o' r r' v v' e e' → CleanFrom 0 w → length w ≡ n → HashMeets y n a o o' r r' v v' e e' w
walked {w = w} h m c l = record { list = rw h m; area = clean_zeros w c ∙ ap (λ (j : ℕ). replicate j 0) l }

-- an area that was cleared is clean
pub cleared : (n : ℕ) {w : List ℕ} → w ≡ replicate n 0 → CleanFrom 0 w
cleared n h = rw h (zeros_clean n)
