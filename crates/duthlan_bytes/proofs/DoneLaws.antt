-- What an entry's refusals and its answer come to.
use mathlib.Core.Path.{◌≡◌, refl, sym, ap, ◌∙◌}
use mathlib.Core.List.{List, ◌++◌}
use Prim.Native.Nat.{ℕ, ◌≤◌, ◌/◌}
use native.Mathlib.Omega.{arith}
use lib.IntN.{ℤ}
use lib.ListN.{length, take, drop}
use Rattle.std.specs.Prelude.{Result, Ok, Err}
use Rattle.model.specs.Basics.{Lent, absent, given}
use Rattle.model.specs.Column.{Elem, Row, Column, Arguments}
use Rattle.model.specs.Form.{Outer}
use Rattle.model.specs.Outcome.{Outcome, refused}
use Rattle.model.specs.Contract.{room, ListMeets, RepeatMeets, ValueMeets}
use Rattle.model.specs.Answers.{ListAnswer, RepeatAnswer, ValueAnswer}
use Rattle.model.specs.Limits.{narrow}
use Rattle.model.specs.Recipe.{recipe_outcome, stationed}
use Rattle.recipe_refusal.specs.Refused.{recipe}
use Rattle.wire.specs.Bytes.{nats}
use Rattle.entry.specs.Entry.{ListReturns, ValueReturns, entered}
use Rattle.entry.specs.Inner.{ListRan, ValueRan}
use Rattle.entry.specs.Misfits.{misfit_by, number_of_misfit}
use Rattle.entry.specs.declared.sizes.Misfit.{Misfit}
use Rattle.entry.specs.declared.sizes.Misfit.TheVariants.{Ragged, Outsize, NoSuchOperation}
use Rattle.entry.proofs.AnswerLaws.{value_ran, list_ran}
use Rattle.entry_repeat.proofs.RepeatLaws.{repeat_ran}
use Rattle.repeat_bytes.specs.Inner.{RepeatRan}
use Rattle.entry.proofs.EntryLaws.{size-refused, value_refused, list-refused}

pub misfit_counts : (m : Misfit) → number_of_misfit m ≡ 0 → ⊥
misfit_counts Ragged h = omega (arith, h)
misfit_counts Outsize h = omega (arith, h)
misfit_counts NoSuchOperation h = omega (arith, h)

-- the sizes are refused
module _ {A L B : Type 0} {f : Lent (L → Outcome A)} {g : L → Outcome A} (k : ℕ) (l : L) {r : Result B Misfit} {m : Misfit} (h : f ≡ given g) (e : misfit_by r ≡ k) (i : r ≡ Err m) where
  pub misfit_refused : entered f k l ≡ refused (number_of_misfit m)
  misfit_refused = size-refused k l h (sym (ap misfit_by i) ∙ e) (misfit_counts m)

-- none is
pub misfit_none : {B : Type 0} {r : Result B Misfit} {k : ℕ} {b : B} → misfit_by r ≡ k → r ≡ Ok b → k ≡ 0
misfit_none e i = sym e ∙ ap misfit_by i

-- the front that was lent came back as q, and what the operation left in it is w
pub value_done : {x y : Outcome (List Elem)} {a : ValueAnswer} (n : ℕ) (v : List ℤ) {w q p d : List ℤ} {r r' s : List ℕ} → q ≡ w → s ≡ r' → p ≡ take n v → d ≡ drop n v → ValueMeets x a p w r r' → length q ≡ length p → n ≤ length v → y ≡ x → ValueRan y a n (q ++ d) r s
value_done n v h i e f t k l z = rw (i, f) (value_ran n v (rw (e, ← h) at t) (rw e at k) l z)

pub list_done : {x y : Outcome (List Row)} {a : ListAnswer} (m n : ℕ) (o v : List ℤ) {c b c' b' w q p d : List ℤ} {r r' s e e' t : List ℕ}
    → c' ≡ c → q ≡ w → s ≡ r' → t ≡ e' → b ≡ take m o → b' ≡ drop m o → p ≡ take n v → d ≡ drop n v → ListMeets x a b c r r' p w e e' → length c' ≡ length b → length q ≡ length p → m ≤ length o → n ≤ length v → y ≡ x → ListRan y a m n (c' ++ b') (q ++ d) r s e t
list_done m n o v h h' i j f f' g g' t k k' l l' z = rw (i, j, f', g') (list_ran m n o v (rw (f, g, ← h, ← h') at t) (rw f at k) (rw g at k') l l' z)

pub repeat_done : {x y : Outcome (List Outer)} {a : RepeatAnswer} (m i n : ℕ) (o io v : List ℤ) {c b c' b' j g j' g' w q p d : List ℤ} {r r' s ir ir' u e e' t : List ℕ}
    → c' ≡ c → j' ≡ j → q ≡ w → s ≡ r' → u ≡ ir' → t ≡ e' → b ≡ take m o → b' ≡ drop m o → g ≡ take i io → g' ≡ drop i io → p ≡ take n v → d ≡ drop n v → RepeatMeets x a b c r r' g j ir ir' p w e e'
    → length c' ≡ length b → length j' ≡ length g → length q ≡ length p → m ≤ length o → i ≤ length io → n ≤ length v → y ≡ x → RepeatRan y a m i n (c' ++ b') (j' ++ g') (q ++ d) r s ir u e t
repeat_done m i n o io v hc hj hq hs hu ht fb fb' fg fg' fp fd t kc kj kq l li ln z = rw (hs, hu, ht, fb', fg', fd) (repeat_ran m i n o io v (rw (fb, fg, fp, ← hc, ← hj, ← hq) at t) (rw fb at kc) (rw fg at kj) (rw fp at kq) l li ln z)

-- a recipe's outcome of the columns and the lengths as the code has them
pub recipe_as : (s k : ℕ) (ns : List ℕ) {c c' d d' : Column} {e e' : Arguments} {ao ao' av av' bo bo' bv bv' lo lo' lv lv' : ℕ} (ar ae br be lr le : ℕ) → c' ≡ c → d' ≡ d → e' ≡ e → ao' ≡ ao → av' ≡ av → bo' ≡ bo → bv' ≡ bv → lo' ≡ lo → lv' ≡ lv
    → stationed s (recipe_outcome narrow (recipe (nats 4 ns) k) c d e (room ao ar av ae) (room bo br bv be) (room lo lr lv le)) ≡ stationed s (recipe_outcome narrow (recipe (nats 4 ns) k) c' d' e' (room ao' ar av' ae) (room bo' br bv' be) (room lo' lr lv' le))
recipe_as s k ns ar ae br be lr le hc hd he p q u v f g = rw (hc, hd, he, p, q, u, v, f, g)
