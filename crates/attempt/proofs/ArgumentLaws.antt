-- Laws of a recipe's arguments from row a of their first column on: how many there are, what they show, and their bitmap.
use Prim.Native.Nat.{ℕ, zero, suc, ◌+◌, ◌-◌, ◌≤◌}
use mathlib.Core.Path.{◌≡◌, refl, sym, ap, ◌∙◌}
use mathlib.Core.Bool.{Bool, true, false}
use native.Mathlib.Omega.{arith}
use borrow.Author.Tests.{ltb-true, ltb-false}
use lib.Dec.{ltb}
use lib.ListN.{length, take, drop, length-drop}
use lib.Seq.{take-length}
use Rattle.model.specs.Basics.{pick, tab}
use Rattle.model.specs.Column.{Arguments, elem_at, shown_by}
use Rattle.model.proofs.TabLaws.{tab-none}
use Rattle.bitmap.specs.Push.{Covers, bits_from}
use Rattle.bitmap.proofs.PartLaws.{covers_from}
use Rattle.column.specs.Put.{ReadableElemsˡ}
use Rattle.set_elements.proofs.PartLaws.{row_from_lem}
use Rattle.window.specs.Cut.{first_argument, rest_from}

drop-tab : {A : Type 0} (f : ℕ → A) (i n a : ℕ) → drop a (tab f i n) ≡ tab f (i + a) (n - a)
unfolding tab
drop-tab f i n zero = let e : i + 0 ≡ i = omega arith in let d : n - 0 ≡ n = omega arith in rw (e, d)
drop-tab f i zero (suc a) = sym (tab-none f (i + suc a) (0 - suc a) (omega arith))
drop-tab f i (suc n) (suc a) = drop-tab f (suc i) n a ∙ (let e : suc i + a ≡ i + suc a = omega arith in let d : n - a ≡ suc n - suc a = omega arith in rw (e, d))

module _ (e : Arguments) (a : ℕ) where
  abbrev len : ℕ
  len = length e.values

  abbrev at : ℕ
  at = first_argument a len

  where_it_is : (t : Bool) (s : ℕ) → ltb a len ≡ t → s ≡ pick t a len → (s ≤ len) × (len - s ≡ len - a) × (tab (elem_at e.values e.bits) s (len - s) ≡ tab (elem_at e.values e.bits) (0 + a) (len - a))
  where_it_is true s h i = let l = ltb-true a len h in let y : 0 + a ≡ a = omega arith in rw (i, y) (omega arith, refl, refl)
  where_it_is false s h i =
      let l = ltb-false a len h in
      (omega arith, omega arith, tab-none (elem_at e.values e.bits) s (len - s) (omega arith) ∙ sym (tab-none (elem_at e.values e.bits) (0 + a) (len - a) (omega arith)))

  it_is : (at ≤ len) × (len - at ≡ len - a) × (tab (elem_at e.values e.bits) at (len - at) ≡ tab (elem_at e.values e.bits) (0 + a) (len - a))
  it_is = where_it_is (ltb a len) at refl refl

  length_rest : length (drop at e.values) ≡ len - at
  length_rest = length-drop at e.values

  whole : take (len - at) (drop at e.values) ≡ drop at e.values
  whole = rw (← length_rest) (take-length (drop at e.values))

  pub left_over : length (rest_from e a).values ≡ len - a
  left_over = length_rest ∙ it_is.1

  module _ (g : Covers e.bits (length e.values)) where
    source : ReadableElemsˡ e.values e.bits at (len - at)
    source = record { inside = omega (arith, it_is.0); bits = g }

    pub rest_covers : {r : Arguments} → r ≡ rest_from e a → Covers r.bits (length r.values)
    rest_covers q = rw (q, length_rest) (covers_from e.bits at (len - at) len g (omega (arith, it_is.0)))

    pub rest_shown : shown_by (rest_from e a) ≡ drop a (shown_by e)
    unfolding shown_by
    rest_shown =
        rw length_rest (sym (rw whole at (row_from_lem e.values e.bits at (len - at) source)))
        ∙ it_is.2
        ∙ sym (drop-tab (elem_at e.values e.bits) 0 len a)
