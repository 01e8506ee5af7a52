-- The refusal of a call by its columns, in the order of the definitions.
use Prim.Native.Nat.{ℕ}
use mathlib.Core.Path.{◌≡◌, refl, sym, ◌∙◌}
use mathlib.Core.Bool.{Bool, true, false, not, ◌&&◌, ◌||◌}
use mathlib.Core.List.{List, [], ◌∷◌}
use lib.Dec.{ltb, eqb}
use lib.ListN.{length}
use Rattle.model.specs.Basics.{pick, any}
use Rattle.model.specs.Column.{Column, Arguments, rows_of, shown_by, row_count, refusal13ᵃ, refusal2ᵃ}
use Rattle.model.specs.Outcome.{columns_refusal, early_refusal}
use Rattle.model.specs.Refusals.{or_else, unequal, differs_lent, wrong_limit}
use Rattle.model.specs.Rows.{on_call, on_lent, lent_of, lists_in, arguments_in}
use Rattle.model.proofs.ColumnLaws.{length-rows, length-shown}
use Rattle.model.proofs.EarlyLaws.{or_first}
use Rattle.model.proofs.OutcomeLaws.{thirteen_of_arguments, lists-next, arguments-next}
use Rattle.ops.specs.Ops.{call_of, takes_of, second_limit, third_limit, table}
use Rattle.ops.specs.declared.ListOp.{ListOp}
use Rattle.ops.specs.declared.ListOp.TheVariants as L
use Rattle.arguments.specs.Taken.{over_if, start_over, short_if, wrong_if, arguments_refusal}

or_false : (b : Bool) → b || false ≡ b
or_false true = refl
or_false false = refl

or_right : (a b d : Bool) → a || (b || d) ≡ (a || b) || d
or_right true b d = refl
or_right false b d = refl

pub lists_are : {C A : Type 0} (op : ListOp) (c : C) (x y z : A) → lists_in (call_of op c x y z) ≡ c ∷ []
unfolding lists_in call_of
lists_are (L.Plain u) c x y z = refl
lists_are L.Slice c x y z = refl
lists_are L.SliceBy c x y z = refl
lists_are L.Resize c x y z = refl
lists_are L.ResizeWith c x y z = refl
lists_are L.Replace c x y z = refl
lists_are L.Remove c x y z = refl

pub call-shown : (op : ListOp) (c : Column) (x y z : Arguments) → on_call rows_of shown_by (call_of op c x y z) ≡ call_of op (rows_of c) (shown_by x) (shown_by y) (shown_by z)
unfolding on_call call_of on_lent
call-shown (L.Plain u) c x y z = refl
call-shown L.Slice c x y z = refl
call-shown L.SliceBy c x y z = refl
call-shown L.Resize c x y z = refl
call-shown L.ResizeWith c x y z = refl
call-shown L.Replace c x y z = refl
call-shown L.Remove c x y z = refl

overs_are : (op : ListOp) (c : Column) (x y z : Arguments) → any refusal13ᵃ (arguments_in (call_of op c x y z)) ≡ start_over op x.bits.start y.bits.start z.bits.start
unfolding any arguments_in call_of lent_of start_over over_if table refusal13ᵃ
overs_are (L.Plain u) c x y z = refl
overs_are L.Slice c x y z = or_right (ltb 7 x.bits.start) (ltb 7 y.bits.start) false
overs_are L.SliceBy c x y z = rw (or_false (ltb 7 z.bits.start)) (or_right (ltb 7 x.bits.start) (ltb 7 y.bits.start) (ltb 7 z.bits.start))
overs_are L.Resize c x y z = or_right (ltb 7 x.bits.start) false false
overs_are L.ResizeWith c x y z = or_right (ltb 7 x.bits.start) (ltb 7 y.bits.start) false
overs_are L.Replace c x y z = rw (or_false (ltb 7 z.bits.start)) (or_right (ltb 7 x.bits.start) (ltb 7 y.bits.start) (ltb 7 z.bits.start))
overs_are L.Remove c x y z = or_right (ltb 7 x.bits.start) (ltb 7 y.bits.start) false

abbrev shorts : ListOp → Arguments → Arguments → Arguments → Bool
shorts op x y z = short_if (ltb 0 (takes_of op)) x || short_if (ltb 1 (takes_of op)) y || short_if (ltb 2 (takes_of op)) z

abbrev wrongs : ListOp → ℕ → Arguments → Arguments → Arguments → Bool
wrongs op n x y z = wrong_if (ltb 0 (takes_of op)) false n (length x.values) || wrong_if (ltb 1 (takes_of op)) (second_limit op) n (length y.values) || wrong_if (ltb 2 (takes_of op)) (third_limit op) n (length z.values)

shorts_are : (op : ListOp) (c : Column) (x y z : Arguments) → any refusal2ᵃ (arguments_in (call_of op c x y z)) ≡ shorts op x y z
unfolding any arguments_in call_of lent_of short_if table
shorts_are (L.Plain u) c x y z = refl
shorts_are L.Slice c x y z = or_right (refusal2ᵃ x) (refusal2ᵃ y) false
shorts_are L.SliceBy c x y z = rw (or_false (refusal2ᵃ z)) (or_right (refusal2ᵃ x) (refusal2ᵃ y) (refusal2ᵃ z))
shorts_are L.Resize c x y z = or_right (refusal2ᵃ x) false false
shorts_are L.ResizeWith c x y z = or_right (refusal2ᵃ x) (refusal2ᵃ y) false
shorts_are L.Replace c x y z = rw (or_false (refusal2ᵃ z)) (or_right (refusal2ᵃ x) (refusal2ᵃ y) (refusal2ᵃ z))
shorts_are L.Remove c x y z = or_right (refusal2ᵃ x) (refusal2ᵃ y) false

wrongs_are : (op : ListOp) (c : Column) (x y z : Arguments) → unequal (call_of op (rows_of c) (shown_by x) (shown_by y) (shown_by z)) ≡ wrongs op (row_count c.offsets) x y z
unfolding unequal call_of differs_lent wrong_limit wrong_if table
wrongs_are (L.Plain u) c x y z = refl
wrongs_are L.Slice c x y z = rw (length-rows c, length-shown x, length-shown y)
wrongs_are L.SliceBy c x y z = rw (length-rows c, length-shown x, length-shown y, length-shown z)
wrongs_are L.Resize c x y z = rw (length-rows c, length-shown x) (sym (or_false (not (eqb (length x.values) (row_count c.offsets)) || false)))
wrongs_are L.ResizeWith c x y z = rw (length-rows c, length-shown x, length-shown y) (sym (or_false (not (eqb (length x.values) (row_count c.offsets)) || not (eqb (length y.values) (row_count c.offsets)))))
wrongs_are L.Replace c x y z = rw (length-rows c, length-shown x, length-shown y, length-shown z)
wrongs_are L.Remove c x y z = rw (length-rows c, length-shown x, length-shown y) (sym (or_false (not (eqb (length x.values) (row_count c.offsets)) || (not (eqb (length y.values) 1) && not (eqb (length y.values) (row_count c.offsets))))))

-- 2 of the arguments, then 3
then_three : (t u : Bool) → pick t 2 (pick u 3 0) ≡ or_else (pick t 2 0) (pick u 3 0)
then_three true u = refl
then_three false u = refl

module _ (op : ListOp) (c : Column) (x y z : Arguments) where
  abbrev taken : List Arguments
  taken = arguments_in (call_of op c x y z)

  early_is : early_refusal (call_of op c x y z) ≡ or_else (columns_refusal (c ∷ []) taken) (pick (wrongs op (row_count c.offsets) x y z) 3 0)
  unfolding early_refusal
  early_is = rw (lists_are op c x y z, call-shown op c x y z, wrongs_are op c x y z)

  pub call_starts : start_over op x.bits.start y.bits.start z.bits.start ≡ true → 13 ≡ early_refusal (call_of op c x y z)
  call_starts h = rw (early_is, thirteen_of_arguments (c ∷ []) taken (overs_are op c x y z ∙ h))

  module _ (s : start_over op x.bits.start y.bits.start z.bits.start ≡ false) where
    pub call_early : (k : ℕ) → k ≡ columns_refusal (c ∷ []) [] → (k ≡ 0 → ⊥) → k ≡ early_refusal (call_of op c x y z)
    call_early k e h = rw (early_is, lists-next (c ∷ []) taken (overs_are op c x y z ∙ s) k e h) (sym (or_first k _ h))

    number_is : columns_refusal (c ∷ []) [] ≡ 0 → columns_refusal (c ∷ []) taken ≡ pick (shorts op x y z) 2 0
    number_is e = arguments-next (c ∷ []) taken (overs_are op c x y z ∙ s) (columns_refusal (c ∷ []) []) refl e ∙ rw (shorts_are op c x y z)

    pub call-arguments : columns_refusal (c ∷ []) [] ≡ 0 → (j : ℕ) → j ≡ arguments_refusal op (row_count c.offsets) x y z → j ≡ early_refusal (call_of op c x y z)
    unfolding arguments_refusal
    call-arguments e j d = d ∙ rw (early_is, number_is e) (then_three (shorts op x y z) (wrongs op (row_count c.offsets) x y z))
